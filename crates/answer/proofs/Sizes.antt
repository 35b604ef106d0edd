-- How long written answers are.
use Prim.Native.Nat.{ℕ, ◌+◌, ◌*◌, ◌≤◌, ◌<◌}
use native.Mathlib.Omega.{arith}
use mathlib.Core.Path.{◌≡◌}
use mathlib.Core.List.{List, [], ◌∷◌}
use lib.Dec.{lit≤}
use lib.ListN.{length, length-append}
use Rattle.lists.specs.Lists.{All}
use Rattle.octets.specs.Octets.{bytes}
use Rattle.writers.specs.Decimal.{digits, width}
use Rattle.writers.specs.SelfLength.{self_length}
use Rattle.writers.proofs.Digits.{width_below, three_length}
use Rattle.message.specs.Message.{Field, Message}
use Rattle.message.specs.Message as M
use Rattle.message.specs.StartLines.{state_text}
use Rattle.message.specs.declared.RequestState.{RequestState}
use Rattle.message.specs.declared.RequestState.TheVariants.{Pending, InProgress, Complete}
use Rattle.answer.specs.Written.{start_text, field_text, fields_text, after_length, written}
use Rattle.answer.specs.IdList.{behind_commas, id_list_text}
use Rattle.answer.specs.Answers.{channel_identifier, active_request_id_list, event_name, completion_cause, response, telling, complete}
use Rattle.answer.specs.declared.Kind.{Kind}
use Rattle.answer.proofs.Places.{field_size}
use Rattle.answer.proofs.Frames.{written_length}

pub fields_size : (f : Field (List ℕ)) (fs : List (Field (List ℕ)))
    → length (fields_text (f ∷ fs)) ≡ 3 + length f.name + length f.value + length (fields_text fs)
unfolding fields_text
fields_size f fs = omega (arith, length-append (field_text f) (fields_text fs), field_size f)

self_most : (b : ℕ) → b ≤ 996 → self_length b ≤ b + 3
unfolding self_length
self_most b h =
    let w : width b ≤ 3 = width_below b 2 (omega arith) in
    omega (arith, width_below (b + width b) 2 (omega arith))

pub after_size : (m : Message) → length (after_length m) ≡ 5 + length (start_text m.start) + length (fields_text m.fields) + length m.body
unfolding after_length
after_size m = simp length-append (omega arith)

-- a message of at most 999 bytes has at most three digits of length
message_size : (m : Message) → length (start_text m.start) + length (fields_text m.fields) + length m.body ≤ 982
    → length (written m) ≤ 17 + length (start_text m.start) + length (fields_text m.fields) + length m.body
message_size m h = omega (arith, written_length m, self_most (9 + length (after_length m)) (omega (arith, after_size m)), after_size m)

-- ---- the parts of answers

id_most : (id : ℕ) → id < 4294967296 → width id ≤ 10
id_most id h = width_below id 9 (omega arith)

pub state_most : (state : RequestState) → length (state_text state) ≤ 11
state_most Pending = lit≤ tt
state_most InProgress = lit≤ tt
state_most Complete = lit≤ tt

pub response_start : (id status : ℕ) (state : RequestState) → length (start_text (M.response id status state)) ≡ 5 + width id + length (state_text state)
unfolding start_text
response_start id status state = simp length-append (omega (arith, three_length status))

pub event_start : (name : List ℕ) (id : ℕ) (state : RequestState)
    → length (start_text (M.event name id state)) ≡ 2 + length name + width id + length (state_text state)
unfolding start_text
event_start name id state = simp length-append (omega arith)

commas_most : (is : List ℕ) → All (λ i. i < 4294967296) is → length (behind_commas is) ≤ length is * 11
unfolding behind_commas
commas_most [] h = omega arith
commas_most (i ∷ is) h = simp length-append (omega (arith, id_most i h.0, commas_most is h.1))

-- sixteen ids of ten digits, and fifteen commas
pub list_most : (ids : List ℕ) → length ids ≤ 16 → All (λ i. i < 4294967296) ids → length (fields_text (active_request_id_list ids)) ≤ 200
unfolding fields_text id_list_text
list_most [] l h = omega arith
list_most (i ∷ is) l h =
    let f : Field (List ℕ) = record { name = bytes "Active-Request-Id-List"; value = id_list_text (i ∷ is) } in
    omega (arith, fields_size f [], length-append (digits i) (behind_commas is), id_most i h.0, commas_most is h.1)

-- ---- answers

pub response_size : (name : List ℕ) (id status : ℕ) (state : RequestState) (ids : List ℕ) → length name ≤ 44 → id < 4294967296
    → length (fields_text (active_request_id_list ids)) ≤ 200
    → length (written (response name id status state ids)) ≤ 97 + length (state_text state) + length (fields_text (active_request_id_list ids))
unfolding response
response_size name id status state ids n i l =
    let start = response_start id status state in
    let fields = fields_size (channel_identifier name) (active_request_id_list ids) in
    omega (
      arith,
      message_size (response name id status state ids) (omega (arith, start, fields, id_most id i, state_most state)),
      start,
      fields,
      id_most id i,
    )

-- one that tells fields
pub telling_size : (name : List ℕ) (id status : ℕ) (fs : List (Field (List ℕ))) → length name ≤ 44 → id < 4294967296
    → length (fields_text fs) ≤ 200 → length (written (telling name id status fs)) ≤ 105 + length (fields_text fs)
unfolding telling
telling_size name id status fs n i l =
    let start = response_start id status Complete in
    let fields = fields_size (channel_identifier name) fs in
    omega (
      arith,
      message_size (telling name id status fs) (omega (arith, start, fields, id_most id i)),
      start,
      fields,
      id_most id i,
    )

pub event_most : (kind : Kind) → length (event_name kind) ≤ 20
event_most Kind.Synthesizer = lit≤ tt
event_most Kind.Recognizer = lit≤ tt

pub complete_size : (kind : Kind) (name : List ℕ) (id cause : ℕ) → length name ≤ 44 → id < 4294967296
    → length (completion_cause kind cause).value ≤ 31
    → length (written (complete kind name id cause))
    ≤ 121 + length (event_name kind) + length (completion_cause kind cause).value
unfolding complete fields_text
complete_size kind name id cause n i c =
    let start = event_start (event_name kind) id Complete in
    let first = fields_size (channel_identifier name) (completion_cause kind cause ∷ []) in
    let second = fields_size (completion_cause kind cause) [] in
    omega (
      arith,
      message_size (complete kind name id cause) (omega (arith, start, first, second, id_most id i, event_most kind)),
      start,
      first,
      second,
      id_most id i,
    )
