-- A written message as the pieces that the code writes one behind the other, and the room that they take.
-- Assumes nothing.
use Prim.Native.Nat.{ℕ, ◌+◌}
use native.Mathlib.Omega.{arith}
use mathlib.Core.Path.{◌≡◌, sym, ap, ◌∙◌}
use mathlib.Core.List.{List, [], ◌∷◌, ◌++◌, append_assoc, append-nil}
use lib.ListN.{length, length-append}
use Rattle.octets.specs.Octets.{bytes, crlf}
use Rattle.writers.specs.Decimal.{digits, width}
use Rattle.writers.proofs.Theorems.SmallestLength.{self_length_lem}
use Rattle.message.specs.Message.{Start, Field}
use Rattle.message.specs.Message as M
use Rattle.message.specs.StartLines.{state_text}
use Rattle.message.specs.declared.RequestState.TheVariants.{Complete}
use Rattle.answer.specs.Written.{start_text, field_text, fields_text, written}
use Rattle.answer.specs.Answers.{channel_identifier, active_request_id_list, response_of, telling}
use Rattle.answer.specs.Answers.{event_name, completion_cause, complete}
use Rattle.answer.specs.declared.Kind.{Kind}
use Rattle.answer.specs.declared.Answer.{Answer}
use Rattle.answer.proofs.Places.{field_size}
use Rattle.answer.proofs.Sizes.{response_start, event_start}
use Rattle.sizes.specs.Steps.{behind_length, bare_text, telling_of}
use Rattle.sizes.proofs.Messages.{bare_length, bare_written, telling_measured, response_text, complete_measured}
use Rattle.pieces.specs.Steps.{opening_text}

regroup : (o x s c f g : List ℕ) → o ++ (x ++ s ++ c ++ (f ++ g) ++ c) ≡ (o ++ x) ++ (s ++ c) ++ f ++ g ++ c
regroup o x s c f g = simp append_assoc

-- a message without a body, whose size is n
module _ (start : Start (List ℕ)) (f : Field (List ℕ)) (text : List ℕ) (n : ℕ) where
  pieces : n ≡ length (bare_text start (field_text f ++ text))
      → opening_text n ++ (start_text start ++ crlf) ++ field_text f ++ text ++ crlf ≡ bare_text start (field_text f ++ text)
  unfolding bare_text behind_length opening_text
  pieces e =
      rw (e ∙ bare_length start (field_text f ++ text))
      (sym (regroup (bytes "MRCP/2.0 " ++ digits _) (bytes " ") (start_text start) crlf (field_text f) text))

opening_length : (n : ℕ) → length (opening_text n) ≡ 10 + width n
unfolding opening_text
opening_length n = simp length-append (omega arith)

-- ---- answers

module _ (name : List ℕ) (a : Answer) where
  abbrev line : Start (List ℕ)
  line = M.response a.id a.status.code a.state

  -- one that tells fields of that text
  module _ (text : List ℕ) where
    -- the room that its pieces take
    abbrev pub Room : ℕ → Type 0
    Room n =
        (n ≡ 10 + width n + (7 + width a.id + length (state_text a.state)) + (21 + length name) + length text + 2)
        × (length (opening_text n) ≡ 10 + width n)
        × (length (start_text line ++ crlf) ≡ 7 + width a.id + length (state_text a.state))
        × (length (field_text (channel_identifier name)) ≡ 21 + length name)

    pub telling_room : {n : ℕ} → n ≡ length (telling_of name a text) → Room n
    telling_room {n} e =
        let base : ℕ = 35 + length name + (5 + width a.id + length (state_text a.state) + length text) in
        let s = e ∙ telling_measured name a text in (
          omega (arith, ap width s, (self_length_lem base).fits),
          opening_length n,
          omega (arith, length-append (start_text line) crlf, response_start a.id a.status.code a.state),
          omega (arith, field_size (channel_identifier name)),
        )

    abbrev joined : ℕ → List ℕ
    joined n = opening_text n ++ (start_text line ++ crlf) ++ field_text (channel_identifier name) ++ text ++ crlf

    pub telling_pieces : (n : ℕ) → n ≡ length (telling_of name a text) → joined n ≡ telling_of name a text
    telling_pieces n e = pieces line (channel_identifier name) text n e

  -- one that lists ids
  module _ (ids : List ℕ) {n : ℕ} (e : n ≡ length (written (response_of name a ids))) where
    abbrev list : List ℕ
    list = fields_text (active_request_id_list ids)

    listed : n ≡ length (telling_of name a list)
    listed = e ∙ ap length (sym (response_text name a ids))

    pub response_room : Room list n
    response_room = telling_room list listed

    pub response_pieces : joined list n ≡ written (response_of name a ids)
    response_pieces = telling_pieces list n listed ∙ response_text name a ids

  -- one that ends its request and tells these fields
  pub tells : (fs : List (Field (List ℕ))) → a.state ≡ Complete
      → telling_of name a (fields_text fs) ≡ written (telling name a.id a.status.code fs)
  unfolding telling
  tells fs e = rw e (bare_written (M.response a.id a.status.code Complete) (channel_identifier name) fs)

-- ---- events

one_field : (f : Field (List ℕ)) → fields_text (f ∷ []) ≡ field_text f
unfolding fields_text
one_field f = append-nil (field_text f)

module _ (kind : Kind) (name : List ℕ) (id cause : ℕ) where
  pub complete_room : {n : ℕ} → n ≡ length (written (complete kind name id cause))
      → (n ≡ 10 + width n + (12 + length (event_name kind) + width id) + (21 + length name) + (19 + length (completion_cause kind cause).value) + 2)
      × (length (opening_text n) ≡ 10 + width n)
      × (length (start_text (M.event (event_name kind) id Complete) ++ crlf) ≡ 12 + length (event_name kind) + width id)
      × (length (field_text (channel_identifier name)) ≡ 21 + length name)
      × (length (field_text (completion_cause kind cause)) ≡ 19 + length (completion_cause kind cause).value)
  complete_room {n} e =
      let base : ℕ = 35 + length name + (10 + length (event_name kind) + width id + (19 + length (completion_cause kind cause).value)) in
      let s = e ∙ complete_measured kind name id cause in (
        omega (arith, ap width s, (self_length_lem base).fits),
        opening_length n,
        omega (
          arith,
          length-append (start_text (M.event (event_name kind) id Complete)) crlf,
          event_start (event_name kind) id Complete,
        ),
        omega (arith, field_size (channel_identifier name)),
        omega (arith, field_size (completion_cause kind cause)),
      )

  pub complete_pieces : (n : ℕ) → n ≡ length (written (complete kind name id cause))
      → opening_text n ++ (start_text (M.event (event_name kind) id Complete) ++ crlf) ++ field_text (channel_identifier name)
      ++ field_text (completion_cause kind cause) ++ crlf
      ≡ written (complete kind name id cause)
  unfolding complete
  complete_pieces n e =
      let f = channel_identifier name in
      let start = M.event (event_name kind) id Complete in
      let text = bare_written start f (completion_cause kind cause ∷ []) in
      rw (← one_field (completion_cause kind cause))
      (pieces start f (fields_text (completion_cause kind cause ∷ [])) n (e ∙ ap length (sym text)) ∙ text)
