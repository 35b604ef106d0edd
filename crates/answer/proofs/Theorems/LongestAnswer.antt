-- No answer or event is longer than 305 bytes, the longest channel name and a list of sixteen ids included, and one is
-- that long. No RECOGNITION-COMPLETE is longer than 172, none with 011 longer than 154, and such there are.
-- (A list comes with COMPLETE alone: IN-PROGRESS, which is three bytes longer, has none.)
-- Assumes nothing.
use Prim.Native.Nat.{ℕ, ◌+◌, ◌≤◌, ◌<◌}
use native.Mathlib.Omega.{arith}
use mathlib.Core.Path.{◌≡◌, refl}
use mathlib.Core.List.{List, [], ◌∷◌}
use lib.Dec.{lit≤}
use lib.ListN.{length}
use Rattle.lists.specs.Lists.{All}
use Rattle.octets.specs.Octets.{bytes}
use Rattle.writers.specs.Decimal.{digits, digits_within, three_digits}
use Rattle.writers.specs.SelfLength.{self_length}
use Rattle.message.specs.Message.{Field}
use Rattle.message.specs.declared.RequestState.{RequestState}
use Rattle.message.specs.declared.RequestState.TheVariants.{Complete}
use Rattle.answer.specs.Written.{start_text, field_text, fields_text, after_length, written}
use Rattle.answer.specs.IdList.{behind_commas, id_list_text}
use Rattle.answer.specs.Answers.{event_name, response, telling, complete}
use Rattle.answer.specs.declared.Kind.{Kind}
use native.Mathlib.Nat.{le_trans}
use Rattle.answer.proofs.Values.{cause_most, cause_most_lem, CauseFits}
use Rattle.answer.proofs.Sizes.{state_most, list_most, response_size, telling_size, event_most, complete_size}
use Rattle.answer.proofs.Theorems.AnswersWritable.{NameFits, Told}

-- COMPLETE, with a list or without
pub longest_complete : (name : List ℕ) (id status : ℕ) (ids : List ℕ) → NameFits name → id < 4294967296 → length ids ≤ 16
    → All (λ i. i < 4294967296) ids → length (written (response name id status Complete ids)) ≤ 305
longest_complete name id status ids n i l a =
    omega (arith, response_size name id status Complete ids n.most i (list_most ids l a), list_most ids l a)

-- any state, without a list
pub longest_bare : (name : List ℕ) (id status : ℕ) (state : RequestState) → NameFits name → id < 4294967296
    → length (written (response name id status state [])) ≤ 305
unfolding fields_text
longest_bare name id status state n i = omega (arith, response_size name id status state [] n.most i (lit≤ tt), state_most state)

-- fields told
pub longest_telling : (name : List ℕ) (id status : ℕ) (fs : List (Field (List ℕ))) → NameFits name → id < 4294967296
    → Told name fs → length (written (telling name id status fs)) ≤ 305
longest_telling name id status fs n i t =
    omega (arith, telling_size name id status fs n.most i t.short, t.short)

-- an event: 159 bytes on a synthesizer, 172 on a recognizer
pub longest_event : (kind : Kind) (name : List ℕ) (id cause : ℕ) → NameFits name → id < 4294967296
    → CauseFits kind cause
    → length (written (complete kind name id cause)) ≤ 121 + length (event_name kind) + cause_most kind
longest_event kind name id cause n i c =
    omega (arith, complete_size kind name id cause n.most i (le_trans c.most (cause_most_lem kind)), c.most)

-- the longest answer is longer
pub event_below : (kind : Kind) (name : List ℕ) (id cause : ℕ) → NameFits name → id < 4294967296
    → CauseFits kind cause
    → length (written (complete kind name id cause)) ≤ 305
event_below kind name id cause n i c =
    omega (arith, longest_event kind name id cause n i c, event_most kind, cause_most_lem kind)

-- one that says that a request was cancelled with the others
pub longest_cancelled : (name : List ℕ) (id : ℕ) → NameFits name → id < 4294967296
    → length (written (complete Kind.Recognizer name id 11)) ≤ 154
unfolding three_digits
longest_cancelled name id n i = complete_size Kind.Recognizer name id 11 n.most i (lit≤ tt)

-- sixteen ids of ten digits
abbrev pub widest : List ℕ
widest =
    4294967279 ∷ 4294967280 ∷ 4294967281 ∷ 4294967282 ∷ 4294967283 ∷ 4294967284 ∷ 4294967285 ∷ 4294967286
    ∷ 4294967287 ∷ 4294967288 ∷ 4294967289 ∷ 4294967290 ∷ 4294967291 ∷ 4294967292 ∷ 4294967293 ∷ 4294967294 ∷ []

-- the bound is reached
pub reached : length (written (response (bytes "abcdefghijklmnopqrstuvwxyzabcdef@speechsynth") 4294967295 200 Complete widest)) ≡ 305
unfolding written response start_text field_text fields_text after_length behind_commas id_list_text self_length digits digits_within three_digits
reached = refl

pub reached_by_events :
    length (written (complete Kind.Synthesizer (bytes "abcdefghijklmnopqrstuvwxyzabcdef@speechsynth") 4294967295 6))
    ∷ length (written (complete Kind.Recognizer (bytes "abcdefghijklmnopqrstuvwxyzabcdef@speechrecog") 4294967295 5))
    ∷ length (written (complete Kind.Recognizer (bytes "abcdefghijklmnopqrstuvwxyzabcdef@speechrecog") 4294967295 11))
    ∷ []
    ≡ 159 ∷ 172 ∷ 154 ∷ []
unfolding written complete start_text field_text fields_text after_length self_length digits digits_within three_digits
reached_by_events = refl
