-- How many bytes a written response or event has, from those that are counted.
-- Assumes nothing.
use Prim.Native.Nat.{ℕ, ◌+◌, ◌<◌, min}
use native.Mathlib.Omega.{arith}
use native.Mathlib.Decide.{dec_lt}
use mathlib.Core.Path.{◌≡◌, sym, ap, ◌∙◌}
use mathlib.Core.List.{List, [], ◌∷◌, ◌++◌, append-nil}
use lib.ListN.{length, get_or, length-append}
use Rattle.octets.specs.Octets.{bytes, crlf}
use Rattle.writers.specs.Decimal.{width}
use Rattle.writers.specs.SelfLength.{self_length}
use Rattle.writers.proofs.SelfLength.{self_more}
use Rattle.writers.proofs.Theorems.SmallestLength.{self_length_lem}
use Rattle.message.specs.Message.{Start, Field, Message}
use Rattle.message.specs.Message as M
use Rattle.message.specs.StartLines.{state_text}
use Rattle.message.specs.declared.RequestState.TheVariants.{Complete}
use Rattle.answer.specs.Written.{start_text, field_text, fields_text, after_length, written}
use Rattle.answer.specs.Answers.{channel_identifier, active_request_id_list, response, response_of}
use Rattle.answer.specs.Answers.{event_name, cause_names, completion_cause, complete}
use Rattle.answer.specs.declared.Kind.{Kind}
use Rattle.answer.specs.declared.Answer.{Answer}
use Rattle.answer.proofs.Causes.{cause_length}
use Rattle.answer.proofs.Places.{field_size}
use Rattle.answer.proofs.Frames.{written_length}
use Rattle.answer.proofs.Sizes.{after_size, fields_size, response_start, event_start}
use Rattle.sizes.specs.Steps.{behind_length, bare_text, telling_of}

-- a message without a body
module _ (start : Start (List ℕ)) where
  pub bare_length : (text : List ℕ) → length (bare_text start text) ≡ self_length (9 + length (behind_length start text))
  unfolding bare_text
  bare_length text = simp length-append (omega (arith, (self_length_lem (9 + length (behind_length start text))).fits))

  module _ (f : Field (List ℕ)) (fs : List (Field (List ℕ))) where
    abbrev bare : Message
    bare = record { start = start; fields = f ∷ fs; body = [] }

    after : behind_length start (field_text f ++ fields_text fs) ≡ after_length bare
    unfolding behind_length after_length fields_text
    after = sym (append-nil (bytes " " ++ start_text start ++ crlf ++ (field_text f ++ fields_text fs) ++ crlf))

    pub bare_written : bare_text start (field_text f ++ fields_text fs) ≡ written bare
    unfolding bare_text written
    bare_written = rw after

-- an answer
module _ (name : List ℕ) (a : Answer) where
  abbrev line : Start (List ℕ)
  line = M.response a.id a.status.code a.state

  -- the size of its words and of fields of that text
  abbrev rest : List ℕ → ℕ
  rest text = 5 + width a.id + length (state_text a.state) + length text

  answer_base : (text : List ℕ)
      → 9 + length (behind_length line (field_text (channel_identifier name) ++ text)) ≡ 35 + length name + rest text
  unfolding behind_length
  answer_base text =
      simp length-append
      (omega (arith, response_start a.id a.status.code a.state, field_size (channel_identifier name)))

  pub telling_measured : (text : List ℕ) → length (telling_of name a text) ≡ self_length (35 + length name + rest text)
  telling_measured text =
      bare_length line (field_text (channel_identifier name) ++ text) ∙ ap self_length (answer_base text)

  -- one that lists ids tells the list field
  pub response_text : (ids : List ℕ)
      → telling_of name a (fields_text (active_request_id_list ids)) ≡ written (response_of name a ids)
  unfolding response
  response_text ids = bare_written line (channel_identifier name) (active_request_id_list ids)

  pub response_measured : (ids : List ℕ)
      → length (written (response_of name a ids))
      ≡ self_length (35 + length name + rest (fields_text (active_request_id_list ids)))
  response_measured ids = rw (← response_text ids) (telling_measured (fields_text (active_request_id_list ids)))

-- a part's size above cap, counted as cap + 1, makes the whole cap + 1
pub saturated : (b k m cap : ℕ) {r l : ℕ} → r ≡ min (self_length (b + (k + l))) (cap + 1) → l ≡ min m (cap + 1)
    → r ≡ min (self_length (b + (k + m))) (cap + 1)
saturated b k m cap {r} {l} h g = go (dec_lt cap m)
  where
    go : Dec (cap < m) → r ≡ min (self_length (b + (k + m))) (cap + 1)
    go (yes d) = omega (arith, self_more (b + (k + l)), self_more (b + (k + m)))
    go (no d) = let e : m ≡ l = omega arith in rw e h

module _ (kind : Kind) (name : List ℕ) (id cause : ℕ) where
  complete_base : 9 + length (after_length (complete kind name id cause))
      ≡ 35 + length name + (10 + length (event_name kind) + width id + (19 + length (completion_cause kind cause).value))
  unfolding complete fields_text
  complete_base =
      omega (
        arith,
        after_size (complete kind name id cause),
        event_start (event_name kind) id Complete,
        fields_size (channel_identifier name) (completion_cause kind cause ∷ []),
        fields_size (completion_cause kind cause) [],
      )

  pub complete_measured : length (written (complete kind name id cause))
      ≡ self_length (35 + length name + (10 + length (event_name kind) + width id + (19 + length (completion_cause kind cause).value)))
  complete_measured = written_length (complete kind name id cause) ∙ ap self_length complete_base

  -- by the cause's name
  pub event_measured : length (written (complete kind name id cause))
      ≡ self_length (35 + length name + (10 + length (event_name kind) + width id + (23 + length (get_or (cause_names kind) cause []))))
  event_measured =
      complete_measured
      ∙ ap (λ (n : ℕ). self_length (35 + length name + (10 + length (event_name kind) + width id + n)))
      (omega (arith, cause_length kind cause))
