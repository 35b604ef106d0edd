-- What a call that writes one message hands back: document 01, refusal 7.
use Rattle.std.specs.Prelude.{ℕ, zero, suc, true, false, List, ◌++◌, ltb, length, drop, set, Result}
use Rattle.std.proofs.Math.Option.{Option, none, some}
use Rattle.message.specs.declared.RequestState.{RequestState}
use Rattle.message.specs.declared.RequestState.TheVariants.{Pending, InProgress, Complete}
use Rattle.answer.specs.Written as W
use Rattle.answer.specs.Answers.{response, complete}
use Rattle.answer.specs.declared.Kind.{Kind}
use Rattle.output.specs.Delivery.{number_of, written_of}
use Rattle.output.specs.declared.TooLong.{TooLong}

-- a call's number, the place lent for the count written, and the lent output, as it leaves them
pub record WriteCall : Type 0 where
  pub number : ℕ
  pub written : List ℕ
  pub out : List ℕ

-- the message bs at the front of the output, or 7 where it is longer
unfoldable pub wrote : List ℕ → List ℕ → List ℕ → WriteCall
wrote bs place out = elim (ltb (length out) (length bs)) [
  | true ↦ record { number = 7; written = set place 0 0; out = out }
  | false ↦ record { number = 0; written = set place 0 (length bs); out = bs ++ drop (length bs) out }
]

-- number and count, from what a writer returns
pub record Told : Type 0 where
  pub number : ℕ
  pub written : List ℕ

abbrev pub told : Result ℕ TooLong → List ℕ → Told
told w place = record { number = number_of w; written = set place 0 (written_of w) }

-- the request state with a number, as include/klarvesimo.h numbers them
abbrev pub state_at : ℕ → Option RequestState
state_at zero = none
state_at (suc zero) = some Pending
state_at (suc (suc zero)) = some InProgress
state_at (suc (suc (suc zero))) = some Complete
state_at (suc (suc (suc (suc n)))) = none

-- the response to request id; 9 where there is no such state
abbrev pub wrote_response : List ℕ → ℕ → ℕ → Option RequestState → List ℕ → List ℕ → List ℕ → WriteCall
wrote_response name id status none ids place out = record { number = 9; written = set place 0 0; out = out }
wrote_response name id status (some state) ids place out = wrote (W.written (response name id status state ids)) place out

-- the event that ends the SPEAK with that id; 9 where there is no such cause
abbrev pub wrote_event : List ℕ → ℕ → ℕ → List ℕ → List ℕ → WriteCall
wrote_event name id cause place out = elim (ltb 7 cause) [
  | true ↦ record { number = 9; written = set place 0 0; out = out }
  | false ↦ wrote (W.written (complete Kind.Synthesizer name id cause)) place out
]
