-- What one call puts into the ledger, rule by rule, for every input, number and bytes. Assumes nothing.
use Prim.Native.Nat.{ℕ}
use mathlib.Core.Path.{◌≡◌, refl, ap, ◌∙◌}
use mathlib.Core.Bool.{Bool, true, false, ◌&&◌, ◌||◌}
use mathlib.Core.List.{List, [], ◌∷◌, ◌++◌}
use lib.Dec.{eqb}
use lib.Ieee.{Float}
use lib.ListN.{length}
use borrow.Author.Tests.{ne_eqb}
use Rattle.message.specs.Message.{Fields, Head, request, response, message, Message}
use Rattle.message.specs.Reading.{read_bytes, messages_in}
use Rattle.message.specs.declared.RequestState.{RequestState}
use Rattle.synth.specs.Request.{method_of, opens}
use Rattle.synth.specs.Calls.{Lent, input, report, back}
use Rattle.synth.specs.Demand3.{listed, when, is_ending, event_id, collected, ledger_accepts, ledger_closes}

-- a call that returns another number than 0 changes neither list
pub refused_changes_neither : (lent : Lent) (number : ℕ) (written : List ℕ) → (number ≡ 0 → ⊥)
    → (ledger_accepts lent number written ≡ []) × (ledger_closes lent number written ≡ [])
unfolding ledger_accepts ledger_closes
refused_changes_neither lent number written h = (rw (ne_eqb number 0 h), rw (ne_eqb number 0 h))

-- a request that is answered by one response: a SPEAK or RECOGNIZE answered 200 or 201 puts its id at the end of accepted; a STOP or
-- BARGE-IN-OCCURRED so answered puts the ids of the answer's list at the end of closed, as written; any other changes neither
module _ (s : List ℕ) (h : Head) (name : List ℕ) (id : ℕ) (fs : Fields (List ℕ)) (asks : read_bytes s ≡ message h (request name id) fs)
    (written : List ℕ) (answered status : ℕ) (state : RequestState) (m : Message) (starts : m.start ≡ response answered status state)
    (wrote : messages_in (length written) written ≡ m ∷ []) where
  pub request_accepts : ledger_accepts (input s) 0 written ≡ when (opens (method_of name) && (eqb status 200 || eqb status 201)) (id ∷ []) ++ []
  unfolding ledger_accepts
  request_accepts = rw (wrote, asks, starts)

  pub request_closes : ledger_closes (input s) 0 written ≡ when (is_ending (method_of name) && (eqb status 200 || eqb status 201)) (listed m) ++ []
  unfolding ledger_closes
  request_closes = rw (wrote, asks, starts)

none_in : (ms : List Message) → collected (λ m. []) ms ≡ []
none_in [] = refl
none_in (m ∷ ms) = none_in ms

never_put : (b : Bool) → when b [] ≡ []
never_put true = refl
never_put false = refl

-- a report puts the id of each event written at the end of closed, and accepts nothing
pub report_closes : (cause : ℕ) (score : Float) (written : List ℕ)
    → ledger_closes (report cause score) 0 written ≡ collected (λ m. event_id m.start) (messages_in (length written) written)
unfolding ledger_closes
report_closes cause score written = refl

pub report_accepts : (cause : ℕ) (score : Float) (written : List ℕ) → ledger_accepts (report cause score) 0 written ≡ []
unfolding ledger_accepts
report_accepts cause score written = none_in (messages_in (length written) written)

-- a going back changes neither, whatever number and bytes it came back with
pub back_changes_neither : (n number : ℕ) (written : List ℕ)
    → (ledger_accepts (back n) number written ≡ []) × (ledger_closes (back n) number written ≡ [])
unfolding ledger_accepts ledger_closes
back_changes_neither n number written =
    let none = none_in (messages_in (length written) written) in
    (ap (when (eqb number 0)) none ∙ never_put (eqb number 0), ap (when (eqb number 0)) none ∙ never_put (eqb number 0))
