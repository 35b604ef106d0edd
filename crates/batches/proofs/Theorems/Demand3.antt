-- DEMAND 3 WITH BATCHES. For every list of calls and of buffers full of messages on a channel as its opening returned
-- it, the ledger over the calls of them all, a buffer being one call for each message that it handled, is in balance
-- with what the channel holds after them. Assumes nothing.
use Prim.Native.Nat.{ℕ}
use mathlib.Core.Path.{◌≡◌, refl, sym, ap, subst, ◌∙◌}
use mathlib.Core.List.{List, [], ◌∷◌, ◌++◌}
use Rattle.ledger.specs.Ledger.{Balanced, after, trace}
use Rattle.synth.specs.Channel.{View, held}
use Rattle.synth.specs.Calls.{Call, call, open_channel}
use Rattle.synth.specs.Demand3.{accepts, closes}
use Rattle.synth.proofs.Theorems.Demand3.{demand3_as_functions}
use Rattle.batches.specs.Batches.{Act, one, many, calls_in, act_on, after_all, as_calls}
use Rattle.batches.proofs.Theorems.OnePerMessage.{as_calls_lem}

after_append : (v : View) (xs ys : List Call) → after call v (xs ++ ys) ≡ after call (after call v xs) ys
after_append v [] ys = refl
after_append v (c ∷ xs) ys = after_append (call v c).next xs ys

act_calls : (v : View) (a : Act) → act_on v a ≡ after call v (calls_in v a)
act_calls v (one c) = refl
act_calls v (many s room) = (as_calls_lem v s room).leaves

pub all_calls : (v : View) (xs : List Act) → after_all v xs ≡ after call v (as_calls v xs)
all_calls v [] = refl
all_calls v (a ∷ xs) =
    all_calls (act_on v a) xs
    ∙ ap (λ (w : View). after call w (as_calls (act_on v a) xs)) (act_calls v a)
    ∙ sym (after_append v (calls_in v a) (as_calls (act_on v a) xs))

pub demand3 : (name : List ℕ) (xs : List Act)
    → (let v : View = (open_channel name).channel in
    Balanced accepts closes (trace call v (as_calls v xs)) (held (after_all v xs)))
demand3 name xs =
    let v = (open_channel name).channel in
    subst (λ (w : View). Balanced accepts closes (trace call v (as_calls v xs)) (held w)) (sym (all_calls v xs))
    (demand3_as_functions name (as_calls v xs))
