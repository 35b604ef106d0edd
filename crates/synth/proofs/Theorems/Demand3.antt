-- DEMAND 3. For every list of calls on a channel as its opening returned it (messages, engine reports and goings back in any order, refused ones too, any
-- bytes, causes, numbers and output room), each meeting the clause that its contract states, the ledger that is fed only by inputs, numbers returned and
-- bytes written is in balance: no id accepted twice, none closed twice, none closed before it was accepted, and those accepted and not closed
-- are, in order of acceptance, exactly the ones the channel holds. Assumes nothing.
use Prim.Native.Nat.{ℕ}
use mathlib.Core.Path.{◌≡◌, refl, ap, ◌∙◌}
use mathlib.Core.List.{List, []}
use Rattle.lists.proofs.Tests.{choose}
use Rattle.ledger.specs.Ledger.{after, trace}
use Rattle.ledger.proofs.Effects.{Effect}
use Rattle.ledger.proofs.Runs.{trace_run}
use Rattle.ledger.proofs.Theorems.Balance.{balance}
use Rattle.synth.specs.Channel.{View, well_named, held, first_above}
use Rattle.synth.specs.Calls.{Call, Reply, Opened, call, open_channel}
use Rattle.synth.specs.Demand3.{accepts, closes, Meets, Demand3, Demand3AsFunctions}
use Rattle.synth.proofs.LedgerSteps.{call_effect}

opened_empty : (name : List ℕ) → held (open_channel name).channel ≡ []
unfolding open_channel
opened_empty name = choose (λ (o : Opened). held o.channel ≡ []) (well_named name) (λ e. refl) (λ e. refl)

pub demand3 : Demand3
demand3 S view name s s' calls opened run = balance accepts closes (Meets view) (λ s. held (view s)) (λ s. first_above (view s).last) effect (ap held opened ∙ opened_empty name) run
  where
    effect : (s : S) (c : Call) (r : Reply) (s' : S) → Meets view s c r s'
        → Effect (held (view s)) (first_above (view s).last) (accepts c r) (closes c r) (held (view s')) (first_above (view s').last)
    effect s c r s' m = rw (m.replies, m.leaves) (call_effect (view s) c)

pub demand3_as_functions : Demand3AsFunctions
demand3_as_functions name calls =
    let start = (open_channel name).channel in
    demand3 View (λ v. v) name start (after call start calls) (trace call start calls) refl
    (trace_run call (Meets (λ v. v)) (λ v c. record { replies = refl; leaves = refl }) start calls)
