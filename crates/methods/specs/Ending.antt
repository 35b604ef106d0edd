-- A success that ends some of those outstanding.
use Rattle.std.specs.Prelude.{ℕ, ◌≡◌, Bool, cond, List}
use Rattle.message.specs.declared.RequestState.TheVariants.{Complete}
use Rattle.synth.specs.States.{while_any}
use Rattle.synth.specs.declared.Entry.{Entry}
use Rattle.synth.specs.declared.State.{State}
use Rattle.synth.specs.declared.State.TheVariants.{Idle}
use Rattle.queue.specs.Queue.{list_of, Ends}
use Rattle.outcomes.specs.Outcomes.{outcome}
use Rattle.outcomes.specs.declared.Outcome.{Outcome}

-- of this queue those end that the mask marks
pub record EndsBy (mask : ℕ) (state : State) (queue : List Entry) (id : ℕ) (ignored : Bool) (o : Outcome) : Type 0 where
  pub ends : Ends mask queue (record { listed = o.listed; queue = o.queue })
  pub answers : o ≡ outcome id (cond ignored 201 200) Complete o.listed (while_any Idle state (list_of o.queue)) o.queue
