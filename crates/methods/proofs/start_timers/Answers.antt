-- `methods::start_timers` goes by the state. Assumes nothing.
use mathlib.Core.Path.{refl, sym, ap, ◌∙◌}
use Rattle.message.specs.declared.RequestState.TheVariants.{Complete}
use Rattle.synth.specs.Channel.{with_queue}
use Rattle.synth.specs.Judgement.{is_valid}
use Rattle.synth.specs.declared.Method.{Method}
use Rattle.queue.specs.Queue.{list_of}
use Rattle.queue.proofs.Queues.{none_listed}
use Rattle.outcomes.specs.Outcomes.{asked}
use Rattle.outcomes.proofs.Making.{makes_failed, makes_success}
use Rattle.methods.proofs.Methods.{busy_of, not_valid, timers_busy}
use Rattle.methods.proofs.start_timers.Goals as goal

pub returns-then-not-is_valid : goal.returns-then-not-is_valid
returns-then-not-is_valid c = λ v major minor fs told.
    let a = c.args in
    makes_failed v (asked major minor Method.StartInputTimers a.id fs) a.state a.q 402 refl c.failed.ensures
    (not_valid (with_queue a.state (list_of a.q) v) major minor a.id fs Method.StartInputTimers
    (sym (c.is_valid.ensures ∙ ap (is_valid Method.StartInputTimers) c.is_busy.ensures) ∙ c.if-not-is_valid.true))

pub returns : goal.returns
returns c = λ v major minor fs told.
    let a = c.args in
    let w = with_queue a.state (list_of a.q) v in
    makes_success w (asked major minor Method.StartInputTimers a.id fs) a.state a.q told Complete _ c.succeeded.ensures
    (rw c.list_none.ensures none_listed) refl
    (timers_busy w major minor a.id fs
    (busy_of _ (ap (is_valid Method.StartInputTimers) (sym c.is_busy.ensures) ∙ sym c.is_valid.ensures ∙ c.if-not-is_valid.false)))
