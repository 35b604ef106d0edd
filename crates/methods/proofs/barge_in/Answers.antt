-- `methods::barge_in` goes by the active one. Assumes nothing.
use mathlib.Core.Path.{refl, sym, ap, ◌∙◌}
use Rattle.message.specs.declared.RequestState.TheVariants.{Complete}
use Rattle.synth.specs.Channel.{with_queue}
use Rattle.synth.specs.declared.Entry.{Entry}
use Rattle.synth.specs.declared.Method.{Method}
use Rattle.queue.specs.Queue.{list_of}
use Rattle.outcomes.specs.Outcomes.{asked}
use Rattle.queue.proofs.Queues.{none_listed}
use Rattle.outcomes.proofs.Making.{makes_success}
use Rattle.methods.proofs.Methods.{barge_kills, barge_spares}
use Rattle.methods.proofs.Stops.{all_end}
use Rattle.methods.proofs.barge_in.Goals as goal

pub returns-then-active : goal.returns-then-active
returns-then-active c = λ few v major minor fs told.
    let a = c.args in
    all_end a.state a.q v (asked major minor Method.BargeInOccurred a.id fs) told few (c.end.ensures few)
    (barge_kills (with_queue a.state (list_of a.q) v) major minor a.id fs (ap (λ (e : Entry). e.kill) (sym c.active.ensures) ∙ c.if-active.true))

pub returns : goal.returns
returns c = λ few v major minor fs told.
    let a = c.args in
    let w = with_queue a.state (list_of a.q) v in
    makes_success w (asked major minor Method.BargeInOccurred a.id fs) a.state a.q told Complete _ c.succeeded.ensures
    (rw c.list_none.ensures none_listed) refl
    (barge_spares w major minor a.id fs (ap (λ (e : Entry). e.kill) (sym c.active.ensures) ∙ c.if-active.false))
