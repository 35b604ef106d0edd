-- `speak::enter` goes by judgement 9. Assumes nothing.
use mathlib.Core.Path.{refl, sym, ap, subst, ◌∙◌}
use Rattle.synth.specs.Channel.{with_queue}
use Rattle.queue.specs.Queue.{list_of}
use Rattle.values.specs.Values.{verdict_of}
use Rattle.outcomes.specs.Outcomes.{asked, Makes}
use Rattle.outcomes.proofs.Making.{makes_failed}
use Rattle.speak.proofs.Speaking.{unfit, fit}
use Rattle.speak.proofs.enter.Goals as goal

pub returns-in-Err : goal.returns-in-Err
returns-in-Err c = λ opened level now v of moment major minor fs told.
    let a = c.args in
    let w = with_queue a.state (list_of a.q) v in
    let judged = c.content.ensures opened major minor a.e.id fs told.0 in
    makes_failed v (asked major minor a.m a.e.id fs) a.state a.q _ refl c.failed.ensures
    (unfit w major minor a.m a.e.id fs _ (ap verdict_of (sym c.in-Err.is) ∙ judged))

pub returns : goal.returns
returns c = λ opened level now v of moment major minor fs told.
    let a = c.args in
    let w = with_queue a.state (list_of a.q) v in
    let judged = c.content.ensures opened major minor a.e.id fs told.0 in
    subst (Makes w c.join.result)
    (sym (fit w major minor a.m a.e.id fs (ap verdict_of (sym c.in_default.is) ∙ judged)))
    (c.join.ensures opened level now v of moment major minor fs (told.1, told.2))
