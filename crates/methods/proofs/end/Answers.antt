-- `methods::end` answers with what the queue ends. Assumes nothing.
use mathlib.Core.Path.{ap}
use mathlib.Core.Bool.{cond}
use Rattle.message.specs.declared.RequestState.TheVariants.{Complete}
use Rattle.outcomes.specs.Outcomes.{outcome}
use Rattle.methods.proofs.end.Goals as goal

pub returns : goal.returns
returns c = λ few.
    let a = c.args in
    let e = c.end-ended in
    rw c.succeeded.ensures
    (record {
      ends = e.ensures.ends few;
      answers = ap (λ s. outcome a.id (cond a.ignored 201 200) Complete e.result.listed s e.result.queue) c.while_any-next.ensures;
    })
