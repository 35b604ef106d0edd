-- `startwords::request_id` meets its contract. Assumes nothing.
use mathlib.Core.Path.{ap, ◌∙◌}
use native.Mathlib.Omega.{arith}
use Rattle.startwords.specs.Runs.{id_of, id_at}
use Rattle.startwords.proofs.Positions.{digits_end}
use Rattle.startwords.proofs.Ids.{id_none, id_some}
use Rattle.startwords.proofs.request_id.Goals as goal
use Rattle.startwords.proofs.request_id.Goals.{then-count-ne0, else-count-ne0}

pub overflow_add-at : goal.overflow_add-at
overflow_add-at c =
    let a = c.args in
    omega (arith, digits_end 10 a.f.now a.at _ c.digits_at-value.ensures)

pub returns : goal.returns
unfolding id_at
returns c =
    let at = c.args.at in
    let d = c.digits_at-value in
    elim c.if-count-ne0.branch [
      | then-count-ne0 w ↦ rw (c.then_some.ensures, w.then_some-is) (id_some at d.result w.if-count-ne0.true ∙ ap (id_of at) d.ensures)
      | else-count-ne0 w ↦ rw (c.then_some.ensures, w.then_some-is) (id_none at d.result w.if-count-ne0.false ∙ ap (id_of at) d.ensures)
    ]
