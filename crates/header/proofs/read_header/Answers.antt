-- `header::read_header` meets its contract: one law for each way that a turn of the loop can go.
-- Assumes nothing.
use mathlib.Core.Path.{sym, ap, ◌∙◌}
use Rattle.std.specs.Prelude.{Some}
use Rattle.header.proofs.Onward.{bad_step, step_on, body_inside, bad_length, good_length}
use Rattle.header.proofs.read_header.Goals as goal

pub returns-in_err-start : goal.returns-in_err-start
returns-in_err-start c =
    rw c.from_residual.ensures
    (bad_step c.loop-start.invariant c.next_step.result c.next_step.ensures c.in_err-start.was)

pub overflow_sub-len : goal.overflow_sub-len
overflow_sub-len c =
    body_inside c.loop-start.invariant c.next_step.result c.next_step.ensures
    _ (c.in_ok-start.was ∙ ap Some c.in-End.is)

pub returns-then-not-agrees : goal.returns-then-not-agrees
returns-then-not-agrees c =
    bad_length c.loop-start.invariant c.next_step.result c.next_step.ensures
    _ (c.in_ok-start.was ∙ ap Some c.in-End.is)
    (sym c.if-not-agrees.true ∙ (rw c.index.ensures at c.agrees.ensures))

pub returns-in-End : goal.returns-in-End
returns-in-End c =
    good_length c.loop-start.invariant c.next_step.result c.next_step.ensures
    _ (c.in_ok-start.was ∙ ap Some c.in-End.is)
    (sym c.if-not-agrees.false ∙ (rw c.index.ensures at c.agrees.ensures))

pub loop-start-preserved : goal.loop-start-preserved
loop-start-preserved c =
    step_on c.loop-start.invariant c.next_step.result c.next_step.ensures
    _ _ _ (c.in_ok-start.was ∙ ap Some c.in-Field.is) _ c.bit-mask.ensures _ c.index-in-Field.ensures _ c.keep.ensures
