-- `tracewriter::put_index` meets its contract. Assumes nothing.
use Rattle.std.proofs.Common.{arith, ◌∙◌}
use Rattle.tracewriter.proofs.Ending.{looks, index_start, index_end, index_done, index_within, index_room, index_on}
use Rattle.tracewriter.proofs.put_index.Goals as goal

pub loop-i-init : goal.loop-i-init
loop-i-init c =
    (omega arith, index_start c.args.out.now c.args.used c.args.count c.requires.out_value c.requires.count_in_bounds)

pub put_four-at-requires : goal.put_four-at-requires
put_four-at-requires c =
    let x = c.loop-i.invariant.1 in
    index_room x c.in-Ok.frame (looks x c.frame.ensures ∙ c.in-Ok.is)

pub overflow_add-i : goal.overflow_add-i
overflow_add-i c =
    let x = c.loop-i.invariant.1 in
    omega (arith, index_within x c.in-Ok.frame (looks x c.frame.ensures ∙ c.in-Ok.is))

pub loop-i-smaller : goal.loop-i-smaller
loop-i-smaller c =
    let x = c.loop-i.invariant.1 in
    omega (arith, index_within x c.in-Ok.frame (looks x c.frame.ensures ∙ c.in-Ok.is))

pub loop-i-preserved : goal.loop-i-preserved
loop-i-preserved c =
    let x = c.loop-i.invariant.1 in (
      omega arith,
      index_on x c.in-Ok.frame (looks x c.frame.ensures ∙ c.in-Ok.is) _ _ c.put_four-at.ensures,
    )

pub returns-in_default : goal.returns-in_default
returns-in_default c =
    let x = c.loop-i.invariant.1 in
    index_end x c.in_default.field-0 (looks x c.frame.ensures ∙ c.in_default.is)

pub returns : goal.returns
returns c =
    let x = c.loop-i.invariant.1 in
    index_done x (omega (arith, c.loop-i-test.false))
