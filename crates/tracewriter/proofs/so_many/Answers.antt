-- `tracewriter::so_many` meets its contract. Assumes nothing.
use Rattle.std.proofs.Common.{◌≡◌, ◌+◌, ◌-◌, sym, ◌∙◌, arith}
use Rattle.std.proofs.lemmas.Grind.{common_steps}
use Rattle.traces.proofs.Fronts.{front_frame}
use Rattle.tracewriter.proofs.Counting.{counted_end, counted_none, counted_on}
use Rattle.tracewriter.proofs.so_many.Goals as goal

pub loop-init : goal.loop-init
loop-init c = grind (arith, common_steps)

pub returns-in_default : goal.returns-in_default
returns-in_default c =
    let j = c.args.count - (c.loop.counter + 1) in
    let p : c.args.count - c.loop.counter ≡ j + 1 = omega arith in
    grind (arith, common_steps, counted_none c.loop.rest.now j)

pub slice_bounds-rest-count : goal.slice_bounds-rest-count
slice_bounds-rest-count c =
    omega (arith, (front_frame c.loop.rest.now c.in-Ok.frame (sym c.frame.ensures ∙ c.in-Ok.is)).there)

pub slice_bounds-rest-start : goal.slice_bounds-rest-start
slice_bounds-rest-start c =
    omega (arith, (front_frame c.loop.rest.now c.in-Ok.frame (sym c.frame.ensures ∙ c.in-Ok.is)).there)

pub loop-preserved : goal.loop-preserved
loop-preserved c =
    let j = c.args.count - (c.loop.counter + 1) in
    let p : c.args.count - c.loop.counter ≡ j + 1 = omega arith in
    grind (arith, common_steps, counted_on c.loop.rest.now j)

pub returns : goal.returns
returns c =
    let z : c.args.count - c.loop.counter ≡ 0 = omega arith in
    grind (arith, common_steps, counted_end c.loop.rest.now)
