-- `channelnumbers::save_thresholds` meets its contract. Assumes nothing.
use Prim.Native.Nat.{◌≤◌}
use mathlib.Core.Path.{◌≡◌, ◌∙◌}
use mathlib.Core.List.{map}
use native.Mathlib.Omega.{arith}
use Rattle.queue.specs.Queue.{level_in}
use Rattle.queue.proofs.Queues.{levels_16}
use Rattle.channelnumbers.proofs.Saving.{stored_none, number_more, thresholds_16}
use Rattle.channelnumbers.proofs.save_thresholds.Goals as goal

pub loop-i-init : goal.loop-i-init
loop-i-init c = stored_none c.args.ws.now 12 (map level_in c.args.q.thresholds) c.told-ws

pub loop-i-preserved : goal.loop-i-preserved
loop-i-preserved c =
    let a = c.args in
    let many = c.threshold_count-i-end in
    let few : many.result ≤ 16 = rw many.ensures (thresholds_16 a.kind a.q.count c.requires) in
    rw (c.from.ensures, c.level_in.ensures)
    (number_more level_in a.q.thresholds (levels_16 a.q _ c.well_formed.1.0) (omega arith) (omega arith) c.loop-i.invariant)

pub returns : goal.returns
returns c =
    let many = c.threshold_count-i-end in
    let end : c.loop-i.i ≡ many.result = omega arith in
    rw (end ∙ many.ensures) at c.loop-i.invariant
