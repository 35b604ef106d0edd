-- `channelnumbers::save_queue` meets its contract. Assumes nothing.
use Prim.Native.Nat.{◌≤◌}
use mathlib.Core.Path.{◌≡◌}
use mathlib.Core.List.{map}
use native.Mathlib.Omega.{arith}
use Rattle.queue.proofs.Queues.{numbers_16}
use Rattle.channelnumbers.specs.Steps.{stored}
use Rattle.channelnumbers.proofs.Saving.{stored_none, number_more}
use Rattle.channelnumbers.proofs.save_queue.Goals as goal

pub loop-i-init : goal.loop-i-init
loop-i-init c = stored_none c.args.ws.now 4 (map stored c.args.q.numbers) c.told-ws

pub loop-i-preserved : goal.loop-i-preserved
loop-i-preserved c =
    let q = c.args.q in
    let few : q.count ≤ 16 = c.requires in
    number_more stored q.numbers (numbers_16 q _ c.well_formed.0) (omega arith) (omega arith) c.loop-i.invariant

pub returns : goal.returns
returns c = let end : c.loop-i.i ≡ c.args.q.count = omega arith in rw end at c.loop-i.invariant
