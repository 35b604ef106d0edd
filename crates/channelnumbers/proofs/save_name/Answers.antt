-- `channelnumbers::save_name` meets its contract. Assumes nothing.
use Prim.Native.Nat.{◌≤◌}
use mathlib.Core.Path.{◌≡◌}
use native.Mathlib.Omega.{arith}
use Rattle.channelnames.proofs.Names.{bytes_44}
use Rattle.channelnumbers.proofs.Saving.{stored_none, byte_more}
use Rattle.channelnumbers.proofs.save_name.Goals as goal

pub loop-i-init : goal.loop-i-init
loop-i-init c = stored_none c.args.ws.now 20 c.args.n.bytes c.told-ws

pub loop-i-preserved : goal.loop-i-preserved
loop-i-preserved c =
    let short : c.args.n.size ≤ 44 = c.requires in
    rw c.from.ensures (byte_more (bytes_44 c.args.n _ c.well_formed.0) (omega arith) c.loop-i.invariant)

pub returns : goal.returns
returns c = let end : c.loop-i.i ≡ c.args.n.size = omega arith in rw end at c.loop-i.invariant
