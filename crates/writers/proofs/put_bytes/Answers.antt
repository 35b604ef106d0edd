-- `writers::put_bytes` meets its contract. Assumes nothing.
use Prim.Native.Nat.{◌+◌}
use native.Mathlib.Nat.{add-zero}
use native.Mathlib.Omega.{arith}
use mathlib.Core.Path.{◌≡◌}
use lib.ListN.{length}
use Rattle.std.proofs.lemmas.List.{take_more, take_all}
use Rattle.writers.proofs.Put.{◌▸◌, wrote_none, wrote_one}
use Rattle.writers.proofs.put_bytes.Goals as goal

pub loop-k-init : goal.loop-k-init
loop-k-init c = rw add-zero (wrote_none c.args.out.now c.args.at (omega arith))

pub loop-k-preserved : goal.loop-k-preserved
loop-k-preserved c =
    let at = c.args.at in
    let k = c.loop-k.k in
    let next : at + (k + 1) ≡ at + k + 1 = omega arith in
    rw (take_more c.args.src.now k 0 c.loop-k-test.true, next) (c.loop-k.invariant ▸ wrote_one c.loop-k.out (at + k) _ (omega arith))

pub returns : goal.returns
returns c =
    let whole : c.loop-k.k ≡ length c.args.src.now = omega arith in
    rw (← whole, ← take_all c.loop-k.k c.args.src.now (omega arith)) c.loop-k.invariant
