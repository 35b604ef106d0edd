-- `idlist::named` meets its contract. The invariant: a word begins at i, and what is left of the pass equals the whole.
-- Assumes nothing.
use Prim.Native.Nat.{◌-◌, ◌≤◌}
use lib.ListN.{length}
use Rattle.idlist.proofs.Pass.{Midway}
use Rattle.idlist.proofs.named.Given as goal

abbrev pub invariant-loop-d : goal.invariant-loop-d
invariant-loop-d l = Midway l.ids l.v l.bits l.i × (l.i ≤ length l.v)

abbrev pub decreases-loop-d : goal.decreases-loop-d
decreases-loop-d l = length l.v - l.i
