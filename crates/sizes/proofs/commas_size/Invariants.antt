-- `sizes::commas_size` meets its contract. The invariant: n is the size of the ids so far, and at most cap. Assumes nothing.
use mathlib.Core.Path.{◌≡◌}
use Prim.Native.Nat.{◌≤◌}
use lib.ListN.{length, take}
use Rattle.answer.specs.IdList.{behind_commas}
use Rattle.sizes.proofs.commas_size.Given as goal

abbrev pub invariant-loop-id : goal.invariant-loop-id
invariant-loop-id l = (l.n ≡ length (behind_commas (take l.id-index l.ids))) × (l.n ≤ l.cap)
