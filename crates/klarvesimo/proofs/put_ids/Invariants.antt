-- `klarvesimo::put_ids` meets its contract. The invariant: i ids stand at the front. Assumes nothing.
use Rattle.std.proofs.Common.{◌≡◌, ◌++◌, ◌≤◌, length, take, drop}
use Rattle.klarvesimo.proofs.put_ids.Given as goal

abbrev pub invariant-loop-i : goal.invariant-loop-i
invariant-loop-i l = (length l.ids ≤ length l.out) × (l.out ≡ take l.i l.ids ++ drop l.i l.initial.out)
