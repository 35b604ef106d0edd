-- `octets::equal_by_one` meets its contract. The loop's invariant: what is left of the texts decides. Assumes nothing.
use mathlib.Core.Path.{◌≡◌}
use lib.ListN.{length, drop}
use Rattle.lists.specs.Lists.{same}
use Rattle.octets.proofs.equal_by_one.Given as goal

abbrev pub invariant-loop-i : goal.invariant-loop-i
invariant-loop-i l = (length l.a ≡ length l.b) × (same (drop l.at l.a) (drop l.at l.b) ≡ same (drop l.i l.a) (drop l.i l.b))
