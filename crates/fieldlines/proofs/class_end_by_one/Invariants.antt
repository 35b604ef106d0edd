-- `fieldlines::class_end_by_one` meets its contract. The loop's invariant, for each test that the class stands for: the
-- end of the run from the start is the end of the run from here.
-- Assumes nothing.
use mathlib.Core.Path.{◌≡◌}
use mathlib.Core.Bool.{Bool}
use Prim.Native.Nat.{ℕ, ◌+◌, ◌-◌, ◌≤◌}
use lib.ListN.{length, drop}
use Rattle.lists.specs.Lists.{run}
use Rattle.octets.specs.Octets.{classes, Stands}
use Rattle.fieldlines.proofs.class_end_by_one.Given as goal

abbrev pub invariant-loop-i : goal.invariant-loop-i
invariant-loop-i l = record {
  onward : l.at ≤ l.i;
  inside : l.at ≤ length l.f → l.i ≤ length l.f;
  runs : l.class ≡ classes → (test : ℕ → Bool) → Stands l.kind test
      → l.at + run test (drop l.at l.f) ≡ l.i + run test (drop l.i l.f);
}

abbrev pub decreases-loop-i : goal.decreases-loop-i
decreases-loop-i l = length l.f - l.i
