-- `fieldlines::class_end` meets its contract, by the invariant of `class_end_by_one`.
-- Assumes nothing.
use mathlib.Core.Path.{◌≡◌}
use mathlib.Core.Bool.{Bool}
use Prim.Native.Nat.{ℕ, ◌+◌, ◌-◌, ◌≤◌}
use lib.ListN.{length, drop}
use Rattle.lists.specs.Lists.{run}
use Rattle.octets.specs.Octets.{classes, Stands}
use Rattle.fieldlines.proofs.class_end.Given as goal

abbrev pub invariant-loop-i : goal.invariant-loop-i
invariant-loop-i l = record {
  onward : l.at ≤ l.i;
  inside : l.at ≤ length l.f → l.i ≤ length l.f;
  runs : l.class ≡ classes → (test : ℕ → Bool) → Stands l.kind test
      → l.at + run test (drop l.at l.f) ≡ l.i + run test (drop l.i l.f);
}

abbrev pub invariant-loop-j : goal.invariant-loop-j
invariant-loop-j l = l.class ≡ classes → (test : ℕ → Bool) → Stands l.kind test
    → l.i + run test (drop l.i l.f) ≡ l.j + run test (drop l.j l.f)

abbrev pub decreases-loop-i : goal.decreases-loop-i
decreases-loop-i l = l.last - l.i
