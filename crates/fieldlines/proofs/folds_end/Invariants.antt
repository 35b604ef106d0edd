-- `fieldlines::folds_end` meets its contract. The loop's invariant: the end of the run from the start is the end of the
-- run from here, where no value byte stands.
-- Assumes nothing.
use mathlib.Core.Path.{◌≡◌}
use Prim.Native.Nat.{◌+◌, ◌-◌, ◌≤◌}
use lib.ListN.{length, drop}
use Rattle.lists.specs.Lists.{run}
use Rattle.octets.specs.Octets.{classes, is_value}
use Rattle.fieldlines.specs.Steps.{value_run}
use Rattle.fieldlines.proofs.folds_end.Given as goal

abbrev pub invariant-loop-i : goal.invariant-loop-i
invariant-loop-i l = record {
  onward : l.at ≤ l.i;
  inside : l.i ≤ length l.f;
  runs : l.class ≡ classes
      → (l.at + value_run (drop l.at l.f) ≡ l.i + value_run (drop l.i l.f)) × (run is_value (drop l.i l.f) ≡ 0);
}

abbrev pub decreases-loop-i : goal.decreases-loop-i
decreases-loop-i l = length l.f - l.i
