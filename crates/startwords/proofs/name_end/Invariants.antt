-- `startwords::name_end` meets its contract. The loop's invariant: the end of the run from the start is the end of the run from here.
-- Assumes nothing.
use mathlib.Core.Path.{◌≡◌}
use Prim.Native.Nat.{◌+◌}
use lib.ListN.{drop}
use Rattle.lists.specs.Lists.{run}
use Rattle.startwords.specs.Runs.{is_naming}
use Rattle.startwords.proofs.name_end.Given as goal

abbrev pub invariant-loop-i : goal.invariant-loop-i
invariant-loop-i l = l.at + run is_naming (drop l.at l.f) ≡ l.i + run is_naming (drop l.i l.f)
