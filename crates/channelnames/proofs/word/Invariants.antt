-- `channelnames::word` counts the letters and digits at the front. The loop's invariant: what is passed and what the run has
-- left make the whole run. Assumes nothing.
use Prim.Native.Nat.{ℕ, ◌+◌}
use mathlib.Core.Bool.{Bool, ◌||◌}
use mathlib.Core.Path.{◌≡◌}
use lib.ListN.{drop}
use Rattle.lists.specs.Lists.{run}
use Rattle.octets.specs.Octets.{is_letter, is_digit}
use Rattle.channelnames.proofs.word.Given as goal

abbrev pub test : ℕ → Bool
test b = is_letter b || is_digit b

abbrev pub invariant-loop-i : goal.invariant-loop-i
invariant-loop-i l = run test l.name ≡ l.i + run test (drop l.i l.name)
