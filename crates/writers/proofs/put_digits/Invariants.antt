-- `writers::put_digits` meets its contract. The invariant: `out` with the digits of what is left of n put at `at` is what it is to be, and
-- k is the place of the last of them. Assumes nothing.
use mathlib.Core.Path.{◌≡◌}
use Prim.Native.Nat.{◌+◌, ◌≤◌}
use lib.ListN.{length}
use Rattle.writers.specs.Decimal.{digits, width}
use Rattle.writers.specs.Buffer.{put}
use Rattle.writers.proofs.put_digits.Given as goal

abbrev pub invariant-loop-m : goal.invariant-loop-m
invariant-loop-m l = (put l.out l.at (digits l.m) ≡ put l.initial.out l.at (digits l.n)) × (l.k + 1 ≡ l.at + width l.m) × (l.at + width l.m ≤ length l.out) × (length l.out ≡ length l.initial.out)

abbrev pub decreases-loop-m : goal.decreases-loop-m
decreases-loop-m l = l.m
