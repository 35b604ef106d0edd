-- `octets::alike` meets its contract. The loop's invariant: the texts are of one length, and alike where what is left
-- of them is.
-- Assumes nothing.
use mathlib.Core.Path.{◌≡◌}
use lib.ListN.{length, drop}
use Rattle.octets.specs.Octets.{alike}
use Rattle.octets.proofs.alike.Given as goal

abbrev pub invariant-loop-i : goal.invariant-loop-i
invariant-loop-i l = (length l.a ≡ length l.b) × (alike l.a l.b ≡ alike (drop l.i l.a) (drop l.i l.b))
