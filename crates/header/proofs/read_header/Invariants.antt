-- `header::read_header` meets its contract. The loop's invariant: the fields so far, in front of those that are left,
-- are all of them; mask and values are those of their names, of which none that counts as known came twice, and their
-- numbers stand in `places`.
-- Assumes nothing.
use Prim.Native.Nat.{◌-◌}
use Rattle.header.proofs.Onward.{Onward, so_far}
use Rattle.header.proofs.read_header.Given as goal

abbrev pub invariant-loop-start : goal.invariant-loop-start
invariant-loop-start l = Onward l.params l.f l.at l.initial.places
    (so_far l.count l.mask l.values) l.places l.i

abbrev pub decreases-loop-start : goal.decreases-loop-start
decreases-loop-start l = 32 - l.count
