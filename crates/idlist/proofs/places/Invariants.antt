-- `idlist::places` meets its contract. The invariant: `bits` tells where id stands from the place j on.
-- Assumes nothing.
use mathlib.Core.Path.{◌≡◌}
use Rattle.idlist.proofs.Marks.{from}
use Rattle.idlist.proofs.places.Given as goal

abbrev pub invariant-loop-j : goal.invariant-loop-j
invariant-loop-j l = l.bits ≡ from l.id l.ids l.j
