-- `header::keep` meets its contract.
-- Assumes nothing.
use native.Mathlib.Omega.{arith}
use borrow.Author.Tests.{le-ltb}
use lib.ListN.{length}
use Prim.Native.Nat.{◌*◌, ◌+◌}
use Rattle.header.specs.Steps.{kept_at}
use Rattle.header.proofs.Four.{four}
use Rattle.header.proofs.keep.Goals as goal

pub returns-then-at-places : goal.returns-then-at-places
returns-then-at-places c =
    let a = c.args in
    let x = a.x in
    rw (le-ltb (length a.places.now) (4 * a.j + 4) (omega arith), kept_at)
    (four a.places.now (4 * a.j) x.name.start x.name.len x.value.start x.value.len (omega arith))
