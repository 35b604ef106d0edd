-- `channelnames::is_name` compares the bytes of the name, where they fit, with others. Assumes nothing.
use Prim.Native.Nat.{◌≤◌, ◌<◌}
use lib.ListN.{length}
use borrow.Author.Tests.{le-leb, lt-leb}
use Rattle.channelnames.specs.Names.{name_of}
use Rattle.channelnames.proofs.Names.{size_is, within}
use Rattle.channelnames.proofs.is_name.Goals as goal

pub returns-then-n-le-LONGEST : goal.returns-then-n-le-LONGEST
returns-then-n-le-LONGEST c =
    let n = c.args.n in
    let left = c.if-n-le-LONGEST.true in
    let few : length (name_of n) ≤ 44 = rw (size_is n _ c.well_formed.0) left in
    rw (le-leb (length (name_of n)) 44 few, within n left) c.equal.ensures

pub returns-else-n-le-LONGEST : goal.returns-else-n-le-LONGEST
returns-else-n-le-LONGEST c =
    let n = c.args.n in
    let many : 44 < length (name_of n) = rw (size_is n _ c.well_formed.0) c.if-n-le-LONGEST.false in
    rw (lt-leb n.size 44 c.if-n-le-LONGEST.false, lt-leb (length (name_of n)) 44 many)
