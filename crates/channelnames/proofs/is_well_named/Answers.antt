-- `channelnames::is_well_named`: a size past the array is no well-formed name's. Assumes nothing.
use Prim.Native.Nat.{◌<◌}
use mathlib.Core.Path.{sym, ◌∙◌}
use lib.ListN.{length}
use borrow.Author.Tests.{lt-leb}
use Rattle.channelnames.specs.Names.{name_of}
use Rattle.channelnames.proofs.Fits.{name_too_long}
use Rattle.channelnames.proofs.Names.{size_is, within}
use Rattle.channelnames.proofs.is_well_named.Goals as goal

pub returns-then-n-le-LONGEST : goal.returns-then-n-le-LONGEST
returns-then-n-le-LONGEST c = rw (within c.args.n c.if-n-le-LONGEST.true) c.well_named.ensures

pub returns-else-n-le-LONGEST : goal.returns-else-n-le-LONGEST
returns-else-n-le-LONGEST c =
    let n = c.args.n in
    let long : 44 < length (name_of n) = rw (size_is n _ c.well_formed.0) c.if-n-le-LONGEST.false in
    lt-leb n.size 44 c.if-n-le-LONGEST.false ∙ sym (name_too_long (name_of n) long)
