-- `sizes::list_size` meets its contract. Assumes nothing.
use mathlib.Core.Path.{ap}
use native.Mathlib.Omega.{arith}
use lib.ListN.{length}
use Rattle.sizes.proofs.Listing.{list_none, list_length}
use Rattle.sizes.proofs.list_size.Goals as goal

pub returns-in_default : goal.returns-in_default
returns-in_default c = omega (arith, ap length (list_none c.args.ids.now c.in_default.ensures.cases))

pub returns : goal.returns
returns c = grind (arith, list_length c.in-Some.ensures.cases.0)
