-- `sizes::commas_size` meets its contract. Assumes nothing.
use mathlib.Core.Path.{ap}
use native.Mathlib.Omega.{arith}
use lib.ListN.{length}
use Rattle.std.proofs.lemmas.List.{take_all}
use Rattle.answer.specs.IdList.{behind_commas}
use Rattle.sizes.proofs.Listing.{commas_length, commas_room}
use Rattle.sizes.proofs.commas_size.Goals as goal

pub loop-id-init : goal.loop-id-init
unfolding behind_commas
loop-id-init c = omega arith

pub returns-then-cap-n : goal.returns-then-cap-n
returns-then-cap-n c = grind (arith, commas_room c.args.ids.now c.loop-id.id-index c.loop-id-test.true)

pub loop-id-preserved : goal.loop-id-preserved
loop-id-preserved c = grind (arith, commas_length c.args.ids.now c.loop-id.id-index c.loop-id-test.true)

pub returns : goal.returns
returns c =
    let e = ap (λ l. length (behind_commas l)) (take_all c.loop-id.id-index c.args.ids.now (omega arith)) in
    omega arith
