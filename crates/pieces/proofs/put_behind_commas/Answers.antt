-- `pieces::put_behind_commas` meets its contract. Assumes nothing.
use native.Mathlib.Omega.{arith}
use Rattle.std.proofs.lemmas.List.{take_all}
use Rattle.writers.proofs.Put.{◌▸◌, wrote_none}
use Rattle.answer.specs.IdList.{behind_commas}
use Rattle.sizes.proofs.Listing.{commas_more, commas_room}
use Rattle.pieces.proofs.put_behind_commas.Goals as goal

pub loop-id-init : goal.loop-id-init
unfolding behind_commas
loop-id-init c = wrote_none c.args.out.now c.args.at (omega arith)

pub put_bytes-p-requires : goal.put_bytes-p-requires
put_bytes-p-requires c = omega (arith, commas_room c.args.ids.now c.loop-id.id-index c.loop-id-test.true)

pub put_digits-p-requires : goal.put_digits-p-requires
put_digits-p-requires c = grind (arith, commas_room c.args.ids.now c.loop-id.id-index c.loop-id-test.true)

pub loop-id-preserved : goal.loop-id-preserved
loop-id-preserved c =
    rw (commas_more c.args.ids.now c.loop-id.id-index c.loop-id-test.true, ← c.from.ensures)
    (c.loop-id.invariant ▸ c.put_bytes-p.ensures ▸ c.put_digits-p.ensures)

pub returns : goal.returns
returns c = rw (← take_all c.loop-id.id-index c.args.ids.now (omega arith)) c.loop-id.invariant
