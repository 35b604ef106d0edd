-- `pieces::put_id_list` meets its contract: nothing, or four runs one behind the other. Assumes nothing.
use native.Mathlib.Omega.{arith}
use Rattle.writers.proofs.Put.{◌▸◌, wrote_none}
use Rattle.sizes.proofs.Listing.{list_none, list_some, list_length}
use Rattle.pieces.proofs.put_id_list.Goals as goal

pub returns-in_default : goal.returns-in_default
returns-in_default c = rw (list_none c.args.ids.now c.in_default.ensures.cases) (wrote_none c.args.out.now c.args.at (omega arith))

pub put_bytes-p-requires : goal.put_bytes-p-requires
put_bytes-p-requires c = grind (arith, list_length c.in-Some.ensures.cases.0)

pub put_digits-q-requires : goal.put_digits-q-requires
put_digits-q-requires c = grind (arith, list_length c.in-Some.ensures.cases.0)

pub put_behind_commas-r-requires : goal.put_behind_commas-r-requires
put_behind_commas-r-requires c = grind (arith, list_length c.in-Some.ensures.cases.0)

pub put_bytes-requires : goal.put_bytes-requires
put_bytes-requires c = grind (arith, list_length c.in-Some.ensures.cases.0)

pub returns : goal.returns
returns c = rw (← list_some c.in-Some.ensures.cases.0, ← c.from.ensures)
    (c.put_bytes-p.ensures
    ▸ c.put_digits-q.ensures
    ▸ c.put_behind_commas-r.ensures
    ▸ c.put_bytes.ensures)
