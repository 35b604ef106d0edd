-- `output::put_response` meets its contract: five pieces, one behind the other. Assumes nothing.
use native.Mathlib.Omega.{arith}
use Rattle.writers.proofs.Put.{◌▸◌}
use Rattle.output.proofs.Pieces.{response_room, response_pieces}
use Rattle.output.proofs.put_response.Goals as goal

pub put_opening-p-requires : goal.put_opening-p-requires
put_opening-p-requires c = omega (arith, response_room c.args.name.now c.args.a c.args.ids.now c.requires.size_value)

pub put_response_line-q-requires : goal.put_response_line-q-requires
put_response_line-q-requires c = omega (arith, response_room c.args.name.now c.args.a c.args.ids.now c.requires.size_value)

pub put_channel_identifier-r-requires : goal.put_channel_identifier-r-requires
put_channel_identifier-r-requires c = omega (arith, response_room c.args.name.now c.args.a c.args.ids.now c.requires.size_value)

pub put_id_list-listed-requires : goal.put_id_list-listed-requires
put_id_list-listed-requires c = omega (arith, response_room c.args.name.now c.args.a c.args.ids.now c.requires.size_value)

pub put_bytes-requires : goal.put_bytes-requires
put_bytes-requires c = omega (arith, response_room c.args.name.now c.args.a c.args.ids.now c.requires.size_value)

pub returns : goal.returns
returns c = rw (← response_pieces c.args.name.now c.args.a c.args.ids.now c.requires.size_value)
    (c.put_opening-p.ensures
    ▸ c.put_response_line-q.ensures
    ▸ c.put_channel_identifier-r.ensures
    ▸ c.put_id_list-listed.ensures
    ▸ c.put_bytes.ensures)
