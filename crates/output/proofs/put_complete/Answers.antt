-- `output::put_complete` meets its contract: five pieces, one behind the other. Assumes nothing.
use native.Mathlib.Omega.{arith}
use Rattle.writers.proofs.Put.{◌▸◌}
use Rattle.output.proofs.Pieces.{complete_room, complete_pieces}
use Rattle.output.proofs.put_complete.Goals as goal

pub put_opening-p-requires : goal.put_opening-p-requires
put_opening-p-requires c = omega (arith, complete_room c.args.kind c.args.name.now c.args.id c.args.cause c.requires.size_value)

pub put_event_line-q-requires : goal.put_event_line-q-requires
put_event_line-q-requires c = omega (arith, complete_room c.args.kind c.args.name.now c.args.id c.args.cause c.requires.size_value)

pub put_channel_identifier-r-requires : goal.put_channel_identifier-r-requires
put_channel_identifier-r-requires c = omega (arith, complete_room c.args.kind c.args.name.now c.args.id c.args.cause c.requires.size_value)

pub put_cause-caused-requires : goal.put_cause-caused-requires
put_cause-caused-requires c = omega (arith, complete_room c.args.kind c.args.name.now c.args.id c.args.cause c.requires.size_value)

pub put_bytes-requires : goal.put_bytes-requires
put_bytes-requires c = omega (arith, complete_room c.args.kind c.args.name.now c.args.id c.args.cause c.requires.size_value)

pub returns : goal.returns
returns c = rw (← complete_pieces c.args.kind c.args.name.now c.args.id c.args.cause c.args.size c.requires.size_value)
    (c.put_opening-p.ensures
    ▸ c.put_event_line-q.ensures
    ▸ c.put_channel_identifier-r.ensures
    ▸ c.put_cause-caused.ensures
    ▸ c.put_bytes.ensures)
