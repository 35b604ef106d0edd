-- `output::put_telling` meets its contract: five pieces, one behind the other. Assumes nothing.
use native.Mathlib.Omega.{arith}
use Rattle.writers.proofs.Put.{◌▸◌}
use Rattle.output.proofs.Pieces.{Room, telling_room, telling_pieces}
use Rattle.output.proofs.put_telling.Goals as goal
use Rattle.output.proofs.put_telling.Goals.{Start}

room : (s : Start) → Room s.args.name.now s.args.a s.args.fields.now s.args.size
room s = telling_room s.args.name.now s.args.a s.args.fields.now s.requires.size_value

pub put_opening-p-requires : goal.put_opening-p-requires
put_opening-p-requires c = omega (arith, room (goal.at.put_opening-p-requires c).Start)

pub put_response_line-q-requires : goal.put_response_line-q-requires
put_response_line-q-requires c = omega (arith, room (goal.at.put_response_line-q-requires c).Start)

pub put_channel_identifier-r-requires : goal.put_channel_identifier-r-requires
put_channel_identifier-r-requires c = omega (arith, room (goal.at.put_channel_identifier-r-requires c).Start)

pub put_bytes-told-requires : goal.put_bytes-told-requires
put_bytes-told-requires c = omega (arith, room (goal.at.put_bytes-told-requires c).Start)

pub put_bytes-requires : goal.put_bytes-requires
put_bytes-requires c = omega (arith, room (goal.at.put_bytes-requires c).Start)

pub returns : goal.returns
returns c =
    let a = c.args in
    rw (← telling_pieces a.name.now a.a a.fields.now a.size c.requires.size_value)
    (c.put_opening-p.ensures
    ▸ c.put_response_line-q.ensures
    ▸ c.put_channel_identifier-r.ensures
    ▸ c.put_bytes-told.ensures
    ▸ c.put_bytes.ensures)
