-- `output::put_cancelled` meets its contract. Assumes nothing.
use native.Mathlib.Omega.{arith}
use Rattle.std.proofs.lemmas.List.{take_all}
use Rattle.writers.proofs.Put.{◌▸◌, wrote_none}
use Rattle.answer.specs.Written.{written_all}
use Rattle.answer.specs.declared.Kind.{Kind}
use Rattle.sizes.proofs.Events.{cancelled_more, cancelled_room}
use Rattle.output.proofs.put_cancelled.Goals as goal

pub loop-id-init : goal.loop-id-init
unfolding written_all
loop-id-init c = wrote_none c.args.out.now c.args.at (omega arith)

pub put_complete-p-requires : goal.put_complete-p-requires
put_complete-p-requires c =
    let room = cancelled_room Kind.Recognizer c.args.name.now c.args.ids.now c.loop-id.id-index c.loop-id-test.true in
    record { size_value = omega arith; size_in_bounds = omega arith }

pub loop-id-preserved : goal.loop-id-preserved
loop-id-preserved c =
    rw (cancelled_more Kind.Recognizer c.args.name.now c.args.ids.now c.loop-id.id-index c.loop-id-test.true)
    (c.loop-id.invariant ▸ c.put_complete-p.ensures)

pub returns : goal.returns
returns c = rw (← take_all c.loop-id.id-index c.args.ids.now (omega arith)) c.loop-id.invariant
