-- `channelnumbers::push_edition` moves three editions and stores the new one in front of them. Assumes nothing.
use mathlib.Core.Path.{◌≡◌}
use native.Mathlib.Omega.{arith}
use lib.ListN.{drop}
use Rattle.channelnumbers.proofs.Saving.{stored_none}
use Rattle.channelnumbers.proofs.Pushing.{owned_tells, number_moved, pushed_more, pushed_full}
use Rattle.channelnumbers.proofs.push_edition.Goals as goal
use Rattle.channelnumbers.proofs.push_edition.Goals.{then-n, else-n}

pub loop-i-init : goal.loop-i-init
loop-i-init c = stored_none c.if-n.ws 71 (drop 65 c.args.ws.now) c.if-n.array_long

pub loop-i-preserved : goal.loop-i-preserved
loop-i-preserved c = number_moved c.args.ws.now c.told-ws (omega arith) c.loop-i.invariant

pub returns : goal.returns
returns c =
    let a = c.args in
    let w = a.ws.now in
    let end : c.loop-i.i ≡ 18 = omega arith in
    let moved = rw end at c.loop-i.invariant in
    let stored = c.save_edition.ensures in
    λ es read few own.
    let tells = owned_tells a.e _ c.well_formed.1.0 a.kind own in
    elim c.if-n.branch [
      | then-n b ↦ pushed_more a.kind w a.e c.told-ws moved stored tells es read b.if-n.true b.ws-is
      | else-n b ↦ pushed_full a.kind w a.e c.told-ws moved stored tells es read few b.if-n.false b.ws-is
    ]
