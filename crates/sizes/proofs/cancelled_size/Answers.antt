-- `sizes::cancelled_size` meets its contract. Assumes nothing.
use mathlib.Core.Path.{ap}
use native.Mathlib.Omega.{arith}
use lib.ListN.{length}
use Rattle.std.proofs.lemmas.List.{take_all}
use Rattle.answer.specs.Written.{written_all}
use Rattle.answer.specs.declared.Kind.{Kind}
use Rattle.sizes.proofs.Events.{cancelled, cancelled_length, cancelled_room}
use Rattle.sizes.proofs.cancelled_size.Goals as goal

pub loop-id-init : goal.loop-id-init
unfolding written_all
loop-id-init c = omega arith

pub returns-then-cap-n : goal.returns-then-cap-n
returns-then-cap-n c =
    let a = c.args in
    omega (arith, cancelled_room Kind.Recognizer a.name.now a.ids.now c.loop-id.id-index c.loop-id-test.true)

pub loop-id-preserved : goal.loop-id-preserved
loop-id-preserved c =
    let a = c.args in
    omega (arith, cancelled_length Kind.Recognizer a.name.now a.ids.now c.loop-id.id-index c.loop-id-test.true)

pub returns : goal.returns
returns c =
    let a = c.args in
    let e = ap (λ l. length (cancelled Kind.Recognizer a.name.now l)) (take_all c.loop-id.id-index a.ids.now (omega arith)) in
    omega arith
