-- `channelnumbers::tidy_editions` tidies each edition, then stores zeros. Assumes nothing.
use Prim.Native.Nat.{◌+◌, ◌*◌}
use mathlib.Core.Path.{◌≡◌, refl}
use native.Mathlib.Omega.{arith}
use lib.ListN.{get_or}
use Rattle.channelnumbers.specs.Numbers.{editions_numbers}
use Rattle.channelnumbers.proofs.Saving.{stored_none}
use Rattle.channelnumbers.proofs.Tidying.{editions_many, tidied_more, all_tidied, zeros_behind}
use Rattle.channelnumbers.proofs.tidy_editions.Goals as goal

pub returns-then-n : goal.returns-then-n
returns-then-n c =
    let a = c.args in
    λ es read few.
    absurd (omega (arith, few, editions_many a.kind a.ws.now (get_or a.ws.now 64 0) 65 es read, c.if-n.true))

pub loop-i-init : goal.loop-i-init
loop-i-init c es read = stored_none c.args.ws.now 65 (editions_numbers c.args.kind es) c.told-ws

pub loop-i-preserved : goal.loop-i-preserved
loop-i-preserved c es read =
    let a = c.args in
    tidied_more a.kind a.ws.now es (get_or a.ws.now 64 0) read (omega arith) c.loop-i-test.true (c.loop-i.invariant es read) c.tidy_edition.ensures

pub returns : goal.returns
returns c =
    let a = c.args in
    let n = get_or a.ws.now 64 0 in
    let end : c.loop-i.i ≡ n = omega arith in
    λ es read few.
    let stored = rw end at (c.loop-i.invariant es read) in
    all_tidied a.kind a.ws.now es n read (omega arith) (65 + n * 6) refl refl stored
    (zeros_behind (65 + n * 6) c.loop-i.ws c.fill.new.self stored.kept (omega arith) (c.fill.ensures.after (λ y h. h)))
