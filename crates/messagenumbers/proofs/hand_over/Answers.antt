-- `messagenumbers::hand_over` meets its contract. Assumes nothing.
use mathlib.Core.Path.{◌∙◌}
use mathlib.Core.List.{append_assoc}
use native.Mathlib.Omega.{arith}
use lib.ListN.{length-take}
use Rattle.messagenumbers.proofs.Handing.{was_read}
use Rattle.messagenumbers.proofs.hand_over.Goals as goal

pub overflow_mul-places : goal.overflow_mul-places
overflow_mul-places c =
    let a = c.args in
    omega (arith, (was_read a.params a.f.now a.at _ _ _ c.read_header-read.ensures c.in-Some.is).few)

pub slice_bounds-places-end : goal.slice_bounds-places-end
slice_bounds-places-end c =
    let a = c.args in
    let r = was_read a.params a.f.now a.at _ _ _ c.read_header-read.ensures c.in-Some.is in
    omega (arith, r.few, r.room)

pub slice_bounds-hand-end-2 : goal.slice_bounds-hand-end-2
slice_bounds-hand-end-2 c =
    let a = c.args in
    let r = was_read a.params a.f.now a.at _ _ _ c.read_header-read.ensures c.in-Some.is in
    simp length-take (omega (arith, r.few, r.room))

pub returns : goal.returns
returns c =
    let a = c.args in
    let r = was_read a.params a.f.now a.at _ _ _ c.read_header-read.ensures c.in-Some.is in
    c.hand-2.ensures ∙ rw (r.numbers, c.from.ensures, append_assoc)
