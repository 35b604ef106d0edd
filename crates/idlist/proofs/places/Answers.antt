-- `idlist::places` meets its contract. Assumes nothing.
use mathlib.Core.Path.{◌≡◌, refl, ap₂, ◌∙◌}
use mathlib.Core.Bool.{Bool, true, false, cond}
use lib.Dec.{eqb}
use lib.ListN.{get_or}
use Rattle.std.specs.Int.{from_bool}
use Prim.Native.Nat.{◌+◌, ◌-◌, ◌*◌, ◌^◌, ◌<◌}
use native.Mathlib.Omega.{arith}
use Rattle.idlist.proofs.Marks.{bit_small, from_end_lem, from_more, from_below}
use Rattle.idlist.proofs.places.Goals as goal
use Rattle.idlist.proofs.places.Goals.{In-loop-j}

pub loop-j-init : goal.loop-j-init
loop-j-init c = from_end_lem c.args.id c.args.ids.now _ (omega arith)

-- 63 places have room for one more
room : (c : In-loop-j) → c.loop-j.bits < 2 ^ 63
room c = omega (arith, from_below c.args.id c.args.ids.now c.loop-j.j (omega arith))

pub overflow_mul-bits : goal.overflow_mul-bits
overflow_mul-bits c = omega (arith, room (goal.at.overflow_mul-bits c).In-loop-j)

-- a test as a number
bit_of : (b : Bool) → from_bool b ≡ cond b 1 0
bit_of true = refl
bit_of false = refl

pub overflow_add-bits : goal.overflow_add-bits
overflow_add-bits c =
    let b = eqb (get_or c.args.ids.now (c.loop-j.j - 1) 0) c.args.id in
    omega (arith, room (goal.at.overflow_add-bits c).In-loop-j, bit_of b, bit_small b)

pub loop-j-preserved : goal.loop-j-preserved
loop-j-preserved c =
    let a = c.args in
    ap₂ (λ b x. b * 2 + x) c.loop-j.invariant (c.from.ensures ∙ bit_of _)
    ∙ from_more a.id a.ids.now _ _ (omega arith) (omega arith) (omega arith)
