-- `told::put_level` meets its contract: four runs, one behind the other. Assumes nothing.
use Prim.Native.Nat.{ℕ, ◌/◌, ◌%◌, ◌^◌, ◌≤◌, ◌<◌}
use native.Mathlib.Omega.{arith}
use Rattle.writers.specs.Decimal.{width}
use Rattle.writers.proofs.Digits.{width_below, three_length}
use Rattle.writers.proofs.Put.{◌▸◌}
use Rattle.told.proofs.put_level.Goals as goal

-- the digits before the point are at most four
whole : (m : ℕ) → m < 2 ^ 32 → width (m / 1000000) ≤ 4
whole m h = width_below (m / 1000000) 3 (omega arith)

pub put_digits-p-requires : goal.put_digits-p-requires
put_digits-p-requires c = grind (arith, whole c.args.l.millionths (omega arith))

pub put_bytes-q-requires : goal.put_bytes-q-requires
put_bytes-q-requires c =
    let m = c.args.l.millionths in
    grind (arith, whole m (omega arith))

pub put_three-r-requires : goal.put_three-r-requires
put_three-r-requires c =
    let m = c.args.l.millionths in
    grind (arith, whole m (omega arith))

pub put_three-requires : goal.put_three-requires
put_three-requires c =
    let m = c.args.l.millionths in
    grind (arith, whole m (omega arith), three_length (m / 1000 % 1000))

pub returns : goal.returns
returns c =
    let m = c.args.l.millionths in
    let w =
    c.put_digits-p.ensures
    ▸ c.put_bytes-q.ensures
    ▸ c.put_three-r.ensures
    ▸ c.put_three.ensures in
    (rw (← c.from.ensures) w, grind (arith, whole m (omega arith), three_length (m / 1000 % 1000), three_length (m % 1000)))
