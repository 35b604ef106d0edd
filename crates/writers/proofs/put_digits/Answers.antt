-- `writers::put_digits` meets its contract. The invariant: `out` with the digits of what is left of n put at `at` is what it is to be, and
-- k is the place of the last of them. Assumes nothing.
use mathlib.Core.Path.{◌≡◌, refl, ◌∙◌}
use mathlib.Core.List.{List}
use Prim.Native.Nat.{ℕ, ◌+◌, ◌/◌, ◌%◌, ◌≤◌, ◌<◌}
use native.Mathlib.Omega.{arith}
use lib.ListN.{length, set, length-set}
use Rattle.writers.specs.Decimal.{digits, width}
use Rattle.writers.specs.Buffer.{put}
use Rattle.writers.proofs.Digits.{digits_small, digits_big, width_pos, width_small, width_big}
use Rattle.writers.proofs.Put.{put_one, put_before}
use Rattle.writers.proofs.put_digits.Goals as goal

module _ (out : List ℕ) (at k m : ℕ) (last : k + 1 ≡ at + width m) (room : at + width m ≤ length out) where
  -- the last of several digits, and those before it
  several : 10 ≤ m → put (set out k (48 + m % 10)) at (digits (m / 10)) ≡ put out at (digits m)
  several h =
      let e : k ≡ at + width (m / 10) = omega (arith, width_big m h) in
      rw (e, digits_big m h) (put_before out at (digits (m / 10)) (48 + m % 10) (omega arith))

  -- the only digit
  only : m < 10 → set out k (48 + m) ≡ put out at (digits m)
  only h =
      let e : k ≡ at = omega (arith, width_small m h) in
      rw (e, digits_small m h) (put_one out at (48 + m) (omega arith))

pub overflow_sub-k : goal.overflow_sub-k
overflow_sub-k c = omega (arith, width_pos c.args.n)

pub loop-m-init : goal.loop-m-init
loop-m-init c = (refl, omega (arith, width_pos c.args.n), omega arith, refl)

pub overflow_sub-k-in-loop-m : goal.overflow_sub-k-in-loop-m
overflow_sub-k-in-loop-m c = omega (arith, width_big c.loop-m.m c.loop-m-test.true, width_pos (c.loop-m.m / 10))

pub loop-m-preserved : goal.loop-m-preserved
loop-m-preserved c =
    let l = c.loop-m in
    let a = c.args in
    let w = width_big l.m c.loop-m-test.true in
    let p = width_pos (l.m / 10) in (
      several l.out a.at l.k l.m l.invariant.1 l.invariant.2 c.loop-m-test.true ∙ l.invariant.0,
      omega arith,
      simp length-set (omega arith),
      length-set l.out l.k (48 + l.m % 10) ∙ l.invariant.3,
    )

pub shape_of-out : goal.shape_of-out
shape_of-out c = let l = c.loop-m in length-set l.out l.k (48 + l.m) ∙ l.invariant.3

pub returns : goal.returns
returns c =
    let l = c.loop-m in
    let a = c.args in
    record {
      bytes = only l.out a.at l.k l.m l.invariant.1 l.invariant.2 c.loop-m-test.false ∙ l.invariant.0;
      moved = omega arith;
      room = omega arith;
    }
