-- `self_length base` fits, and whatever fits is no smaller.
use Prim.Native.Nat.{ℕ, zero, suc, ◌+◌, ◌*◌, ◌^◌, ◌≤◌, ◌<◌}
use native.Mathlib.Nat.{pow-suc, pow-zero, le_antisymm}
use native.Mathlib.Omega.{arith}
use native.Mathlib.Decide.{dec_lt}
use mathlib.Core.Path.{◌≡◌, sym, ap}
use Rattle.writers.specs.Decimal.{width}
use Rattle.writers.specs.SelfLength.{Fits, self_length}
use Rattle.writers.proofs.Digits.{width_above, width_below, width_mono}

-- a number of digits is below ten to it
lt_pow : (k : ℕ) → k + 1 ≤ 10 ^ k
lt_pow zero = rw pow-zero (omega arith)
lt_pow (suc k) = rw pow-suc (omega (arith, lt_pow k))

-- base with the number of its digits, and one more, has at most one digit more than base
one_more : (b : ℕ) → width (b + width b + 1) ≤ width b + 1
one_more b =
    let e : 10 ^ suc (width b) ≡ 10 ^ width b * 10 = pow-suc 10 (width b) in
    omega (arith, width_below (b + width b + 1) (width b) (omega (arith, width_above b, lt_pow (width b))))

pub fits : (b : ℕ) → Fits b (self_length b)
unfolding self_length
fits b = ap (λ (k : ℕ). b + k) (go (dec_lt (width b) (width (b + width b))))
  where
    go : Dec (width b < width (b + width b)) → width (b + width b) ≡ width (b + width (b + width b))
    go (yes h) =
        let e : width (b + width b) ≡ width b + 1 = omega (arith, one_more b, width_mono (b + width b) (b + width b + 1) (omega arith)) in
        let f : b + width (b + width b) ≡ b + width b + 1 = omega arith in
        le_antisymm (width_mono _ _ (omega arith)) (rw f (rw e (one_more b)))
    go (no h) =
        let e : width (b + width b) ≡ width b = omega (arith, width_mono b (b + width b) (omega arith)) in
        ap (λ (k : ℕ). width (b + k)) (sym e)

pub least : (b m : ℕ) → Fits b m → self_length b ≤ m
unfolding self_length
least b m e =
    let one : width b ≤ width m = width_mono b m (omega arith) in
    let two : width (b + width b) ≤ width m = width_mono (b + width b) m (omega arith) in
    omega arith

-- as code counts it
pub counted_twice : {b base v w : ℕ} → b ≡ base → v ≡ width b → w ≡ width (b + v) → b + w ≡ self_length base
unfolding self_length
counted_twice e f g = rw (g, f, e)

pub self_more : (base : ℕ) → base ≤ self_length base
unfolding self_length
self_more base = omega arith
