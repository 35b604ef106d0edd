-- Bits of a mask of any width: set and tested. Assumes nothing.
use mathlib.Core.Path.{◌≡◌, refl, ◌∙◌, subst}
use mathlib.Core.Bool.{Bool, true, false, not, cond, ◌||◌}
use mathlib.Core.Logic.{◌⊎◌, inl, inr}
use Prim.Native.Nat.{ℕ, zero, suc, ◌+◌, ◌-◌, ◌*◌, ◌/◌, ◌%◌, ◌^◌, ◌≤◌, ◌<◌}
use native.Mathlib.Nat.{div-eq_of_lt, div_self, mul-div_cancel_left, mod-lt, eq-or-lt_of_le, one-mul}
use native.Mathlib.Omega.{arith}
use borrow.Author.Tests.{eq-eqb, ne_eqb, ltb-true, ltb-false}
use lib.Dec.{eqb, ltb}
use lib.Pow.{pow-lt, pow_pos, pow-add, high_ones}
use lib.Bits.{bit_and, bit_or, or_shr, or_mod, and_high}
use Rattle.lists.specs.Lists.{bit}

either_way : (a b : ℕ) (c : Bool) → ltb a b ≡ c → (a < b) ⊎ (b ≤ a)
either_way a b true e = inl (ltb-true a b e)
either_way a b false e = inr (ltb-false a b e)

-- bit j of 2 ^ k
pow_bit : (k j : ℕ) → 2 ^ k / 2 ^ j % 2 ≡ cond (eqb j k) 1 0
pow_bit k j = go (either_way k j (ltb k j) refl)
  where
    above : (t : ℕ) → 2 ^ (j + suc t) / 2 ^ j % 2 ≡ 0
    above t = rw (pow-add 2 j (suc t), mul-div_cancel_left (2 ^ suc t) (pow_pos j)) (omega arith)

    up : j < k → 2 ^ k / 2 ^ j % 2 ≡ 0
    up h = let e : j + suc (k - j - 1) ≡ k = omega arith in subst (λ (n : ℕ). 2 ^ n / 2 ^ j % 2 ≡ 0) e (above (k - j - 1))

    at : (j ≡ k) ⊎ (j < k) → 2 ^ k / 2 ^ j % 2 ≡ cond (eqb j k) 1 0
    at (inl e) = rw (eq-eqb j k e, e, div_self (pow_pos k))
    at (inr h) = rw (ne_eqb j k (λ e. let q : j ≡ k = e in omega arith), up h)

    go : (k < j) ⊎ (j ≤ k) → 2 ^ k / 2 ^ j % 2 ≡ cond (eqb j k) 1 0
    go (inl h) = rw (ne_eqb j k (λ e. let q : j ≡ k = e in omega arith), div-eq_of_lt (pow-lt h))
    go (inr h) = at (eq-or-lt_of_le h)

either : (x : ℕ) (c : Bool) → x < 2 → eqb (bit_or x (cond c 1 0)) 1 ≡ (c || eqb x 1)
either zero true h = refl
either zero false h = refl
either (suc zero) true h = refl
either (suc zero) false h = refl
either (suc (suc x)) c h = absurd (omega arith)

-- a bit set
pub set_any : (m k j : ℕ) → bit (bit_or m (2 ^ k)) j ≡ (eqb j k || bit m j)
set_any m k j =
    rw (or_shr m (2 ^ k) j, or_mod (m / 2 ^ j) (2 ^ k / 2 ^ j) 1, pow_bit k j) (either (m / 2 ^ j % 2) (eqb j k) (mod-lt (m / 2 ^ j) (omega arith)))

-- m & 2 ^ k is 2 ^ k where the bit is set, and 0 where it is not
and_bit : (m k : ℕ) → bit_and m (2 ^ k) ≡ m / 2 ^ k % 2 * 2 ^ k
and_bit m k = subst (λ (n : ℕ). bit_and m n ≡ m / 2 ^ k % 2 * 2 ^ k) (high_ones 1 k ∙ one-mul (2 ^ k)) (and_high m 1 k)

nonzero : (x p : ℕ) → x < 2 → 0 < p → eqb (x * p) 0 ≡ not (eqb x 1)
nonzero zero p h q = let e : 0 * p ≡ 0 = omega arith in rw e
nonzero (suc zero) p h q = rw (ne_eqb (1 * p) 0 (λ e. let z : 1 * p ≡ 0 = e in omega arith))
nonzero (suc (suc x)) p h q = absurd (omega arith)

-- and tested
pub test_any : (m k : ℕ) → eqb (bit_and m (2 ^ k)) 0 ≡ not (bit m k)
test_any m k = rw (and_bit m k) (nonzero (m / 2 ^ k % 2) (2 ^ k) (mod-lt (m / 2 ^ k) (omega arith)) (pow_pos k))
