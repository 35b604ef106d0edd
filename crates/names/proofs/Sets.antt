-- A mask that a set of bits is met by: `and` over `or`, bit by bit.
-- Assumes nothing.
use mathlib.Core.Path.{◌≡◌, refl, sym, ap, ap₂, ◌∙◌}
use mathlib.Core.Bool.{◌&&◌}
use Prim.Native.Nat.{ℕ, zero, suc, ◌+◌, ◌*◌, ◌/◌, ◌%◌, ◌<◌, min, max}
use native.Mathlib.Nat.{mod-lt}
use native.Mathlib.Omega.{arith}
use lib.Arith.{bin_ind}
use lib.Bits.{bit_and, bit_or, and_step, or_step, and_shr, and_mod, or_shr, or_mod, and_zero_r, or_zero_l, or_add_and, and_le_r}
use lib.Dec.{eqb}
use borrow.Author.Tests.{ne_eqb}

digit : (x y z : ℕ) → x < 2 → y < 2 → z < 2 → min (bit_or x y) z ≡ max (bit_and x z) (bit_and y z)
digit zero zero zero h k l = refl
digit zero zero (suc zero) h k l = refl
digit zero (suc zero) zero h k l = refl
digit zero (suc zero) (suc zero) h k l = refl
digit (suc zero) zero zero h k l = refl
digit (suc zero) zero (suc zero) h k l = refl
digit (suc zero) (suc zero) zero h k l = refl
digit (suc zero) (suc zero) (suc zero) h k l = refl
digit (suc (suc x)) y z h k l = absurd (omega arith)
digit zero (suc (suc y)) z h k l = absurd (omega arith)
digit (suc zero) (suc (suc y)) z h k l = absurd (omega arith)
digit zero zero (suc (suc z)) h k l = absurd (omega arith)
digit zero (suc zero) (suc (suc z)) h k l = absurd (omega arith)
digit (suc zero) zero (suc (suc z)) h k l = absurd (omega arith)
digit (suc zero) (suc zero) (suc (suc z)) h k l = absurd (omega arith)

low : (x : ℕ) → x % 2 < 2
low x = mod-lt x (omega arith)

pub and_over_or : (s a b : ℕ) → bit_and (bit_or a b) s ≡ bit_or (bit_and a s) (bit_and b s)
and_over_or =
    bin_ind (λ (s : ℕ). (a b : ℕ) → bit_and (bit_or a b) s ≡ bit_or (bit_and a s) (bit_and b s))
    (λ a b. and_zero_r (bit_or a b) ∙ sym (ap₂ bit_or (and_zero_r a) (and_zero_r b)))
    (λ s ih a b. and_step (bit_or a b) s
    ∙ ap₂ (λ (x y : ℕ). bit_and x (s / 2) * 2 + min y (s % 2)) (or_shr a b 1) (or_mod a b 1)
    ∙ ap₂ (λ (x y : ℕ). x * 2 + y) (ih (a / 2) (b / 2)) (digit (a % 2) (b % 2) (s % 2) (low a) (low b) (low s))
    ∙ ap₂ (λ (x y : ℕ). x * 2 + y)
    (ap₂ bit_or (sym (and_shr a s 1)) (sym (and_shr b s 1)))
    (ap₂ max (sym (and_mod a s 1)) (sym (and_mod b s 1)))
    ∙ sym (or_step (bit_and a s) (bit_and b s)))

pub or_none_lem : (a b : ℕ) → eqb (bit_or a b) 0 ≡ eqb a 0 && eqb b 0
or_none_lem zero b = ap (λ n. eqb n 0) (or_zero_l b)
or_none_lem (suc a) b =
    ne_eqb (bit_or (suc a) b) 0 (λ e. let z : bit_or (suc a) b ≡ 0 = e in omega (arith, or_add_and (suc a) b, and_le_r (suc a) b))
    ∙ sym (ap (λ t. t && eqb b 0) (ne_eqb (suc a) 0 (λ e. let z : suc a ≡ 0 = e in omega arith)))
