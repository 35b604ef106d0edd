-- Single-precision numbers: the quotient of two whole numbers is one, and what is none has other bits. Assumes nothing.
use mathlib.Core.Path.{◌≡◌, refl, sym, subst, ap, ◌∙◌}
use mathlib.Core.Bool.{Bool, true, false, cond, false≢true}
use Prim.Native.Nat.{ℕ, zero, suc, ◌+◌, ◌*◌, ◌^◌, ◌≤◌, ◌<◌}
use native.Mathlib.Nat.{mul-one, mul-pos, lt_irrefl, zero-mul}
use native.Mathlib.Omega.{arith}
use lib.Dec.{T, ltb, eqb}
use lib.IntN.{pos}
use lib.Ieee.{Float, nan, inf, fin, Format, binary32, is_nan, round, units, odd, div, of_int, up, down, fits}
use lib.Ieee.{to_bits, of_bits, low, emax, prec}
use lib.Ieee.Bits.{of_bits-to_bits}
use lib.Ieee.Fits.{down_pos, div-fits}
use lib.Ieee.Exact.{HasValue}
use lib.Ieee.Back.{round_whole}
use lib.Ieee.Scale.{round_same}
use borrow.Author.Tests.{ne_eqb}
use Rattle.synth.specs.Levels.{quotient}

-- rounding gives a number
odd_number : (d : ℕ) (s : Bool) (q k l : ℕ) → is_nan (odd d s q k l) ≡ false
unfolding odd is_nan
odd_number d s zero k l = refl
odd_number d s (suc q) k l = refl

cond_number : (b : Bool) (x y : Float) → is_nan x ≡ false → is_nan y ≡ false → is_nan (cond b x y) ≡ false
cond_number true x y p q = p
cond_number false x y p q = q

units_number : (f : Format) (s : Bool) (q k : ℕ) → is_nan (units f s q k) ≡ false
unfolding units is_nan
units_number f s q k =
    cond_number (ltb (q * 2 ^ k) (2 ^ (low f + suc (emax f)))) (odd (suc (prec f)) s q k (low f)) (inf s)
    (odd_number (suc (prec f)) s q k (low f)) refl

round_number : (f : Format) (s : Bool) (a b : ℕ) → is_nan (round f s a b) ≡ false
unfolding round
round_number f s a b = units_number f s _ _

-- the quotient of two exact numbers is their fraction, rounded once
div_is : (x y : Float) (n d : ℕ) → HasValue x false n 1 → HasValue y false d 1 → 0 < d
    → div binary32 x y ≡ round binary32 false n d
unfolding div
div_is nan y n d v w h = absurd v
div_is (inf s) y n d v w h = absurd v
div_is (fin s m e) nan n d v w h = absurd w
div_is (fin s m e) (inf t) n d v w h = absurd w
div_is (fin s m e) (fin t k f) n d v w h =
    let p : m * up e ≡ n * down e = sym (mul-one (m * up e)) ∙ v.1 in
    let q : k * up f ≡ d * down f = sym (mul-one (k * up f)) ∙ w.1 in
    let r : 0 < d * down f = mul-pos h (down_pos f) in
    let b : 0 < k * up f * down e = rw q (mul-pos r (down_pos e)) in
    let z : eqb k 0 ≡ false =
    ne_eqb k 0 (λ (c : k ≡ 0). lt_irrefl 0
    (subst (λ (j : ℕ). 0 < j) (sym q ∙ ap (λ (j : ℕ). j * up f) c ∙ zero-mul (up f)) r)) in
    let g : m * up e * down f * d ≡ n * (k * up f * down e) = rw (p, q) (omega arith) in
    rw (z, v.0, w.0) (round_same binary32 false (m * up e * down f) (k * up f * down e) n d b h g)

quotient_is : (n d : ℕ) → n ≤ 16777216 → d ≤ 16777216 → 0 < d → quotient n d ≡ round binary32 false n d
unfolding quotient of_int
quotient_is n d hn hd h =
    div_is (round binary32 false n 1) (round binary32 false d 1) n d (round_whole binary32 false n hn)
    (round_whole binary32 false d hd) h

pub quotient_number : (n d : ℕ) → n ≤ 16777216 → d ≤ 16777216 → 0 < d → is_nan (quotient n d) ≡ false
quotient_number n d hn hd h = ap is_nan (quotient_is n d hn hd h) ∙ round_number binary32 false n d

no_number : (x : Float) → is_nan x ≡ true → x ≡ nan
unfolding is_nan
no_number nan e = refl
no_number (inf s) e = absurd (false≢true e)
no_number (fin s m k) e = absurd (false≢true e)

nan_fits : T (fits binary32 nan)
unfolding fits
nan_fits = tt

nan_none : is_nan nan ≡ true
unfolding is_nan
nan_none = refl

-- what is no number has not the bits of a quotient
pub other_bits : (x : Float) (n d : ℕ) → n ≤ 16777216 → d ≤ 16777216 → 0 < d → is_nan x ≡ true
    → eqb (to_bits binary32 x) (to_bits binary32 (quotient n d)) ≡ false
unfolding quotient
other_bits x n d hn hd h e =
    ne_eqb _ _ (λ same.
    false≢true (sym (quotient_number n d hn hd h)
    ∙ ap is_nan (sym (of_bits-to_bits binary32 _ (div-fits binary32 (of_int binary32 (pos n)) (of_int binary32 (pos d)))))
    ∙ ap (λ b. is_nan (of_bits binary32 b)) (sym same)
    ∙ ap (λ x. is_nan (of_bits binary32 (to_bits binary32 x))) (no_number x e)
    ∙ ap is_nan (of_bits-to_bits binary32 nan nan_fits)
    ∙ nan_none))
