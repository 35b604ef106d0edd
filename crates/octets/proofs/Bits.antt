-- The rule of the table at each entry, and rules of bytes by one computation over all 256. Assumes nothing.
use mathlib.Core.Path.{◌≡◌, refl, ◌∙◌, ap, sym}
use mathlib.Core.Bool.{Bool, false, not}
use Prim.Native.Nat.{ℕ, zero, suc, ◌+◌, ◌<◌}
use native.Mathlib.Nat.{add-zero, zero-add, add-suc, suc-add, le_of_suc-le-suc, not-suc-le-zero}
use lib.Bits.{bit_and}
use lib.Dec.{eqb}
use lib.ListN.{get_or}
use Rattle.octets.specs.Octets.{from, classes, class_of, is_digit, is_capital, is_name, is_value, is_blank, is_gap, Stands}

module _ {A : Type 0} (f : ℕ → A) (d : A) where
  at_from : (n i k : ℕ) → k < n → get_or (from f i n) k d ≡ f (i + k)
  at_from zero i k h = absurd (not-suc-le-zero h)
  at_from (suc n) i zero h = ap f (sym (add-zero i))
  at_from (suc n) i (suc k) h = at_from n (suc i) k (le_of_suc-le-suc h) ∙ ap f (suc-add i k ∙ sym (add-suc i k))

  pub entry : (n k : ℕ) → k < n → get_or (from f 0 n) k d ≡ f k
  entry n k h = at_from n 0 k h ∙ ap f (zero-add k)

-- two functions with one table agree on its entries
pub agree : {A : Type 0} (f g : ℕ → A) (d : A) (n : ℕ) → from f 0 n ≡ from g 0 n → (k : ℕ) → k < n → f k ≡ g k
agree f g d n e k h = sym (entry f d n k h) ∙ ap (λ t. get_or t k d) e ∙ entry g d n k h

pub class_at : (b : ℕ) → b < 256 → get_or classes b 0 ≡ class_of b
class_at b h = entry class_of 0 256 b h

-- by one computation over all 256
by_class : (bits : ℕ) (test : ℕ → Bool) → from (λ b. not (eqb (bit_and (class_of b) bits) 0)) 0 256 ≡ from test 0 256 → Stands bits test
by_class bits test e = record {
  law = λ b h. ap (λ (x : ℕ). not (eqb (bit_and x bits) 0)) (class_at b h) ∙ agree (λ b. not (eqb (bit_and (class_of b) bits) 0)) test false 256 e b h;
}

-- each bit means what its name says
pub digit_bit : Stands 1 is_digit
digit_bit = by_class 1 is_digit refl

pub capital_bit : Stands 2 is_capital
capital_bit = by_class 2 is_capital refl

pub name_bit : Stands 4 is_name
name_bit = by_class 4 is_name refl

pub value_bit : Stands 8 is_value
value_bit = by_class 8 is_value refl

pub blank_bit : Stands 16 is_blank
blank_bit = by_class 16 is_blank refl

pub gap_bit : Stands 32 is_gap
gap_bit = by_class 32 is_gap refl
