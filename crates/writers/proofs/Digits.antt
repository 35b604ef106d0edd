-- Decimal digits: what they are, which number they write, how many there are. `digits` is used through `digits_small`, `digits_big` and
-- `dec_ind` alone, so its fuel stays here.
use Prim.Native.Nat.{ℕ, zero, suc, ◌+◌, ◌*◌, ◌/◌, ◌%◌, ◌^◌, ◌≤◌, ◌<◌, max}
use native.Mathlib.Nat.{le_refl, not-suc-le-zero, pow-suc, pow-le-pow_right}
use native.Mathlib.Numerals.{add-one}
use native.Mathlib.Omega.{arith}
use native.Mathlib.Decide.{dec_lt}
use mathlib.Core.Path.{◌≡◌, refl, sym, ap, ◌∙◌}
use mathlib.Core.Bool.{true}
use mathlib.Core.List.{List, [], ◌∷◌, ◌++◌}
use lib.ListN.{length, length-append}
use borrow.Author.Tests.{lt-ltb, le-ltb, le-leb}
use Rattle.lists.specs.Lists.{all}
use Rattle.octets.specs.Octets.{is_digit}
use Rattle.readers.specs.Words.{number_of, is_request_id}
use Rattle.lists.proofs.Scans.{all_append}
use Rattle.readers.proofs.Words.{decimal_append, number_fits, id_fits}
use Rattle.writers.specs.Decimal.{digits_within, digits, width, three_digits}

-- induction on decimal digits
pub dec_ind {ℓ} : (P : ℕ → Type ℓ) → ((n : ℕ) → n < 10 → P n) → ((n : ℕ) → 10 ≤ n → P (n / 10) → P n) → (n : ℕ) → P n
dec_ind P small big n = go (suc n) n (le_refl (suc n))
  where
    step : (n : ℕ) → Dec (n < 10) → (10 ≤ n → P (n / 10)) → P n
    step n (yes h) r = small n h
    step n (no h) r = let g : 10 ≤ n = omega arith in big n g (r g)

    go : (f m : ℕ) → m < f → P m
    go zero m h = absurd (not-suc-le-zero h)
    go (suc f) m h = step m (dec_lt m 10) (λ g. go f (m / 10) (omega arith))

within_small : (f n : ℕ) → n < 10 → digits_within (suc f) n ≡ (48 + n) ∷ []
unfolding digits_within
within_small f n h = rw (lt-ltb n 10 h, digits_within)

within_big : (f n : ℕ) → 10 ≤ n → digits_within (suc f) n ≡ digits_within f (n / 10) ++ ((48 + n % 10) ∷ [])
unfolding digits_within
within_big f n h = rw (le-ltb n 10 h, digits_within)

-- any fuel above n serves
fuel : (n f g : ℕ) → n < f → n < g → digits_within f n ≡ digits_within g n
fuel n zero g h k = absurd (not-suc-le-zero h)
fuel n (suc f) zero h k = absurd (not-suc-le-zero k)
fuel n (suc f) (suc g) h k = step (dec_lt n 10) (λ b. fuel (n / 10) f g (omega arith) (omega arith))
  where
    step : Dec (n < 10) → (10 ≤ n → digits_within f (n / 10) ≡ digits_within g (n / 10)) → digits_within (suc f) n ≡ digits_within (suc g) n
    step (yes s) r = within_small f n s ∙ sym (within_small g n s)
    step (no s) r = let b : 10 ≤ n = omega arith in within_big f n b ∙ ap (λ (l : List ℕ). l ++ ((48 + n % 10) ∷ [])) (r b) ∙ sym (within_big g n b)

pub digits_small : (n : ℕ) → n < 10 → digits n ≡ (48 + n) ∷ []
unfolding digits
digits_small n h = within_small n n h

pub digits_big : (n : ℕ) → 10 ≤ n → digits n ≡ digits (n / 10) ++ ((48 + n % 10) ∷ [])
unfolding digits
digits_big n h =
    within_big n n h ∙ ap (λ (l : List ℕ). l ++ ((48 + n % 10) ∷ [])) (fuel (n / 10) n (suc (n / 10)) (omega arith) (omega arith))

-- ---- what they are, and which number they write

digit : (d : ℕ) → d < 10 → is_digit (48 + d) ≡ true
digit d h = rw (le-leb 48 (48 + d) (omega arith), le-leb (48 + d) 57 (omega arith))

pub digits_all : (n : ℕ) → all is_digit (digits n) ≡ true
digits_all n = dec_ind (λ m. all is_digit (digits m) ≡ true) small big n
  where
    small : (m : ℕ) → m < 10 → all is_digit (digits m) ≡ true
    small m h = rw (digits_small m h, digit m h)

    big : (m : ℕ) → 10 ≤ m → all is_digit (digits (m / 10)) ≡ true → all is_digit (digits m) ≡ true
    big m h ih = rw (digits_big m h) (all_append is_digit (digits (m / 10)) _ ih (rw (digit (m % 10) (omega arith))))

pub digits_number : (n : ℕ) → number_of (digits n) ≡ n
digits_number n = dec_ind (λ m. number_of (digits m) ≡ m) small big n
  where
    small : (m : ℕ) → m < 10 → number_of (digits m) ≡ m
    small m h = rw (digits_small m h) (omega arith)

    big : (m : ℕ) → 10 ≤ m → number_of (digits (m / 10)) ≡ m / 10 → number_of (digits m) ≡ m
    big m h ih = rw (digits_big m h, decimal_append 0 (digits (m / 10)) ((48 + m % 10) ∷ []), ih) (omega arith)

-- ---- how many there are

pub width_small : (n : ℕ) → n < 10 → width n ≡ 1
width_small n h = rw (digits_small n h)

pub width_big : (n : ℕ) → 10 ≤ n → width n ≡ width (n / 10) + 1
width_big n h = ap length (digits_big n h) ∙ length-append (digits (n / 10)) ((48 + n % 10) ∷ [])

pub width_pos : (n : ℕ) → 1 ≤ width n
width_pos n = dec_ind (λ m. 1 ≤ width m) (λ m h. omega (arith, width_small m h)) (λ m h ih. omega (arith, width_big m h)) n

-- n is below ten to the number of its digits
pub width_above : (n : ℕ) → n < 10 ^ width n
width_above n = dec_ind (λ m. m < 10 ^ width m) small big n
  where
    small : (m : ℕ) → m < 10 → m < 10 ^ width m
    small m h = rw (width_small m h) h

    big : (m : ℕ) → 10 ≤ m → m / 10 < 10 ^ width (m / 10) → m < 10 ^ width m
    big m h ih = rw (width_big m h, add-one, pow-suc) (omega arith)

-- and whatever is below ten to the k has at most k digits
pub width_below : (n k : ℕ) → n < 10 ^ suc k → width n ≤ suc k
width_below n k h = dec_ind (λ m. (k : ℕ) → m < 10 ^ suc k → width m ≤ suc k) small big n k h
  where
    small : (m : ℕ) → m < 10 → (k : ℕ) → m < 10 ^ suc k → width m ≤ suc k
    small m h k b = omega (arith, width_small m h)

    big : (m : ℕ) → 10 ≤ m → ((k : ℕ) → m / 10 < 10 ^ suc k → width (m / 10) ≤ suc k) → (k : ℕ) → m < 10 ^ suc k → width m ≤ suc k
    big m h ih zero b = absurd (omega arith)
    big m h ih (suc k) b = let s : m < 10 ^ suc k * 10 = rw pow-suc at b in omega (arith, width_big m h, ih k (omega arith))

pub width_mono : (m n : ℕ) → m ≤ n → width m ≤ width n
width_mono m n h = dec_ind (λ m. (n : ℕ) → m ≤ n → width m ≤ width n) small big m n h
  where
    small : (m : ℕ) → m < 10 → (n : ℕ) → m ≤ n → width m ≤ width n
    small m h n l = omega (arith, width_small m h, width_pos n)

    big : (m : ℕ) → 10 ≤ m → ((n : ℕ) → m / 10 ≤ n → width (m / 10) ≤ width n) → (n : ℕ) → m ≤ n → width m ≤ width n
    big m h ih n l = let g : 10 ≤ n = omega arith in omega (arith, width_big m h, width_big n g, ih (n / 10) (omega arith))

-- a u64 has at most twenty
pub width_64 : (n : ℕ) → n < 2 ^ 64 → width n ≤ 20
width_64 n h = width_below n 19 (omega arith)

-- counted by the greatest power of ten that is not above n, where 0 counts as 1
pub width_powers : (n k : ℕ) → 10 ^ k ≤ max n 1 → max n 1 < 10 * 10 ^ k → width n ≡ k + 1
width_powers n k low high = zero_as_one (dec_lt n 1) ∙ counted (max n 1) low high
  where
    zero_as_one : Dec (n < 1) → width n ≡ width (max n 1)
    zero_as_one (yes h) = omega (arith, width_small n (omega arith), width_small (max n 1) (omega arith))
    zero_as_one (no h) = let e : n ≡ max n 1 = omega arith in ap width e

    counted : (m : ℕ) → 10 ^ k ≤ m → m < 10 * 10 ^ k → width m ≡ k + 1
    counted m low high = step (dec_lt k (width m))
      where
        step : Dec (k < width m) → width m ≡ k + 1
        step (yes h) = omega (arith, width_below m k (rw pow-suc (omega arith)))
        step (no h) = absurd (omega (arith, width_above m, pow-le-pow_right {n = 10} (omega arith) {i = width m} {j = k} (omega arith)))

-- an id in range, written, is a request-id
pub id_written : (n : ℕ) → n < 4294967296 → is_request_id (digits n) ≡ true
id_written n h =
    id_fits (digits n) (number_fits 10 (digits n) (width_pos n) (width_below n 9 (omega arith)) (digits_all n)) (rw (digits_number n) (omega arith))

-- ---- three digits

pub three_all : (n : ℕ) → n < 1000 → all is_digit (three_digits n) ≡ true
unfolding three_digits
three_all n h = rw (digit (n / 100 % 10) (omega arith), digit (n / 10 % 10) (omega arith), digit (n % 10) (omega arith))

pub three_number : (n : ℕ) → n < 1000 → number_of (three_digits n) ≡ n
unfolding three_digits
three_number n h = omega arith

pub three_length : (n : ℕ) → length (three_digits n) ≡ 3
unfolding three_digits
three_length n = refl
