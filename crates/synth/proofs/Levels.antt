-- Levels: the quotient of two whole numbers is their fraction rounded once, so a level with any number of places is
-- that of its millionths; and a level written with six places reads back. Assumes nothing.
use Prim.Native.Nat.{ℕ, zero, suc, ◌+◌, ◌-◌, ◌*◌, ◌/◌, ◌%◌, ◌^◌, ◌≤◌, ◌<◌}
use mathlib.Core.Path.{◌≡◌, refl, sym, ap, subst, ◌∙◌}
use mathlib.Core.Bool.{true, false, ◌&&◌, ◌||◌}
use mathlib.Core.Option.{Option, none, some}
use mathlib.Core.List.{List, [], ◌∷◌, ◌++◌}
use native.Mathlib.Omega.{arith}
use native.Mathlib.Nat.{mul-one, mul-pos, lt_irrefl, zero-mul}
use lib.Dec.{T, eqb, leb, lit≤}
use lib.IntN.{pos}
use lib.Ieee.{Float, nan, inf, fin, binary32, round, div, of_int, up, down, fits, to_bits, of_bits}
use lib.Ieee.Back.{round_whole}
use lib.Ieee.Bits.{of_bits-to_bits}
use lib.Ieee.Exact.{HasValue}
use lib.Ieee.Fits.{div-fits, down_pos}
use lib.Ieee.Scale.{round_same}
use lib.ListN.{length, length-append}
use borrow.Author.Tests.{leb-true, le-leb, eq-eqb, ne_eqb, eqb-true}
use Rattle.lists.specs.Lists.{all}
use Rattle.lists.proofs.Scans.{all_append}
use Rattle.lists.proofs.Tests.{both, choose}
use Rattle.octets.specs.Octets.{is_digit}
use Rattle.readers.specs.Words.{is_number, number_of, decimal}
use Rattle.writers.specs.Decimal.{three_digits}
use Rattle.writers.proofs.Digits.{digits_small, three_all, three_length}
use Rattle.synth.specs.Levels.{quotient, level_of, places, at_most_one, level_in}
use Rattle.synth.specs.Settings.{level_text, is_kept}
use Rattle.synth.specs.declared.Level.{Level}

-- ---- the quotient

div_is : (x y : Float) (n d : ℕ) → HasValue x false n 1 → HasValue y false d 1 → 0 < d
    → div binary32 x y ≡ round binary32 false n d
unfolding div
div_is nan y n d v w h = absurd v
div_is (inf s) y n d v w h = absurd v
div_is (fin s m e) nan n d v w h = absurd w
div_is (fin s m e) (inf t) n d v w h = absurd w
div_is (fin s m e) (fin t k f) n d v w h =
    let p : m * up e ≡ n * down e = sym (mul-one (m * up e)) ∙ v.1 in
    let q : k * up f ≡ d * down f = sym (mul-one (k * up f)) ∙ w.1 in
    let r : 0 < d * down f = mul-pos h (down_pos f) in
    let b : 0 < k * up f * down e = rw q (mul-pos r (down_pos e)) in
    let z : eqb k 0 ≡ false = ne_eqb k 0 (λ c. lt_irrefl 0
    (subst (λ j. 0 < j) (sym q ∙ ap (λ j. j * up f) c ∙ zero-mul (up f)) r)) in
    let g : m * up e * down f * d ≡ n * (k * up f * down e) = rw (p, q) (omega arith) in
    rw (z, v.0, w.0) (round_same binary32 false (m * up e * down f) (k * up f * down e) n d b h g)

-- two whole numbers that single precision holds, divided: their fraction, rounded once
rounded_once : (n d : ℕ) → n ≤ 16777216 → d ≤ 16777216 → 0 < d → quotient n d ≡ round binary32 false n d
unfolding quotient of_int
rounded_once n d hn hd h =
    div_is (round binary32 false n 1) (round binary32 false d 1) n d (round_whole binary32 false n hn)
    (round_whole binary32 false d hd) h

-- equal fractions have one quotient
same_quotient : (n d k : ℕ) → n ≤ d → 0 < d → 0 < k → d ≤ 1000000 → d * k ≡ 1000000 → n * k ≤ 1000000
    → quotient n d ≡ quotient (n * k) (d * k)
same_quotient n d k l h hk hd e m =
    rounded_once n d (omega arith) (omega arith) h
    ∙ round_same binary32 false n d (n * k) (d * k) h (mul-pos h hk) (omega arith)
    ∙ sym (rounded_once (n * k) (d * k) (omega arith) (omega arith) (mul-pos h hk))

-- what the places of a level come to: its fraction is at most one, and is that of so many millionths
record Scaled (n d k : ℕ) : Type 0 where
  most : n * k ≤ 1000000
  law : quotient n d ≡ quotient (n * k) 1000000

scaled : (n d k : ℕ) → n ≤ d → 0 < d → 0 < k → d ≤ 1000000 → d * k ≡ 1000000 → n * k ≤ 1000000 → Scaled n d k
scaled n d k l h hk hd e m = record {
  most = m;
  law = same_quotient n d k l h hk hd e m ∙ ap (λ b. quotient (n * k) b) e;
}

places_scaled : (n k : ℕ) → k ≤ 6 → n ≤ 10 ^ k → Scaled n (10 ^ k) (10 ^ (6 - k))
places_scaled n zero l h = scaled n 1 1000000 h (lit≤ tt) (lit≤ tt) (lit≤ tt) refl (omega arith)
places_scaled n (suc zero) l h = scaled n 10 100000 h (lit≤ tt) (lit≤ tt) (lit≤ tt) refl (omega arith)
places_scaled n (suc (suc zero)) l h = scaled n 100 10000 h (lit≤ tt) (lit≤ tt) (lit≤ tt) refl (omega arith)
places_scaled n (suc (suc (suc zero))) l h = scaled n 1000 1000 h (lit≤ tt) (lit≤ tt) (lit≤ tt) refl (omega arith)
places_scaled n (suc (suc (suc (suc zero)))) l h = scaled n 10000 100 h (lit≤ tt) (lit≤ tt) (lit≤ tt) refl (omega arith)
places_scaled n (suc (suc (suc (suc (suc zero))))) l h =
    scaled n 100000 10 h (lit≤ tt) (lit≤ tt) (lit≤ tt) refl (omega arith)
places_scaled n (suc (suc (suc (suc (suc (suc zero)))))) l h =
    scaled n 1000000 1 h (lit≤ tt) (lit≤ tt) (lit≤ tt) refl (omega arith)
places_scaled n (suc (suc (suc (suc (suc (suc (suc k))))))) l h = absurd (omega arith)

-- THE LEVEL LAW: digits n of which k stand behind the point give the number of their millionths
pub millionths_law : (n k : ℕ) → k ≤ 6 → n ≤ 10 ^ k → quotient n (10 ^ k) ≡ quotient (n * 10 ^ (6 - k)) 1000000
millionths_law n k l h = (places_scaled n k l h).law

-- ---- levels that reading gives

-- the level is that of its millionths
pub record Exact (l : Level) : Type 0 where
  pub most : l.millionths ≤ 1000000
  pub number : l.single ≡ quotient l.millionths 1000000

level_exact : (n k : ℕ) → k ≤ 6 → n ≤ 10 ^ k → Exact (level_of n k)
level_exact n k l h = record { most = (places_scaled n k l h).most; number = millionths_law n k l h }

abbrev Short : Option (List ℕ) → Type 0
Short none = Unit {0}
Short (some ds) = length ds ≤ 6

places_short : (v : List ℕ) → Short (places v)
places_short [] = lit≤ tt
places_short (x ∷ ds) = choose Short (eqb x 46 && is_number 6 ds) short (λ e. tt)
  where
    short : eqb x 46 && is_number 6 ds ≡ true → length ds ≤ 6
    short e =
        let a = both (eqb x 46) (is_number 6 ds) e in
        let b = both (leb 1 (length ds) && leb (length ds) 6) (all is_digit ds) a.1 in
        leb-true (length ds) 6 (both (leb 1 (length ds)) (leb (length ds) 6) b.0).1

abbrev Reads : Option Level → Type 0
Reads none = Unit {0}
Reads (some l) = Exact l

up_to_one_reads : (x : ℕ) (ds : Option (List ℕ)) → Short ds → Reads (at_most_one x ds)
up_to_one_reads x none h = tt
up_to_one_reads x (some ds) h =
    let n : ℕ = number_of (x ∷ ds) in
    choose Reads (leb n (10 ^ length ds))
    (λ e. level_exact n (length ds) h (leb-true n (10 ^ length ds) e)) (λ e. tt)

reads : (v : List ℕ) → Reads (level_in v)
unfolding level_in
reads [] = tt
reads (x ∷ v) =
    choose Reads (eqb x 48 || eqb x 49) (λ e. up_to_one_reads x (places v) (places_short v)) (λ e. tt)

-- what reading gives is the level of its millionths
pub read_exact : (v : List ℕ) (l : Level) → level_in v ≡ some l → Exact l
read_exact v l e = subst Reads e (reads v)

-- a level is told by its millionths
pub by_millionths : (l : Level) → Exact l → l ≡ level_of l.millionths 6
by_millionths l h =
    ap (λ x. pair l.millionths x) h.number
    ∙ ap (λ m. pair m (quotient l.millionths 1000000)) (sym (mul-one l.millionths))
  where
    pair : ℕ → Float → Level
    pair m x = record { millionths = m; single = x }

abbrev bits : Float → ℕ
bits x = to_bits binary32 x

pub exact_kept : (l : Level) → Exact l → is_kept l ≡ true
unfolding is_kept
exact_kept l h =
    let q : Float = quotient l.millionths 1000000 in
    rw (le-leb l.millionths 1000000 h.most, eq-eqb (bits l.single) (bits q) (ap bits h.number))

record Kept (l : Level) : Type 0 where
  most : l.millionths ≤ 1000000
  same : bits l.single ≡ bits (quotient l.millionths 1000000)

kept : (l : Level) → is_kept l ≡ true → Kept l
unfolding is_kept
kept l e =
    let m : ℕ = l.millionths in
    let h = both (leb m 1000000) (eqb (bits l.single) (bits (quotient m 1000000))) e in
    record { most = leb-true m 1000000 h.0; same = eqb-true _ _ h.1 }

pub kept_most : (l : Level) → is_kept l ≡ true → l.millionths ≤ 1000000
kept_most l e = (kept l e).most

-- a kept single-precision number is the level's, and not only its bits
pub kept_exact : (l : Level) → T (fits binary32 l.single) → is_kept l ≡ true → Exact l
unfolding quotient
kept_exact l f e =
    let m : ℕ = l.millionths in
    record {
      most = (kept l e).most;
      number = sym (of_bits-to_bits binary32 l.single f)
          ∙ ap (of_bits binary32) (kept l e).same
          ∙ of_bits-to_bits binary32 (quotient m 1000000)
          (div-fits binary32 (of_int binary32 (pos m)) (of_int binary32 (pos 1000000)));
    }

-- ---- a level written reads back

decimal_three : (v n : ℕ) (w : List ℕ) → n < 1000 → decimal v (three_digits n ++ w) ≡ decimal (v * 1000 + n) w
unfolding three_digits
decimal_three v n w h = ap (λ u. decimal u w) (omega arith)

decimal_last : (v n : ℕ) → n < 1000 → decimal v (three_digits n) ≡ v * 1000 + n
unfolding three_digits
decimal_last v n h = omega arith

module _ (m : ℕ) (h : m ≤ 1000000) where
  abbrev upper : List ℕ
  upper = three_digits (m / 1000 % 1000)

  abbrev lower : List ℕ
  lower = three_digits (m % 1000)

  abbrev six : List ℕ
  six = upper ++ lower

  pub six_length : length six ≡ 6
  six_length = omega (arith, length-append upper lower, three_length (m / 1000 % 1000), three_length (m % 1000))

  six_number : is_number 6 six ≡ true
  six_number =
      let digits = all_append is_digit upper lower (three_all (m / 1000 % 1000) (omega arith))
      (three_all (m % 1000) (omega arith)) in
      rw (six_length, digits)

  whole_number : number_of ((48 + m / 1000000) ∷ six) ≡ m
  whole_number =
      let a : ℕ = 0 + (48 + m / 1000000 - 48) in
      decimal_three a (m / 1000 % 1000) lower (omega arith)
      ∙ decimal_last (a * 1000 + m / 1000 % 1000) (m % 1000) (omega arith)
      ∙ omega arith

  first_digit : eqb (48 + m / 1000000) 48 || eqb (48 + m / 1000000) 49 ≡ true
  first_digit = go (m / 1000000) (omega arith)
    where
      go : (q : ℕ) → q ≤ 1 → eqb (48 + q) 48 || eqb (48 + q) 49 ≡ true
      go zero l = refl
      go (suc zero) l = refl
      go (suc (suc q)) l = absurd (omega arith)

up_to_one : (x : ℕ) (ds : List ℕ) → leb (number_of (x ∷ ds)) (10 ^ length ds) ≡ true
    → at_most_one x (some ds) ≡ some (level_of (number_of (x ∷ ds)) (length ds))
up_to_one x ds e = rw (e, at_most_one)

some_places : (ds : List ℕ) → is_number 6 ds ≡ true → places (46 ∷ ds) ≡ some ds
some_places ds e = rw (e, places)

level_at : (x : ℕ) (ds : List ℕ) → eqb x 48 || eqb x 49 ≡ true → is_number 6 ds ≡ true
    → leb (number_of (x ∷ ds)) (10 ^ length ds) ≡ true
    → level_in (x ∷ 46 ∷ ds) ≡ some (level_of (number_of (x ∷ ds)) (length ds))
unfolding level_in
level_at x ds a b c = rw (a, level_in) (ap (at_most_one x) (some_places ds b) ∙ up_to_one x ds c)

-- a digit, a point and six digits
pub level_text_lem : (l : Level) → (h : l.millionths ≤ 1000000)
    → level_text l ≡ (48 + l.millionths / 1000000) ∷ 46 ∷ six l.millionths h
level_text_lem l h =
    ap (λ w. w ++ (46 ∷ []) ++ three_digits (l.millionths / 1000 % 1000) ++ three_digits (l.millionths % 1000))
    (digits_small (l.millionths / 1000000) (omega arith))

pub level_back : (l : Level) → l.millionths ≤ 1000000 → level_in (level_text l) ≡ some (level_of l.millionths 6)
level_back l h =
    let m : ℕ = l.millionths in
    let d : ℕ = 48 + m / 1000000 in
    let within : leb (number_of (d ∷ six m h)) (10 ^ length (six m h)) ≡ true =
    rw (whole_number m h, six_length m h) (le-leb m 1000000 h) in
    ap level_in (level_text_lem l h)
    ∙ level_at d (six m h) (first_digit m h) (six_number m h) within
    ∙ ap (λ n. some (level_of n (length (six m h)))) (whole_number m h)
    ∙ ap (λ k. some (level_of m k)) (six_length m h)
