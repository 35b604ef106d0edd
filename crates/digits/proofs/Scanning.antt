-- How a run of digits goes on, and the number that is read of it. Assumes nothing.
use mathlib.Core.Path.{◌≡◌, refl, sym, ap, ap₂, ◌∙◌}
use mathlib.Core.Bool.{true, false, cond}
use mathlib.Core.Logic.{◌≢◌}
use Rattle.std.specs.Prelude.{Ok, Err}
use mathlib.Core.List.{List, [], ◌∷◌}
use Prim.Native.Nat.{ℕ, zero, suc, ◌+◌, ◌-◌, ◌*◌, ◌^◌, ◌<◌, ◌≤◌, min}
use native.Mathlib.Nat.{min-zero, zero-min, suc-min-suc, zero-add, not-suc-le-zero, pow-le-pow_right, le_of_suc-le-suc}
use native.Mathlib.Numerals.{sub-one, one-add}
use native.Mathlib.Omega.{arith}
use lib.Bits.{bit_xor}
use lib.Dec.{leb, lit≤}
use lib.ListN.{length, get_or, take, drop, length-take, length-drop}
use lib.Seq.{take_all, get_or-drop}
use borrow.Author.Tests.{le-leb, lt-leb}
use Rattle.lists.specs.Lists.{all, run}
use Rattle.lists.proofs.Tests.{both, choose}
use Rattle.lists.proofs.Scans.{run_in, all_append}
use Rattle.octets.specs.Octets.{is_digit}
use Rattle.octets.proofs.Bits.{agree}
use Rattle.readers.specs.Readers.{short, wrong, got, after, digits, number}
use Rattle.readers.specs.Words.{decimal, number_of}
use Rattle.readers.proofs.Steps.{byte_yes}
use Rattle.readers.proofs.Positions.{run_yes, run_no}
use Rattle.readers.proofs.Words.{decimal_append}
use Rattle.std.proofs.lemmas.List.{take_more, take-take, drop_min}
use Rattle.readers.proofs.Decimals.{number_below}
use Rattle.readers.specs.declared.Misread.TheVariants.{Short, Wrong}
use Rattle.digits.specs.Steps.{scanned, one_to19, digits_at}
use Rattle.digits.specs.declared.Digits.{Digits}
use Rattle.digits.specs.declared.Numeral.{Numeral}

-- ---- a byte's worth, by one computation over all 256

abbrev worth : ℕ → ℕ
worth b = bit_xor b 48

module _ (b : ℕ) (h : b < 256) where
  tested : leb (worth b) 9 ≡ is_digit b
  tested = agree (λ b. leb (worth b) 9) is_digit false 256 refl b h

  valued : cond (is_digit b) (worth b) 0 ≡ cond (is_digit b) (b - 48) 0
  valued = agree (λ b. cond (is_digit b) (worth b) 0) (λ b. cond (is_digit b) (b - 48) 0) 0 256 refl b h

  pub worth_none : 9 < worth b → is_digit b ≡ false
  worth_none l = sym tested ∙ lt-leb (worth b) 9 l

  pub worth_some : worth b ≤ 9 → (is_digit b ≡ true) × (worth b ≡ b - 48)
  worth_some l = let d = sym tested ∙ le-leb (worth b) 9 l in (d, rw d at valued)

-- ---- a run of digits, of which the first n bytes of l are digits

prefix : (n : ℕ) (l : List ℕ) → all is_digit (take n l) ≡ true → n ≤ length l
    → (n < length l → is_digit (get_or l n 0) ≡ false) → run is_digit l ≡ n
prefix zero [] a h e = refl
prefix zero (x ∷ l) a h e = run_no is_digit x l (e (omega arith))
prefix (suc n) [] a h e = absurd (not-suc-le-zero h)
prefix (suc n) (x ∷ l) a h e =
    let (d, ds) = both (is_digit x) (all is_digit (take n l)) a in
    run_yes is_digit x l d ∙ ap suc (prefix n l ds (le_of_suc-le-suc h) (λ m. e (omega arith)))

module _ (n : ℕ) (l : List ℕ) (fits : length l ≤ 19) (ds : all is_digit (take n l) ≡ true) where
  -- a digit more may come where at most 18 are there
  pub below_18 : n < length l → number_of (take n l) < 10 ^ 18
  below_18 h =
      let k = length-take n l in
      let more = pow-le-pow_right {n = 10} (lit≤ tt) {i = length (take n l)} {j = 18} (omega arith) in
      omega (arith, number_below (take n l) ds, more)

  pub run_ends : (v : ℕ) → v ≡ number_of (take n l) → n ≤ length l → (n < length l → is_digit (get_or l n 0) ≡ false)
      → record { value = v; count = n } ≡ digits_at 19 l
  unfolding digits_at
  run_ends v e h other =
      let k : n ≡ min (run is_digit l) 19 = omega (arith, prefix n l ds h other) in
      ap₂ {C = Digits} (λ v k. record { value = v; count = k }) (e ∙ ap (λ n. number_of (take n l)) k) k

  pub one_more : n < length l → is_digit (get_or l n 0) ≡ true
      → (all is_digit (take (n + 1) l) ≡ true)
      × (number_of (take n l) * 10 + (get_or l n 0 - 48) ≡ number_of (take (n + 1) l))
  one_more h d =
      let x = get_or l n 0 in
      rw (take_more l n 0 h)
      (all_append is_digit (take n l) (x ∷ []) ds (rw d refl), sym (decimal_append 0 (take n l) (x ∷ [])))

-- the digit at a position, among those from `at` on
pub digit_at : (s : List ℕ) (at next : ℕ) → at ≤ next → get_or (drop at s) (next - at) 0 ≡ get_or s next 0
digit_at s at next h =
    let here : at + (next - at) ≡ next = omega arith in
    get_or-drop at s (next - at) 0 ∙ ap (λ i. get_or s i 0) here

-- ---- at most so many of them

run_take : (m : ℕ) (l : List ℕ) → run is_digit (take m l) ≡ min (run is_digit l) m
run_take zero l = rw (min-zero (run is_digit l))
run_take (suc m) [] = rw (zero-min (suc m))
run_take (suc m) (x ∷ l) =
    choose (λ n. n ≡ min (run is_digit (x ∷ l)) (suc m)) (is_digit x)
    (λ e. rw (run_yes is_digit x l e, suc-min-suc (run is_digit l) m) (ap suc (run_take m l)))
    (λ e. rw (run_no is_digit x l e, zero-min (suc m)))

module _ (most : ℕ) (l : List ℕ) where
  pub digits_front : (m : ℕ) → m ≡ min most 19 → digits_at 19 (take m l) ≡ digits_at most l
  unfolding digits_at
  digits_front m e =
      let k : min (run is_digit (take m l)) 19 ≡ min (run is_digit l) (min most 19) = omega (arith, run_take m l) in
      ap₂ {C = Digits} (λ v k. record { value = v; count = k })
      (ap number_of
      (take-take (min (run is_digit (take m l)) 19) m l (omega (arith, run_take m l)) ∙ ap (λ n. take n l) k)) k

  pub digits_capped : digits_at (min most 19) l ≡ digits_at most l
  unfolding digits_at
  digits_capped =
      let k : min (run is_digit l) (min (min most 19) 19) ≡ min (run is_digit l) (min most 19) = omega arith in
      ap (λ n. record { value = number_of (take n l); count = n }) k

  pub digits_few : (m : ℕ) → m ≡ min most 19 → length l < m → digits_at 19 l ≡ digits_at most l
  digits_few m e h = ap (digits_at 19) (sym (take_all m l (omega arith))) ∙ digits_front m e

-- ---- a number, by the digits that were read

digits_short : (n v : ℕ) (l : List ℕ) → length l < n → length l ≤ run is_digit l → digits n v l ≡ short
digits_short zero v l h e = absurd (not-suc-le-zero h)
digits_short (suc n) v [] h e = refl
digits_short (suc n) v (x ∷ l) h e =
    choose (λ r. r ≡ short) (is_digit x)
    (λ d.
    let y = run_yes is_digit x l d in
    ap (after 1) (digits_short n (v * 10 + (x - 48)) l (le_of_suc-le-suc h) (omega (arith, y))))
    (λ d. absurd (omega (arith, run_no is_digit x l d)))

digits_got : (n v : ℕ) (l : List ℕ) → (run is_digit l < n → run is_digit l < length l)
    → digits n v l ≡ got (decimal v (take (min (run is_digit l) n) l)) (min (run is_digit l) n)
digits_got zero v l h = rw (min-zero (run is_digit l))
digits_got (suc n) v [] h = absurd (omega (arith, h (omega arith)))
digits_got (suc n) v (x ∷ l) h =
    let k = min (run is_digit (x ∷ l)) (suc n) in
    let m = min (run is_digit l) n in
    let w = v * 10 + (x - 48) in
    choose (λ r. r ≡ got (decimal v (take k (x ∷ l))) k) (is_digit x)
    (λ d.
    let y = run_yes is_digit x l d in
    ap (after 1) (digits_got n w l (λ q. omega (arith, y, h (omega arith))))
    ∙ rw (y, suc-min-suc (run is_digit l) n) (ap (got (decimal w (take m l))) (one-add m)))
    (λ d. rw (run_no is_digit x l d, zero-min (suc n)))

-- a number is digits, of which one is there
number_digits : (n : ℕ) (l : List ℕ) → (0 < length l → 0 < run is_digit l) → number (suc n) l ≡ digits (suc n) 0 l
number_digits n [] h = refl
number_digits n (x ∷ l) h =
    choose (λ r. r ≡ digits (suc n) 0 (x ∷ l)) (is_digit x)
    (λ d.
    rw (sub-one, ← zero-add (x - 48))
    (sym (byte_yes is_digit (λ x. digits n (0 * 10 + (x - 48))) (got 0 0) x l d)))
    (λ d. absurd (omega (arith, h (omega arith), run_no is_digit x l d)))

number_wrong : (n : ℕ) (l : List ℕ) → 0 < length l → run is_digit l ≡ 0 → number n l ≡ wrong
number_wrong n [] h e = absurd (omega arith)
number_wrong n (x ∷ l) h e =
    choose (λ r. r ≡ wrong) (is_digit x) (λ d. absurd (omega (arith, run_yes is_digit x l d))) (λ d. refl)

-- the digits r that are read at a position, or at the end of the bytes where it is past them
module _ (s : List ℕ) (at max n from : ℕ) (r : Numeral) (m : n ≡ one_to19 max) (f : from ≡ min at (length s))
    (b : from ≤ r.next) (e : record { value = r.value; count = r.next - from } ≡ digits_at n (drop from s)) where
  abbrev left : List ℕ
  left = drop at s

  abbrev count : ℕ
  count = r.next - from

  asked : record { value = r.value; count = count } ≡ digits_at n left
  asked = e ∙ ap (digits_at n) (ap (λ m. drop m s) f ∙ drop_min at s)

  counts : count ≡ min (run is_digit left) n
  unfolding digits_at
  counts = let c : count ≡ min (run is_digit left) (min n 19) = ap (λ (d : Digits). d.count) asked in omega arith

  written : r.value ≡ number_of (take count left)
  unfolding digits_at
  written =
      ap (λ (d : Digits). d.value) asked
      ∙ ap (λ n. number_of (take n left)) (sym (ap (λ (d : Digits). d.count) asked))

  -- there is room for them
  inside : count ≤ length s - at
  inside = omega (arith, counts, run_in is_digit left, length-drop at s)

  module _ (k : ℕ) (i : suc k ≡ n) where
    short_lem : length s - from < n → r.next ≡ length s → number n left ≡ short
    short_lem h l =
        let c = counts in
        let x = length-drop at s in
        rw (← i) (number_digits k left (omega arith) ∙ digits_short (suc k) 0 left (omega arith) (omega arith))

    got_lem : (length s - from < n → r.next ≢ length s) → r.next ≢ from → number n left ≡ got r.value count
    got_lem h l =
        let c : min (run is_digit left) (suc k) ≡ count = omega (arith, counts) in
        let x = length-drop at s in
        ap (λ n. number n left) (sym i) ∙ number_digits k left (λ _. omega arith)
        ∙ digits_got (suc k) 0 left (λ q. grind (arith, h, c, x, q, run_in is_digit left))
        ∙ ap₂ got (ap (λ n. number_of (take n left)) c ∙ sym written) c

  pub scanned_short : length s - from < n → r.next ≡ length s → Err Short ≡ scanned at (number (one_to19 max) left)
  scanned_short h l = ap (scanned at) (sym (short_lem (n - 1) (omega arith) h l) ∙ ap (λ n. number n left) m)

  pub scanned_wrong : (length s - from < n → r.next ≢ length s) → r.next ≡ from
      → Err Wrong ≡ scanned at (number (one_to19 max) left)
  scanned_wrong h z =
      let c = counts in
      let x = length-drop at s in
      ap (scanned at) (sym (number_wrong n left (grind (arith, h, x, z)) (omega arith)) ∙ ap (λ n. number n left) m)

  pub scanned_got : (length s - from < n → r.next ≢ length s) → r.next ≢ from
      → Ok r ≡ scanned at (number (one_to19 max) left)
  scanned_got h z =
      let place : r.next ≡ at + count = omega (arith, inside) in
      ap (λ k. Ok (record { value = r.value; next = k })) place
      ∙ ap (scanned at) (sym (got_lem (n - 1) (omega arith) h z) ∙ ap (λ n. number n left) m)
