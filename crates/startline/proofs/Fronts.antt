-- The front of a list: bytes that pass a test, as many as there are or as many as are allowed.
-- Assumes nothing.
use mathlib.Core.Path.{◌≡◌, refl, sym, ap, ◌∙◌}
use mathlib.Core.Bool.{Bool, true, false, false≢true}
use mathlib.Core.List.{List, [], ◌∷◌, ◌++◌}
use Prim.Native.Nat.{ℕ, zero, suc, ◌≤◌, min}
use native.Mathlib.Nat.{le_of_suc-le-suc}
use native.Mathlib.Omega.{arith}
use lib.ListN.{length, take, drop, take-append-drop}
use lib.Seq.{length-take-le}
use Rattle.lists.specs.Lists.{all, run}
use Rattle.lists.proofs.Scans.{run_in}
use Rattle.lists.proofs.Tests.{both}
use Rattle.octets.specs.Octets.{is_digit}
use Rattle.readers.specs.Words.{number_of}
use Rattle.digits.specs.Steps.{digits_at}

-- w, at most n bytes that pass, and then r; w ends where n do, or at a byte that does not pass, or with the list
pub data Front (test : ℕ → Bool) : ℕ → List ℕ → List ℕ → Type 0 where
  full : {r : List ℕ} → Front test zero [] r
  done : {n : ℕ} → Front test n [] []
  stop : {n x : ℕ} {r : List ℕ} → test x ≡ false → Front test n [] (x ∷ r)
  step : {n x : ℕ} {w r : List ℕ} → test x ≡ true → Front test n w r → Front test (suc n) (x ∷ w) r

module _ {test : ℕ → Bool} where
  pub front_all : {n : ℕ} {w r : List ℕ} → Front test n w r → all test w ≡ true
  front_all full = refl
  front_all done = refl
  front_all (stop e) = refl
  front_all (step e f) = rw e (front_all f)

  pub front_few : {n : ℕ} {w r : List ℕ} → Front test n w r → length w ≤ n
  front_few full = omega arith
  front_few done = omega arith
  front_few (stop e) = omega arith
  front_few (step e f) = omega (arith, front_few f)

  -- no more of them go on
  pub front_firm : {n x : ℕ} {w r : List ℕ} → Front test n w (x ∷ r) → (v : List ℕ) → length (w ++ x ∷ v) ≤ n → all test (w ++ x ∷ v) ≡ true → ⊥
  front_firm full v few a = omega arith
  front_firm {x = x} (stop e) v few a = false≢true (sym e ∙ (both (test x) (all test v) a).0)
  front_firm {x = x} (step {x = y} {w = w} e f) v few a = front_firm f v (le_of_suc-le-suc few) (both (test y) (all test (w ++ x ∷ v)) a).1

pub run_firm : (test : ℕ → Bool) (l : List ℕ) (x : ℕ) (r v : List ℕ) → drop (run test l) l ≡ x ∷ r → all test (take (run test l) l ++ x ∷ v) ≡ true → ⊥
run_firm test [] x r v e a = let d : ◌≡◌ {A = ℕ} 0 1 = cc in omega arith
run_firm test (y ∷ l) x r v e a = go (run_firm test l x r v) (test y) refl
  where
    go : (drop (run test l) l ≡ x ∷ r → all test (take (run test l) l ++ x ∷ v) ≡ true → ⊥) → (b : Bool) → test y ≡ b → ⊥
    go f true h =
        f (rw (h, run) at e) (both (test y) (all test (take (run test l) l ++ x ∷ v)) (rw (h, run) at a)).1
    go f false h =
        let q : y ∷ l ≡ x ∷ r = rw (h, run) at e in
        let p : y ≡ x = cc in
        false≢true (sym h ∙ ap test p ∙ (both (test x) (all test v) (rw (h, run) at a)).0)

front_digits : (n : ℕ) (l : List ℕ) → Front is_digit n (take (min (run is_digit l) n) l) (drop (min (run is_digit l) n) l)
front_digits zero l = let e : min (run is_digit l) 0 ≡ 0 = omega arith in rw e full
front_digits (suc n) [] = let e : min 0 (suc n) ≡ 0 = omega arith in rw e done
front_digits (suc n) (x ∷ l) = go (is_digit x) refl (front_digits n l)
  where
    go : (b : Bool) → is_digit x ≡ b → Front is_digit n (take (min (run is_digit l) n) l) (drop (min (run is_digit l) n) l)
        → Front is_digit (suc n) (take (min (run is_digit (x ∷ l)) (suc n)) (x ∷ l)) (drop (min (run is_digit (x ∷ l)) (suc n)) (x ∷ l))
    go true e f = let m : min (run is_digit (x ∷ l)) (suc n) ≡ suc (min (run is_digit l) n) = rw (e, run) (omega arith) in rw m (step e f)
    go false e f = let m : min (run is_digit (x ∷ l)) (suc n) ≡ 0 = rw (e, run) (omega arith) in rw m (stop e)

-- the digits that are read, and the number that they write
pub record Counted (n : ℕ) (l : List ℕ) : Type 0 where
  pub word : List ℕ
  pub rest : List ℕ
  pub parted : l ≡ word ++ rest
  pub front : Front is_digit n word rest
  pub read : digits_at n l ≡ record { value = number_of word; count = length word }

pub counted : (n : ℕ) → n ≤ 19 → (l : List ℕ) → Counted n l
unfolding digits_at
counted n h l =
    let k : ℕ = min (run is_digit l) n in
    let e : min (run is_digit l) (min n 19) ≡ k = omega arith in
    let few : k ≤ length l = omega (arith, run_in is_digit l) in
    record {
      word = take k l;
      rest = drop k l;
      parted = sym (take-append-drop k l);
      front = front_digits n l;
      read = ap (λ m. record { value = number_of (take m l); count = m }) e ∙ ap (λ c. record { value = number_of (take k l); count = c }) (sym (length-take-le k l few));
    }
