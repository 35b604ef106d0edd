-- Tests over a whole list, runs at its front, and the comparison of two lists. Assumes nothing.
use Prim.Native.Nat.{ℕ, suc, ◌≤◌, zero-le, suc-le-suc}
use mathlib.Core.Path.{◌≡◌, refl, ap, ap₂}
use mathlib.Core.Bool.{Bool, true, false, false≢true}
use mathlib.Core.List.{List, [], ◌∷◌, ◌++◌}
use lib.Dec.{eqb}
use lib.ListN.{length, take}
use borrow.Author.Tests.{eqb-true}
use Rattle.lists.specs.Lists.{all, run, same}
use Rattle.lists.proofs.Tests.{both}

module _ {ℓ} {A : Type ℓ} (test : A → Bool) where
  pub all_append : (l m : List A) → all test l ≡ true → all test m ≡ true → all test (l ++ m) ≡ true
  all_append [] m a b = b
  all_append (x ∷ l) m a b = let h = both (test x) (all test l) a in rw h.0 (all_append l m h.1 b)

  pub all_of : (other : A → Bool) → ((x : A) → test x ≡ true → other x ≡ true) → (l : List A) → all test l ≡ true → all other l ≡ true
  all_of other f [] a = refl
  all_of other f (x ∷ l) a = let h = both (test x) (all test l) a in rw (f x h.0) (all_of other f l h.1)

  pub run_to : (l : List A) (x : A) (v : List A) → all test l ≡ true → test x ≡ false → run test (l ++ x ∷ v) ≡ length l
  run_to [] x v a e = rw (e, run)
  run_to (y ∷ l) x v a e = let h = both (test y) (all test l) a in rw (h.0, run) (ap suc (run_to l x v h.1 e))

  pub run_all : (l : List A) → all test (take (run test l) l) ≡ true
  run_all [] = refl
  run_all (x ∷ l) = go (test x) refl (run_all l)
    where
      go : (b : Bool) → test x ≡ b → all test (take (run test l) l) ≡ true → all test (take (elim b [ true ↦ suc (run test l) | false ↦ 0 ]) (x ∷ l)) ≡ true
      go true e ih = rw e ih
      go false e ih = refl

  pub run_length : (l : List A) → length (take (run test l) l) ≡ run test l
  run_length [] = refl
  run_length (x ∷ l) = go (test x) (run_length l)
    where
      go : (b : Bool) → length (take (run test l) l) ≡ run test l
          → length (take (elim b [ true ↦ suc (run test l) | false ↦ 0 ]) (x ∷ l)) ≡ elim b [ true ↦ suc (run test l) | false ↦ 0 ]
      go true ih = ap suc ih
      go false ih = refl

  pub run_in : (l : List A) → run test l ≤ length l
  run_in [] = zero-le
  run_in (x ∷ l) = go (test x) (run_in l)
    where
      go : (b : Bool) → run test l ≤ length l → elim b [ true ↦ suc (run test l) | false ↦ 0 ] ≤ suc (length l)
      go true h = suc-le-suc h
      go false h = zero-le

pub same_so : (l m : List ℕ) → same l m ≡ true → l ≡ m
same_so [] [] e = refl
same_so [] (y ∷ m) e = absurd (false≢true e)
same_so (x ∷ l) [] e = absurd (false≢true e)
same_so (x ∷ l) (y ∷ m) e = let t = both (eqb x y) (same l m) e in ap₂ ◌∷◌ (eqb-true x y t.0) (same_so l m t.1)
