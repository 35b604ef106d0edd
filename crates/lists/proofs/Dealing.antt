-- A list dealt out into two. Assumes nothing.
use Prim.Native.Nat.{ℕ, suc, ◌≤◌}
use mathlib.Core.Path.{◌≡◌, refl, sym, ap, ◌∙◌}
use mathlib.Core.Bool.{Bool, true, false, not, ◌||◌, false≢true}
use mathlib.Core.List.{List, [], ◌∷◌, map}
use mathlib.Core.Logic.{⊎_elim}
use native.Mathlib.Omega.{arith}
use lib.Dec.{eqb}
use lib.ListN.{length}
use borrow.Author.Tests.{eq-eqb, ne_eqb}
use Rattle.lists.specs.Lists.{elem, put, keep, minus, Distinct, Ascends, Split, done, gone, stays}
use Rattle.lists.proofs.Tests.{refuted}
use Rattle.lists.proofs.Membership.{elem_tail, elem_cases, keep_same}
use Rattle.lists.proofs.Rising.{ascends_from}

pub split_elem : {q c r : List ℕ} → Split q c r → (x : ℕ) → elem x c ≡ true → elem x q ≡ true
split_elem done x e = e
split_elem (gone {x = y} {q = q} {c = c} s) x e =
    ⊎_elim {C = elem x (y ∷ q) ≡ true} (λ (p : x ≡ y). rw (eq-eqb x y p)) (λ m. elem_tail x y q (split_elem s x m)) (elem_cases x y c e)
split_elem (stays {x = y} {q = q} s) x e = elem_tail x y q (split_elem s x e)

split_not_elem : {q c r : List ℕ} → Split q c r → (x : ℕ) → elem x q ≡ false → elem x c ≡ false
split_not_elem {c = c} s x e = refuted (elem x c) (λ m. false≢true (sym e ∙ split_elem s x m))

pub split_distinct : {q c r : List ℕ} → Split q c r → Distinct q → Distinct c
split_distinct done d = tt
split_distinct (gone {x = x} s) d = (split_not_elem s x d.0, split_distinct s d.1)
split_distinct (stays s) d = split_distinct s d.1

pub split_minus : {q c r : List ℕ} → Split q c r → Distinct q → minus q c ≡ r
split_minus done d = refl
split_minus (gone {x = x} {q = q} {c = c} s) d =
    rw (
      eq-eqb x x refl,
      keep_same (λ y. not (eqb y x || elem y c)) (λ y. not (elem y c)) q
          (λ y m. rw (ne_eqb y x (λ e. false≢true (sym d.0 ∙ ap (λ (k : ℕ). elem k q) (sym e) ∙ m)))),
    )
    (split_minus s d.1)
split_minus (stays {x = x} s) d = rw (split_not_elem s x d.0, split_minus s d.1)

pub split_length : {q c r : List ℕ} → Split q c r → length c ≤ length q
split_length done = omega arith
split_length (gone s) = let h = split_length s in omega arith
split_length (stays s) = let h = split_length s in omega arith

pub split_swap : {q c r : List ℕ} → Split q c r → Split q r c
split_swap done = done
split_swap (gone s) = stays (split_swap s)
split_swap (stays s) = gone (split_swap s)

-- what is dealt out of rising numbers rises
pub split_ascends : {q c r : List ℕ} → Split q c r → (n m : ℕ) → Ascends n q m → Ascends n c m
split_ascends done n m h = h
split_ascends (gone {x = x} s) n m h = (h.0, split_ascends s (suc x) m h.1)
split_ascends (stays {x = x} {c = c} s) n m h = ascends_from n (suc x) c m (omega arith) (split_ascends s (suc x) m h.1)

pub split_none : (q : List ℕ) → Split q [] q
split_none [] = done
split_none (x ∷ q) = stays (split_none q)

pub split_all : (q : List ℕ) → Split q q []
split_all q = split_swap (split_none q)

-- by a test, the elements being the numbers of some entries
pub split_keep {ℓ} : {A : Type ℓ} (f : A → ℕ) (p : A → Bool) (q : List A) → Split (map f q) (map f (keep p q)) (map f (keep (λ x. not (p x)) q))
split_keep f p [] = done
split_keep f p (x ∷ q) = go (p x) (split_keep f p q)
  where
    go : (b : Bool) → Split (map f q) (map f (keep p q)) (map f (keep (λ x. not (p x)) q))
        → Split (f x ∷ map f q) (map f (put b x (keep p q))) (map f (put (not b) x (keep (λ x. not (p x)) q)))
    go true s = gone s
    go false s = stays s
