-- Membership, selection, difference, no duplicates. Assumes nothing.
use Prim.Native.Nat.{ℕ}
use mathlib.Core.Path.{◌≡◌, refl, sym, ap, ◌∙◌}
use mathlib.Core.Bool.{Bool, true, false, ◌&&◌, ◌||◌, or_assoc, or-true, and-false, false≢true}
use mathlib.Core.List.{List, [], ◌∷◌, ◌++◌}
use mathlib.Core.Logic.{◌⊎◌, inl, inr, ⊎_elim}
use lib.Dec.{eqb}
use borrow.Author.Tests.{eqb-true, eq-eqb}
use Rattle.lists.specs.Lists.{all, elem, put, keep, minus, Distinct}
use Rattle.lists.proofs.Tests.{both, not_or}

module _ {ℓ} {A : Type ℓ} (p : A → Bool) where
  put_append : (b : Bool) (x : A) (l m : List A) → put b x l ++ m ≡ put b x (l ++ m)
  put_append true x l m = refl
  put_append false x l m = refl

  pub keep_append : (l m : List A) → keep p (l ++ m) ≡ keep p l ++ keep p m
  keep_append [] m = refl
  keep_append (x ∷ l) m = rw (keep_append l m, put_append)

  keep_put : (b : Bool) (x : A) (l : List A) → keep p (put b x l) ≡ put (b && p x) x (keep p l)
  keep_put true x l = refl
  keep_put false x l = refl

  pub keep_keep : (q : A → Bool) (l : List A) → keep p (keep q l) ≡ keep (λ x. q x && p x) l
  keep_keep q [] = refl
  keep_keep q (x ∷ l) = rw (keep_put (q x) x (keep q l), keep_keep q l)

pub elem_append : (x : ℕ) (l m : List ℕ) → elem x (l ++ m) ≡ elem x l || elem x m
elem_append x [] m = refl
elem_append x (y ∷ l) m = rw (elem_append x l m, or_assoc)

pub elem_head : (x : ℕ) (l : List ℕ) → elem x (x ∷ l) ≡ true
elem_head x l = rw (eq-eqb x x refl)

pub elem_tail : (x y : ℕ) (l : List ℕ) → elem x l ≡ true → elem x (y ∷ l) ≡ true
elem_tail x y l h = rw (h, or-true)

pub elem_cases : (x y : ℕ) (l : List ℕ) → elem x (y ∷ l) ≡ true → (x ≡ y) ⊎ (elem x l ≡ true)
elem_cases x y l h = go (eqb x y) refl h
  where
    go : (b : Bool) → eqb x y ≡ b → b || elem x l ≡ true → (x ≡ y) ⊎ (elem x l ≡ true)
    go true e h = inl (eqb-true x y e)
    go false e h = inr h

pub all_elem : (p : ℕ → Bool) (x : ℕ) (l : List ℕ) → all p l ≡ true → elem x l ≡ true → p x ≡ true
all_elem p x [] h e = absurd (false≢true e)
all_elem p x (y ∷ l) h e =
    let (here, there) = both (p y) (all p l) h in
    ⊎_elim {C = p x ≡ true} (λ q. rw q here) (λ m. all_elem p x l there m) (elem_cases x y l e)

pub elem_either : (x : ℕ) (l m : List ℕ) → elem x (l ++ m) ≡ true → (elem x l ≡ true) ⊎ (elem x m ≡ true)
elem_either x l m h = go (elem x l) refl (sym (elem_append x l m) ∙ h)
  where
    go : (b : Bool) → elem x l ≡ b → elem x l || elem x m ≡ true → (elem x l ≡ true) ⊎ (elem x m ≡ true)
    go true e h = inl e
    go false e h = inr (rw e at h)

-- what is kept is what is there and passes
pub elem_keep : (p : ℕ → Bool) (x : ℕ) (l : List ℕ) → elem x (keep p l) ≡ elem x l && p x
elem_keep p x [] = refl
elem_keep p x (y ∷ l) = go (eqb x y) refl (p y) refl (elem_keep p x l)
  where
    go : (b : Bool) → eqb x y ≡ b → (d : Bool) → p y ≡ d → elem x (keep p l) ≡ elem x l && p x
        → elem x (put d y (keep p l)) ≡ (b || elem x l) && p x
    go true e true f ih = rw (e, ap p (eqb-true x y e), f)
    go true e false f ih = rw (ih, ap p (eqb-true x y e), f, and-false)
    go false e true f ih = rw (e, ih)
    go false e false f ih = ih

pub keep_same : (p q : ℕ → Bool) (l : List ℕ) → ((x : ℕ) → elem x l ≡ true → p x ≡ q x) → keep p l ≡ keep q l
keep_same p q [] h = refl
keep_same p q (x ∷ l) h = cc (h x (elem_head x l), keep_same p q l (λ y m. h y (elem_tail y x l m)))

pub keep_all : (p : ℕ → Bool) (l : List ℕ) → ((x : ℕ) → elem x l ≡ true → p x ≡ true) → keep p l ≡ l
keep_all p [] h = refl
keep_all p (x ∷ l) h = rw (h x (elem_head x l), keep_all p l (λ y m. h y (elem_tail y x l m)))

pub minus_append : (l m n : List ℕ) → minus l (m ++ n) ≡ minus (minus l m) n
minus_append l m n = simp (elem_append, not_or, keep_keep)

pub distinct_keep : (p : ℕ → Bool) (l : List ℕ) → Distinct l → Distinct (keep p l)
distinct_keep p [] h = tt
distinct_keep p (x ∷ l) h = go (p x) (distinct_keep p l h.1)
  where
    go : (b : Bool) → Distinct (keep p l) → Distinct (put b x (keep p l))
    go true ih = (rw (elem_keep p x l, h.0), ih)
    go false ih = ih

pub distinct_append : (l m : List ℕ) → Distinct l → Distinct m → ((x : ℕ) → elem x l ≡ true → elem x m ≡ false) → Distinct (l ++ m)
distinct_append [] m h k d = k
distinct_append (x ∷ l) m h k d =
    (rw (elem_append x l m, h.0, d x (elem_head x l)), distinct_append l m h.1 k (λ y e. d y (elem_tail y x l e)))
