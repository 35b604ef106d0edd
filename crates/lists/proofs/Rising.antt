-- Numbers that rise. Assumes nothing.
use Prim.Native.Nat.{ℕ, suc, ◌≤◌, ◌<◌}
use mathlib.Core.Path.{◌≡◌}
use mathlib.Core.Bool.{true, false≢true}
use mathlib.Core.List.{List, [], ◌∷◌, ◌++◌}
use mathlib.Core.Logic.{⊎_elim}
use native.Mathlib.Omega.{arith}
use lib.Dec.{leb}
use borrow.Author.Tests.{leb-true, le-leb}
use Rattle.lists.specs.Lists.{elem, Distinct, Ascends, ascends}
use Rattle.lists.proofs.Tests.{refuted, both}
use Rattle.lists.proofs.Membership.{elem_cases}

-- the test says what the property says
pub ascends_so : (n : ℕ) (l : List ℕ) (m : ℕ) → ascends n l m ≡ true → Ascends n l m
ascends_so n [] m e = leb-true n m e
ascends_so n (x ∷ l) m e = let h = both (leb n x) (ascends (suc x) l m) e in (leb-true n x h.0, ascends_so (suc x) l m h.1)

pub so_ascends : (n : ℕ) (l : List ℕ) (m : ℕ) → Ascends n l m → ascends n l m ≡ true
so_ascends n [] m h = le-leb n m h
so_ascends n (x ∷ l) m h = rw (le-leb n x h.0) (so_ascends (suc x) l m h.1)

pub ascends_le : (n : ℕ) (l : List ℕ) (m : ℕ) → Ascends n l m → n ≤ m
ascends_le n [] m h = h
ascends_le n (x ∷ l) m h = let t : suc x ≤ m = ascends_le (suc x) l m h.1 in omega arith

pub ascends_from : (k n : ℕ) (l : List ℕ) (m : ℕ) → k ≤ n → Ascends n l m → Ascends k l m
ascends_from k n [] m e h = omega arith
ascends_from k n (x ∷ l) m e h = (omega arith, h.1)

pub ascends_append : (n : ℕ) (l : List ℕ) (m : ℕ) (r : List ℕ) (k : ℕ) → Ascends n l m → Ascends m r k → Ascends n (l ++ r) k
ascends_append n [] m r k h g = ascends_from n m r k h g
ascends_append n (x ∷ l) m r k h g = (h.0, ascends_append (suc x) l m r k h.1 g)

pub ascends_within : (n : ℕ) (l : List ℕ) (m : ℕ) → Ascends n l m → (x : ℕ) → elem x l ≡ true → (n ≤ x) × (x < m)
ascends_within n [] m h x e = absurd (false≢true e)
ascends_within n (y ∷ l) m h x e =
    ⊎_elim {C = (n ≤ x) × (x < m)}
    (λ (q : x ≡ y). let t : suc y ≤ m = ascends_le (suc y) l m h.1 in omega arith)
    (λ q. let t : (suc y ≤ x) × (x < m) = ascends_within (suc y) l m h.1 x q in omega arith)
    (elem_cases x y l e)

pub ascends_distinct : (n : ℕ) (l : List ℕ) (m : ℕ) → Ascends n l m → Distinct l
ascends_distinct n [] m h = tt
ascends_distinct n (x ∷ l) m h =
    (refuted (elem x l) (λ e. let t : (suc x ≤ x) × (x < m) = ascends_within (suc x) l m h.1 x e in omega arith), ascends_distinct (suc x) l m h.1)

pub ascends_to : (n : ℕ) (l : List ℕ) (m k : ℕ) → m ≤ k → Ascends n l m → Ascends n l k
ascends_to n [] m k e h = omega arith
ascends_to n (x ∷ l) m k e h = (h.0, ascends_to (suc x) l m k e h.1)
