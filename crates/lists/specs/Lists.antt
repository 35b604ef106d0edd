-- Lists: tests of all elements, membership, selection, difference, no duplicates, rising numbers, a list dealt out into two; bits of a mask.
use Rattle.std.specs.Prelude.{ℕ, suc, ◌/◌, ◌%◌, ◌^◌, ◌≤◌, ◌≡◌, Bool, true, false, not, ◌&&◌, ◌||◌, List, [], ◌∷◌, eqb, leb}

-- all of them pass
abbrev pub all {ℓ} : {A : Type ℓ} → (A → Bool) → List A → Bool
all test [] = true
all test (x ∷ l) = test x && all test l

-- how many at the front pass
abbrev pub run {ℓ} : {A : Type ℓ} → (A → Bool) → List A → ℕ
run test [] = 0
run test (x ∷ l) = elim (test x) [ true ↦ suc (run test l) | false ↦ 0 ]

-- the same numbers
abbrev pub same : List ℕ → List ℕ → Bool
same [] [] = true
same [] (y ∷ m) = false
same (x ∷ l) [] = false
same (x ∷ l) (y ∷ m) = eqb x y && same l m

abbrev pub is_empty {ℓ} : {A : Type ℓ} → List A → Bool
is_empty [] = true
is_empty (x ∷ l) = false

abbrev pub elem : ℕ → List ℕ → Bool
elem x [] = false
elem x (y ∷ l) = eqb x y || elem x l

abbrev pub put {ℓ} : {A : Type ℓ} → Bool → A → List A → List A
put true x l = x ∷ l
put false x l = l

-- the elements that pass, in order
abbrev pub keep {ℓ} : {A : Type ℓ} → (A → Bool) → List A → List A
keep test [] = []
keep test (x ∷ l) = put (test x) x (keep test l)

-- the elements of l that are not in m, in l's order
abbrev pub minus : List ℕ → List ℕ → List ℕ
minus l m = keep (λ x. not (elem x m)) l

-- no element stands twice
abbrev pub Distinct : List ℕ → Type 0
Distinct [] = Unit {0}
Distinct (x ∷ l) = (elem x l ≡ false) × Distinct l

-- n ≤ x₁ < x₂ < … < m
abbrev pub Ascends : ℕ → List ℕ → ℕ → Type 0
Ascends n [] m = n ≤ m
Ascends n (x ∷ l) m = (n ≤ x) × Ascends (suc x) l m

-- the same as a test
abbrev pub ascends : ℕ → List ℕ → ℕ → Bool
ascends n [] m = leb n m
ascends n (x ∷ l) m = leb n x && ascends (suc x) l m

-- every element has the property
abbrev pub All {ℓ} : {A : Type ℓ} → (A → Type 0) → List A → Type 0
All P [] = Unit {0}
All P (x ∷ l) = P x × All P l

-- q is dealt out into c and r, each in q's order
pub data Split : List ℕ → List ℕ → List ℕ → Type 0 where
  done : Split [] [] []
  gone : {x : ℕ} {q c r : List ℕ} → Split q c r → Split (x ∷ q) (x ∷ c) r
  stays : {x : ℕ} {q c r : List ℕ} → Split q c r → Split (x ∷ q) c (x ∷ r)

-- bit k of a mask
abbrev pub bit : ℕ → ℕ → Bool
bit mask k = eqb (mask / 2 ^ k % 2) 1
