-- Bits for the places of ids: what two lists name together, and one place more. As a number in base two the bits are `marks`.
-- Assumes nothing.
use Prim.Native.Nat.{ℕ, suc, ◌+◌, ◌*◌, ◌^◌, ◌<◌, ◌≤◌, min}
use native.Mathlib.Nat.{pow-suc, mul_assoc, mul_comm, mul-one, add-mul, pow-le-pow_right}
use native.Mathlib.Omega.{arith}
use mathlib.Core.Path.{◌≡◌, refl, sym, ap, ap₂, ◌∙◌}
use mathlib.Core.Bool.{Bool, true, false, ◌||◌, or-false, cond}
use mathlib.Core.List.{List, [], ◌∷◌, ◌++◌}
use lib.Bits.{bit_or, or_block}
use lib.Dec.{eqb, lit<}
use lib.ListN.{length, take, drop, get_or, length-take, length-drop, drop_of_length-le}
use lib.Seq.{get_or-take}
use Rattle.lists.specs.Lists.{elem}
use Rattle.lists.proofs.Membership.{elem_append}
use Rattle.readers.proofs.Positions.{here}
use Rattle.idlist.specs.Named.{bit_where, bits_from}

abbrev marks : List ℕ → List ℕ → ℕ
marks l [] = 0
marks l (id ∷ ids) = marks l ids * 2 + cond (elem id l) 1 0

pub bit_small : (b : Bool) → cond b 1 0 < 2
bit_small true = lit< tt
bit_small false = lit< tt

marks_below : (l ids : List ℕ) → marks l ids < 2 ^ length ids
marks_below l [] = lit< tt
marks_below l (id ∷ ids) = rw pow-suc (omega (arith, marks_below l ids, bit_small (elem id l)))

mark_where : (b : Bool) (x p : ℕ) → cond b p 0 + x * (p * 2) ≡ (x * 2 + cond b 1 0) * p
mark_where true x p = rw (add-mul, ← mul_assoc, mul_assoc x 2 p, mul_comm 2 p, ← mul_assoc) (omega arith)
mark_where false x p = rw (add-mul, ← mul_assoc, mul_assoc x 2 p, mul_comm 2 p, ← mul_assoc) (omega arith)

bits_marks : (j : ℕ) (l ids : List ℕ) → bits_from j l ids ≡ marks l ids * 2 ^ j
bits_marks j l [] = omega arith
bits_marks j l (id ∷ ids) = rw (bits_marks (suc j) l ids, pow-suc) (go (elem id l))
  where
    go : (b : Bool) → bit_where b j + marks l ids * (2 ^ j * 2) ≡ (marks l ids * 2 + cond b 1 0) * 2 ^ j
    go true = mark_where true (marks l ids) (2 ^ j)
    go false = mark_where false (marks l ids) (2 ^ j)

from_zero : (l ids : List ℕ) → bits_from 0 l ids ≡ marks l ids
from_zero l ids = bits_marks 0 l ids ∙ mul-one (marks l ids)

-- ---- what one list names, and what another names

pub none_named : (ids : List ℕ) → bits_from 0 [] ids ≡ 0
none_named ids = from_zero [] ids ∙ unmarked ids
  where
    unmarked : (ids : List ℕ) → marks [] ids ≡ 0
    unmarked [] = refl
    unmarked (id ∷ ids) = rw (unmarked ids)

or_bit : (a b : Bool) → bit_or (cond a 1 0) (cond b 1 0) ≡ cond (a || b) 1 0
or_bit true true = refl
or_bit true false = refl
or_bit false true = refl
or_bit false false = refl

or_marks : (l m ids : List ℕ) → bit_or (marks l ids) (marks m ids) ≡ marks (l ++ m) ids
or_marks l m [] = refl
or_marks l m (id ∷ ids) =
    or_block 1 (marks l ids) (marks m ids) _ _ (bit_small (elem id l)) (bit_small (elem id m))
    ∙ rw (or_marks l m ids, or_bit (elem id l) (elem id m), elem_append id l m)

pub or_bits : (l m ids : List ℕ) → bit_or (bits_from 0 l ids) (bits_from 0 m ids) ≡ bits_from 0 (l ++ m) ids
or_bits l m ids = rw (from_zero l ids, from_zero m ids, from_zero (l ++ m) ids) (or_marks l m ids)

-- ---- one place more, in front of those that were looked at

one_more : (id x : ℕ) (ids : List ℕ)
    → bits_from 0 (id ∷ []) ids * 2 + cond (eqb x id) 1 0 ≡ bits_from 0 (id ∷ []) (x ∷ ids)
one_more id x ids = rw (from_zero (id ∷ []) ids, from_zero (id ∷ []) (x ∷ ids), or-false (eqb x id))

module _ (id : ℕ) (ids : List ℕ) where
  -- where id stands among the first 64, from the place j on
  abbrev pub from : ℕ → ℕ
  from j = bits_from 0 (id ∷ []) (drop j (take 64 ids))

  pub from_end_lem : (j : ℕ) → min (length ids) 64 ≤ j → 0 ≡ from j
  from_end_lem j h =
      let l : length (take 64 ids) ≤ j = omega (arith, length-take 64 ids) in
      rw (drop_of_length-le (take 64 ids) l)

  pub from_more : (j k : ℕ) → j ≡ k + 1 → k < 64 → k < length ids
      → from j * 2 + cond (eqb (get_or ids k 0) id) 1 0 ≡ from k
  from_more j k e h l =
      ap₂ (λ j x. from j * 2 + cond (eqb x id) 1 0) e (sym (get_or-take 64 ids k 0 h))
      ∙ one_more id (get_or (take 64 ids) k 0) (drop (k + 1) (take 64 ids))
      ∙ ap (bits_from 0 (id ∷ [])) (sym (here (take 64 ids) k (omega (arith, length-take 64 ids))))

  pub from_below : (j : ℕ) → 0 < j → from j < 2 ^ 63
  from_below j h =
      let l = drop j (take 64 ids) in
      let few : length l ≤ 63 = omega (arith, length-drop j (take 64 ids), length-take 64 ids) in
      let most = pow-le-pow_right {n = 2} (lit< tt) {i = length l} {j = 63} few in
      omega (arith, from_zero (id ∷ []) l, marks_below (id ∷ []) l, most)
