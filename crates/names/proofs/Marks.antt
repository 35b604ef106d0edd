-- Names that came one after the other: their bits in the mask, and whether one came twice.
-- Assumes nothing.
use mathlib.Core.Path.{◌≡◌, refl, sym, ap, ◌∙◌}
use mathlib.Core.Bool.{Bool, true, false, not, ◌&&◌, ◌||◌, or_assoc, or-true, or-false, and-false, false≢true}
use mathlib.Core.Logic.{⊎_elim}
use mathlib.Core.List.{List, [], ◌∷◌, ◌++◌}
use Prim.Native.Nat.{ℕ, ◌%◌}
use native.Mathlib.Nat.{div-eq_of_lt}
use lib.Bits.{bit_and, bit_or}
use lib.Dec.{eqb}
use lib.Pow.{pow_pos}
use borrow.Author.Tests.{eqb-true, eq-eqb, not-true}
use Rattle.lists.proofs.Masks.{test_any}
use Rattle.lists.proofs.Tests.{both, either, refuted}
use Rattle.message.specs.Known.{index_of, is, is_known, among, once_each}
use Rattle.message.specs.declared.Known.{Known}
use Rattle.names.specs.Names.{bit_of, mask_with}
use Rattle.lists.specs.Lists.{bit}
use Rattle.names.specs.Steps.{known_bit}
use Rattle.names.proofs.Masks.{test_name, set_name}

-- a name more
pub mask_last : (m : ℕ) (ks : List Known) (k : Known) → mask_with m (ks ++ k ∷ []) ≡ bit_or (mask_with m ks) (bit_of k)
mask_last m [] k = refl
mask_last m (j ∷ ks) k = mask_last (bit_or m (bit_of j)) ks k

-- names are the same where their numbers are
pub among_same : (j k : Known) → index_of j ≡ index_of k → (ks : List Known) → among j ks ≡ among k ks
among_same j k e [] = refl
among_same j k e (x ∷ ks) = rw (e, among_same j k e ks)

pub known_same : (params : Bool) (j k : Known) → index_of j ≡ index_of k → is_known params j ≡ is_known params k
known_same params j k e = rw e

is_sym : (j k : Known) → is j k ≡ true → is k j ≡ true
is_sym j k e = eq-eqb (index_of k) (index_of j) (sym (eqb-true (index_of j) (index_of k) e))

among_append : (k : Known) (ks js : List Known) → among k (ks ++ js) ≡ (among k ks || among k js)
among_append k [] js = refl
among_append k (x ∷ ks) js = rw (among_append k ks js, or_assoc)

-- a name's bit is set where the name came
swap : (a b c : Bool) → (a || (b || c)) ≡ ((b || a) || c)
swap true true c = refl
swap true false c = refl
swap false true c = refl
swap false false c = refl

mask_bit : (m : ℕ) (ks : List Known) (k : Known) → bit (mask_with m ks) (index_of k) ≡ (among k ks || bit m (index_of k))
mask_bit m [] k = refl
mask_bit m (j ∷ ks) k =
    mask_bit (bit_or m (bit_of j)) ks k ∙ ap (λ b. among k ks || b) (set_name m j k) ∙ swap (among k ks) (is k j) (bit m (index_of k))

pub none_set : (i : ℕ) → bit 0 i ≡ false
none_set i = ap (λ n. eqb (n % 2) 1) (div-eq_of_lt (pow_pos i))

pub came : (ks : List Known) (k : Known) → bit (mask_with 0 ks) (index_of k) ≡ among k ks
came ks k = mask_bit 0 ks k ∙ ap (λ b. among k ks || b) (none_set (index_of k)) ∙ or-false (among k ks)

pub mask_came : (ks : List Known) (k : Known) → eqb (bit_and (mask_with 0 ks) (bit_of k)) 0 ≡ not (among k ks)
mask_came ks k = test_any (mask_with 0 ks) (index_of k) ∙ ap not (came ks k)

pub mask_test : (params : Bool) (ks : List Known) (k : Known)
    → eqb (bit_and (mask_with 0 ks) (known_bit params k)) 0 ≡ not (is_known params k && among k ks)
mask_test params ks k = test_name params (mask_with 0 ks) k ∙ ap (λ b. not (is_known params k && b)) (came ks k)

conj : (a b : Bool) → a ≡ true → b ≡ true → (a && b) ≡ true
conj a b p q = rw (p, q)

-- a name that did not come yet
module _ (params : Bool) (k : Known) where
  fresh : (j : Known) (ks : List Known) → not (is_known params j && among j ks) ≡ true → (is_known params k && (is k j || among k ks)) ≡ false
      → (is_known params j && among j (ks ++ k ∷ [])) ≡ true → ⊥
  fresh j ks first h e =
      let (known, came) = both (is_known params j) (among j (ks ++ k ∷ [])) e in
      ⊎_elim {C = ⊥}
      (λ a. false≢true (sym (not-true (is_known params j && among j ks) first) ∙ conj (is_known params j) (among j ks) known a))
      (λ i. let same = rw or-false at i in false≢true (sym h ∙ conj (is_known params k) (is k j || among k ks)
      (known_same params k j (sym (eqb-true (index_of j) (index_of k) same)) ∙ known) (ap (λ b. b || among k ks) (is_sym j k same))))
      (either (among j ks) (is j k || false) (sym (among_append j ks (k ∷ [])) ∙ came))

  or_right : (a b c : Bool) → (a && (b || c)) ≡ false → (a && c) ≡ false
  or_right true true c e = absurd (false≢true (sym e))
  or_right true false c e = e
  or_right false b c e = refl

  pub once_last : (ks : List Known) → once_each params ks ≡ true → (is_known params k && among k ks) ≡ false → once_each params (ks ++ k ∷ []) ≡ true
  once_last [] o h = rw and-false
  once_last (j ∷ ks) o h =
      let (first, rest) = both (not (is_known params j && among j ks)) (once_each params ks) o in
      rw (refuted (is_known params j && among j (ks ++ k ∷ [])) (fresh j ks first h)) (once_last ks rest (or_right (is_known params k) (is k j) (among k ks) h))

  -- a name that counts as known and came already, whatever comes after it
  module _ (js : List Known) where
    again : (j : Known) (ks : List Known) → is_known params k ≡ true → is k j ≡ true → (is_known params j && among j (ks ++ k ∷ js)) ≡ true
    again j ks known e =
        conj (is_known params j) (among j (ks ++ k ∷ js)) (known_same params j k (sym (eqb-true (index_of k) (index_of j) e)) ∙ known)
        (among_append j ks (k ∷ js) ∙ ap (λ b. among j ks || (b || among j js)) (is_sym k j e) ∙ or-true (among j ks))

    pub twice_never : (ks : List Known) → (is_known params k && among k ks) ≡ true → once_each params (ks ++ k ∷ js) ≡ false
    twice_never [] h = absurd (false≢true (both (is_known params k) false h).1)
    twice_never (j ∷ ks) h =
        let (known, came) = both (is_known params k) (is k j || among k ks) h in
        ⊎_elim {C = once_each params ((j ∷ ks) ++ k ∷ js) ≡ false}
        (λ e. rw (again j ks known e))
        (λ e. rw (twice_never ks (conj (is_known params k) (among k ks) known e), and-false))
        (either (is k j) (among k ks) came)
