-- Values that hold no gap, that is no space, tab, CR or LF: joining leaves them as they are, and makes none of any other.
-- And which tests let no gap pass.
-- Assumes nothing.
use Prim.Native.Nat.{ℕ}
use mathlib.Core.Path.{◌≡◌, refl, sym, ap, subst, ◌∙◌}
use mathlib.Core.Bool.{Bool, true, false, ◌&&◌, ◌||◌, not, and-false, false≢true}
use mathlib.Core.Logic.{⊎_elim}
use mathlib.Core.List.{List, [], ◌∷◌}
use lib.Dec.{eqb, leb}
use lib.ListN.{length}
use borrow.Author.Tests.{eqb-true, not-true}
use Rattle.lists.specs.Lists.{all, same}
use Rattle.lists.proofs.Tests.{both, either, refuted}
use Rattle.lists.proofs.Scans.{all_of, same_so}
use Rattle.octets.specs.Octets.{is_digit, is_blank, is_gap, lowered, lower, alike}
use Rattle.readers.specs.Words.{is_crlf, is_number}
use Rattle.message.specs.Folds.{drop_blanks, joined}
use Rattle.message.proofs.Folds.{gap_blank, crlf_gap, leads_gap, join_crlf, join_skip, join_on_lem}

abbrev pub gapless : List ℕ → Bool
gapless v = all (λ x. not (is_gap x)) v

gap_first : (x : ℕ) (l : List ℕ) → is_gap x ≡ true → gapless (x ∷ l) ≡ false
gap_first x l g = rw g

-- joining neither makes a gap nor takes the last one away
module _ (x y : ℕ) (l : List ℕ) where
  gapless_step : gapless (joined (y ∷ l)) ≡ gapless (y ∷ l)
      → (b c : Bool) → is_crlf (x ∷ y ∷ l) ≡ b → is_blank x && is_crlf (drop_blanks (y ∷ l)) ≡ c
      → gapless (joined (x ∷ y ∷ l)) ≡ gapless (x ∷ y ∷ l)
  gapless_step j true c e f = ap gapless (join_crlf x y l e) ∙ sym (gap_first x (y ∷ l) (crlf_gap x (y ∷ l) e))
  gapless_step j false true e f =
      let (blank, leads) = both (is_blank x) (is_crlf (drop_blanks (y ∷ l))) f in
      ap gapless (join_skip x y l e f) ∙ j ∙ gap_first y l (leads_gap y l leads)
      ∙ sym (gap_first x (y ∷ l) (gap_blank x blank))
  gapless_step j false false e f = ap gapless (join_on_lem x y l e f) ∙ ap (λ b. not (is_gap x) && b) j

pub joined_gapless : (v : List ℕ) → gapless (joined v) ≡ gapless v
unfolding joined
joined_gapless [] = refl
joined_gapless (x ∷ []) = refl
joined_gapless (x ∷ y ∷ l) =
    gapless_step x y l (joined_gapless (y ∷ l)) (is_crlf (x ∷ y ∷ l)) (is_blank x && is_crlf (drop_blanks (y ∷ l)))
    refl refl

-- a text without a gap is joined already
no_crlf : (x : ℕ) (l : List ℕ) → gapless (x ∷ l) ≡ true → is_crlf (x ∷ l) ≡ false
no_crlf x l g = refuted (is_crlf (x ∷ l)) (λ e. false≢true (sym (gap_first x l (crlf_gap x l e)) ∙ g))

leads_none : (y : ℕ) (l : List ℕ) → gapless (y ∷ l) ≡ true → is_crlf (drop_blanks (y ∷ l)) ≡ false
leads_none y l g =
    refuted (is_crlf (drop_blanks (y ∷ l))) (λ e. false≢true (sym (gap_first y l (leads_gap y l e)) ∙ g))

pub gapless_joined : (v : List ℕ) → gapless v ≡ true → joined v ≡ v
unfolding joined
gapless_joined [] g = refl
gapless_joined (x ∷ []) g = refl
gapless_joined (x ∷ y ∷ l) g =
    let rest = (both (not (is_gap x)) (gapless (y ∷ l)) g).1 in
    join_on_lem x y l (no_crlf x (y ∷ l) g) (rw (leads_none y l rest, and-false (is_blank x)))
    ∙ ap (λ m. x ∷ m) (gapless_joined (y ∷ l) rest)

-- a gap is one of four bytes
four : (P : ℕ → Type 0) → P 32 → P 9 → P 13 → P 10 → (x : ℕ) → is_gap x ≡ true → P x
four P a b c d x e =
    let is : (n : ℕ) → P n → eqb x n ≡ true → P x = λ n p h. subst P (sym (eqb-true x n h)) p in
    let blank : is_blank x ≡ true → P x = λ h. ⊎_elim {C = P x} (is 32 a) (is 9 b) (either (eqb x 32) (eqb x 9) h) in
    ⊎_elim {C = P x} (λ h. ⊎_elim {C = P x} blank (is 13 c) (either (is_blank x) (eqb x 13) h)) (is 10 d)
    (either (is_blank x || eqb x 13) (eqb x 10) e)

-- bytes of a test that none of the four passes
pub no_gap : (test : ℕ → Bool) → test 32 ≡ false → test 9 ≡ false → test 13 ≡ false → test 10 ≡ false
    → (x : ℕ) → test x ≡ true → not (is_gap x) ≡ true
no_gap test a b c d x e =
    rw (refuted (is_gap x) (λ g. false≢true (sym (four (λ x. test x ≡ false) a b c d x g) ∙ e)))

pub digits_gapless : (u : List ℕ) → all is_digit u ≡ true → gapless u ≡ true
digits_gapless u e = all_of is_digit (λ x. not (is_gap x)) (no_gap is_digit refl refl refl refl) u e

pub number_gapless : (max : ℕ) (u : List ℕ) → is_number max u ≡ true → gapless u ≡ true
number_gapless max u e = digits_gapless u (both (leb 1 (length u) && leb (length u) max) (all is_digit u) e).1

-- a text that has none, as it is and in any case
pub same_gapless : (text : List ℕ) → gapless text ≡ true → (u : List ℕ) → same text u ≡ true → gapless u ≡ true
same_gapless text g u e = rw (← (same_so text u e)) g

lower_gapless : (u : List ℕ) → gapless (lower u) ≡ true → gapless u ≡ true
lower_gapless [] e = refl
lower_gapless (x ∷ u) e =
    let (p, q) = both (not (is_gap (lowered x))) (gapless (lower u)) e in
    let none : is_gap (lowered x) ≡ false = not-true (is_gap (lowered x)) p in
    let some : is_gap x ≡ true → is_gap (lowered x) ≡ true = four (λ x. is_gap (lowered x) ≡ true) refl refl refl refl x in
    rw (refuted (is_gap x) (λ g. false≢true (sym none ∙ some g))) (lower_gapless u q)

pub alike_gapless : (text : List ℕ) → gapless (lower text) ≡ true → (u : List ℕ) → alike u text ≡ true
    → gapless u ≡ true
alike_gapless text g u e = lower_gapless u (rw (same_so (lower u) (lower text) e) g)
