-- A field as it stands, and joined: where it ends, how joining goes, and what it leaves as it is.
-- Assumes nothing.
use Prim.Native.Nat.{ℕ}
use mathlib.Core.Path.{◌≡◌, refl, sym, ap, ap₂, ◌∙◌}
use mathlib.Core.Bool.{Bool, true, false, ◌&&◌, not, and-true, and-false, false≢true}
use mathlib.Core.Logic.{⊎_elim}
use mathlib.Core.Option.{Option, none, some}
use mathlib.Core.List.{List, [], ◌∷◌, ◌++◌}
use native.Mathlib.Omega.{arith}
use lib.Dec.{eqb}
use borrow.Author.Tests.{eqb-true}
use Rattle.lists.specs.Lists.{all, run}
use Rattle.lists.proofs.Tests.{both, either, refuted}
use Rattle.octets.specs.Octets.{is_value, is_blank, is_gap}
use Rattle.readers.specs.Words.{starts, is_crlf, behind, line}
use Rattle.readers.proofs.Cuts.{Cut, is_crlf_lem, line_end, line_on}
use Rattle.message.specs.Folds.{starts_blank, is_fold, raw, drop_blanks, joined}
use Rattle.message.specs.Fields.{is_plain, field_at, raw_at, field_line}

-- where a field ends
module _ (x : ℕ) (s : List ℕ) where
  pub raw_end : is_crlf (x ∷ s) && not (is_fold (x ∷ s)) ≡ true → raw (x ∷ s) ≡ some []
  unfolding raw
  raw_end e = rw (e, raw)

  pub raw_on : is_crlf (x ∷ s) && not (is_fold (x ∷ s)) ≡ false → raw (x ∷ s) ≡ behind x (raw s)
  unfolding raw
  raw_on e = rw (e, raw)

cut_behind : (x : ℕ) (s : List ℕ) (r : Option (List ℕ)) → Cut s r → Cut (x ∷ s) (behind x r)
cut_behind x s none h = tt
cut_behind x s (some l) (rest, e) = (rest, ap (λ m. x ∷ m) e)

pub raw_cut : (s : List ℕ) → Cut s (raw s)
unfolding raw
raw_cut [] = tt
raw_cut (x ∷ s) = go (raw_cut s) (is_crlf (x ∷ s) && not (is_fold (x ∷ s))) refl
  where
    go : Cut s (raw s) → (b : Bool) → is_crlf (x ∷ s) && not (is_fold (x ∷ s)) ≡ b → Cut (x ∷ s) (raw (x ∷ s))
    go h true c = rw (raw_end x s c) (is_crlf_lem (x ∷ s) (both (is_crlf (x ∷ s)) (not (is_fold (x ∷ s))) c).0)
    go h false c = rw (raw_on x s c) (cut_behind x s (raw s) h)

behind_some : (x : ℕ) (r : Option (List ℕ)) (l : List ℕ) → behind x r ≡ some (x ∷ l) → r ≡ some l
behind_some x none l e = let d : ◌≡◌ {A = ℕ} 0 1 = cc in absurd (omega arith)
behind_some x (some m) l e = let same : m ≡ l = cc in ap some same

-- a line that no blank follows is a field as it stands
pub raw_line : (l rest : List ℕ) → line (l ++ 13 ∷ 10 ∷ rest) ≡ some l → starts_blank rest ≡ false
    → raw (l ++ 13 ∷ 10 ∷ rest) ≡ some l
raw_line [] rest e b = raw_end 13 (10 ∷ rest) (ap not b)
raw_line (x ∷ l) rest e b = go (is_crlf (x ∷ l ++ 13 ∷ 10 ∷ rest)) refl (raw_line l rest)
  where
    s : List ℕ
    s = l ++ 13 ∷ 10 ∷ rest

    go : (c : Bool) → is_crlf (x ∷ s) ≡ c → (line s ≡ some l → starts_blank rest ≡ false → raw s ≡ some l)
        → raw (x ∷ s) ≡ some (x ∷ l)
    go true c ih = let none = sym (line_end x s c) ∙ e in let d : ◌≡◌ {A = ℕ} 0 1 = cc in absurd (omega arith)
    go false c ih =
        let on : is_crlf (x ∷ s) && not (is_fold (x ∷ s)) ≡ false = ap (λ t. t && not (is_fold (x ∷ s))) c in
        raw_on x s on ∙ ap (behind x) (ih (behind_some x (line s) l (sym (line_on x s c) ∙ e)) b)

pub field_alone : (at x : ℕ) (l rest : List ℕ) → line (x ∷ l ++ 13 ∷ 10 ∷ rest) ≡ some (x ∷ l)
    → starts_blank rest ≡ false → field_line at (x ∷ l ++ 13 ∷ 10 ∷ rest) ≡ field_at at (run is_plain (x ∷ l)) (x ∷ l)
unfolding field_line
field_alone at x l rest e b = rw (on, field_line) (ap (raw_at at) (raw_line (x ∷ l) rest e b))
  where
    s : List ℕ
    s = l ++ 13 ∷ 10 ∷ rest

    on : is_crlf (x ∷ s) ≡ false
    on = refuted (is_crlf (x ∷ s)) (λ c.
        let none = sym (line_end x s c) ∙ e in
        let d : ◌≡◌ {A = ℕ} 0 1 = cc in
        absurd (omega arith))

-- blanks are gaps, and value bytes
pub gap_blank : (x : ℕ) → is_blank x ≡ true → is_gap x ≡ true
gap_blank x e =
    ⊎_elim {C = is_gap x ≡ true} (λ h. ap is_gap (eqb-true x 32 h)) (λ h. ap is_gap (eqb-true x 9 h))
    (either (eqb x 32) (eqb x 9) e)

value_blank : (x : ℕ) → is_blank x ≡ true → is_value x ≡ true
value_blank x e =
    ⊎_elim {C = is_value x ≡ true} (λ h. ap is_value (eqb-true x 32 h)) (λ h. ap is_value (eqb-true x 9 h))
    (either (eqb x 32) (eqb x 9) e)

pub crlf_gap : (x : ℕ) (l : List ℕ) → is_crlf (x ∷ l) ≡ true → is_gap x ≡ true
crlf_gap x l e = ap is_gap (eqb-true x 13 (both (eqb x 13) (starts 10 l) e).0)

-- blanks that lead to a CRLF begin with a gap
pub leads_gap : (y : ℕ) (l : List ℕ) → is_crlf (drop_blanks (y ∷ l)) ≡ true → is_gap y ≡ true
leads_gap y l e = go (is_blank y) refl
  where
    go : (b : Bool) → is_blank y ≡ b → is_gap y ≡ true
    go true b = gap_blank y b
    go false b = crlf_gap y l (rw (b, drop_blanks) at e)

-- how joining goes
module _ (x y : ℕ) (l : List ℕ) where
  pub join_crlf : is_crlf (x ∷ y ∷ l) ≡ true → joined (x ∷ y ∷ l) ≡ 32 ∷ drop_blanks (joined l)
  unfolding joined
  join_crlf e = ap (λ b. elim b [
    | true ↦ 32 ∷ drop_blanks (joined l)
    | false ↦ elim (is_blank x && is_crlf (drop_blanks (y ∷ l))) [ true ↦ joined (y ∷ l) | false ↦ x ∷ joined (y ∷ l) ]
  ]) e

  pub join_skip : is_crlf (x ∷ y ∷ l) ≡ false → is_blank x && is_crlf (drop_blanks (y ∷ l)) ≡ true
      → joined (x ∷ y ∷ l) ≡ joined (y ∷ l)
  unfolding joined
  join_skip e f = ap₂ (λ b c. elim b [
    | true ↦ 32 ∷ drop_blanks (joined l)
    | false ↦ elim c [ true ↦ joined (y ∷ l) | false ↦ x ∷ joined (y ∷ l) ]
  ]) e f

  pub join_on_lem : is_crlf (x ∷ y ∷ l) ≡ false → is_blank x && is_crlf (drop_blanks (y ∷ l)) ≡ false
      → joined (x ∷ y ∷ l) ≡ x ∷ joined (y ∷ l)
  unfolding joined
  join_on_lem e f = ap₂ (λ b c. elim b [
    | true ↦ 32 ∷ drop_blanks (joined l)
    | false ↦ elim c [ true ↦ joined (y ∷ l) | false ↦ x ∷ joined (y ∷ l) ]
  ]) e f

-- value bytes
pub blanks_values : (l : List ℕ) → all is_value (drop_blanks l) ≡ all is_value l
blanks_values [] = refl
blanks_values (x ∷ l) = go (is_blank x) refl (blanks_values l)
  where
    go : (b : Bool) → is_blank x ≡ b → all is_value (drop_blanks l) ≡ all is_value l
        → all is_value (drop_blanks (x ∷ l)) ≡ all is_value (x ∷ l)
    go true b ih = rw (b, drop_blanks) (ih ∙ rw (value_blank x b))
    go false b ih = rw (b, drop_blanks)

-- the bytes of a value that may go on, in one pass over them as they stand: value bytes, and CRLFs
unfoldable pub folded_value : List ℕ → Bool
folded_value [] = true
folded_value (x ∷ []) = is_value x
folded_value (x ∷ y ∷ l) = elim (is_crlf (x ∷ y ∷ l)) [ true ↦ folded_value l | false ↦ is_value x && folded_value (y ∷ l) ]

module _ (x y : ℕ) (l : List ℕ) where
  pub folded_crlf : is_crlf (x ∷ y ∷ l) ≡ true → folded_value (x ∷ y ∷ l) ≡ folded_value l
  unfolding folded_value
  folded_crlf e = ap (λ b. elim b [ true ↦ folded_value l | false ↦ is_value x && folded_value (y ∷ l) ]) e

  pub folded_on : is_crlf (x ∷ y ∷ l) ≡ false → folded_value (x ∷ y ∷ l) ≡ is_value x && folded_value (y ∷ l)
  unfolding folded_value
  folded_on e = ap (λ b. elim b [ true ↦ folded_value l | false ↦ is_value x && folded_value (y ∷ l) ]) e

  values_step : all is_value (joined l) ≡ folded_value l → all is_value (joined (y ∷ l)) ≡ folded_value (y ∷ l)
      → (b c : Bool) → is_crlf (x ∷ y ∷ l) ≡ b → is_blank x && is_crlf (drop_blanks (y ∷ l)) ≡ c
      → all is_value (joined (x ∷ y ∷ l)) ≡ folded_value (x ∷ y ∷ l)
  values_step i j true c e f =
      ap (all is_value) (join_crlf x y l e) ∙ blanks_values (joined l) ∙ i ∙ sym (folded_crlf e)
  values_step i j false true e f =
      let blank = (both (is_blank x) (is_crlf (drop_blanks (y ∷ l))) f).0 in
      ap (all is_value) (join_skip x y l e f) ∙ j ∙ sym (folded_on e ∙ rw (value_blank x blank))
  values_step i j false false e f =
      ap (all is_value) (join_on_lem x y l e f) ∙ ap (λ b. is_value x && b) j ∙ sym (folded_on e)

-- the bytes judged as joined are the bytes judged as they stand, CRLFs passed over
pub joined_values : (v : List ℕ) → all is_value (joined v) ≡ folded_value v
unfolding joined folded_value
joined_values [] = refl
joined_values (x ∷ []) = and-true (is_value x)
joined_values (x ∷ y ∷ l) =
    values_step x y l (joined_values l) (joined_values (y ∷ l)) (is_crlf (x ∷ y ∷ l))
    (is_blank x && is_crlf (drop_blanks (y ∷ l))) refl refl

-- a value without CRLF is joined already: what is written reads as before
no_crlf : (l : List ℕ) → all is_value l ≡ true → is_crlf l ≡ false
no_crlf [] a = refl
no_crlf (x ∷ l) a =
    let bad : is_value x ≡ true = (both (is_value x) (all is_value l) a).0 in
    rw (refuted (eqb x 13) (λ h. false≢true (ap is_value (sym (eqb-true x 13 h)) ∙ bad)))

pub joined_plain : (v : List ℕ) → all is_value v ≡ true → joined v ≡ v
unfolding joined
joined_plain [] a = refl
joined_plain (x ∷ []) a = refl
joined_plain (x ∷ y ∷ l) a =
    let rest = (both (is_value x) (all is_value (y ∷ l)) a).1 in
    let behind = no_crlf (drop_blanks (y ∷ l)) (blanks_values (y ∷ l) ∙ rest) in
    join_on_lem x y l (no_crlf (x ∷ y ∷ l) a) (rw (behind, and-false (is_blank x)))
    ∙ ap (λ m. x ∷ m) (joined_plain (y ∷ l) rest)
