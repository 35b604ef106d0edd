-- A text without the bytes of a kind at its ends: how trimming goes, and that it goes together with joining.
-- Assumes nothing.
use Prim.Native.Nat.{ℕ, suc}
use mathlib.Core.Path.{◌≡◌, refl, sym, ap, ap₂, ◌∙◌}
use mathlib.Core.Bool.{Bool, true, false, ◌&&◌, ◌||◌, false≢true}
use mathlib.Core.Logic.{⊎_elim}
use mathlib.Core.List.{List, [], ◌∷◌}
use native.Mathlib.Omega.{arith}
use lib.Dec.{eqb}
use borrow.Author.Tests.{eqb-true}
use Rattle.lists.specs.Lists.{all, run}
use Rattle.lists.proofs.Tests.{both, either, refuted}
use Rattle.octets.specs.Octets.{is_value, is_blank, is_gap}
use Rattle.readers.specs.Words.{starts, is_crlf}
use Rattle.message.specs.Folds.{drop_blanks, joined}
use Rattle.message.proofs.Folds.{gap_blank, join_crlf, join_skip, join_on_lem, blanks_values, joined_values}
use Rattle.message.proofs.Folds.{folded_value, folded_crlf, folded_on}

-- without the bytes that pass at the end, at the start, at both
module _ (test : ℕ → Bool) where
  abbrev pub kept_by_lem : ℕ → List ℕ → List ℕ
  kept_by_lem x [] = elim (test x) [ true ↦ [] | false ↦ x ∷ [] ]
  kept_by_lem x (y ∷ l) = x ∷ y ∷ l

  abbrev pub trim_end_by : List ℕ → List ℕ
  trim_end_by [] = []
  trim_end_by (x ∷ l) = kept_by_lem x (trim_end_by l)

  abbrev pub trim_start_by : List ℕ → List ℕ
  trim_start_by [] = []
  trim_start_by (x ∷ l) = elim (test x) [ true ↦ trim_start_by l | false ↦ x ∷ l ]

  abbrev pub trim_by : List ℕ → List ℕ
  trim_by l = trim_end_by (trim_start_by l)

-- how it goes
module _ (test : ℕ → Bool) (x : ℕ) (l : List ℕ) where
  pub start_off : test x ≡ true → trim_start_by test (x ∷ l) ≡ trim_start_by test l
  start_off e = rw (e, trim_start_by)

  pub start_kept : test x ≡ false → trim_start_by test (x ∷ l) ≡ x ∷ l
  start_kept e = rw (e, trim_start_by)

  pub end_off : test x ≡ true → trim_end_by test l ≡ [] → trim_end_by test (x ∷ l) ≡ []
  end_off e h = ap (kept_by_lem test x) h ∙ rw (e, kept_by_lem)

  pub end_last : test x ≡ false → trim_end_by test l ≡ [] → trim_end_by test (x ∷ l) ≡ x ∷ []
  end_last e h = ap (kept_by_lem test x) h ∙ rw (e, kept_by_lem)

  pub end_kept : (y : ℕ) (m : List ℕ) → trim_end_by test l ≡ y ∷ m → trim_end_by test (x ∷ l) ≡ x ∷ y ∷ m
  end_kept y m h = ap (kept_by_lem test x) h

none_is_some : {C : Type 0} {x : ℕ} {l : List ℕ} → [] ≡ x ∷ l → C
none_is_some e = let d : ◌≡◌ {A = ℕ} 0 1 = cc in absurd (omega arith)

-- blanks at the start are trimmed as they are dropped
pub start_blanks : (l : List ℕ) → trim_start_by is_blank l ≡ drop_blanks l
start_blanks [] = refl
start_blanks (x ∷ l) = ap (λ m. elim (is_blank x) [ true ↦ m | false ↦ x ∷ l ]) (start_blanks l)

-- a blank in front is dropped, another byte stays
module _ (x : ℕ) (l : List ℕ) where
  drop_blank : is_blank x ≡ true → drop_blanks (x ∷ l) ≡ drop_blanks l
  drop_blank e = rw (e, drop_blanks)

  drop_none : is_blank x ≡ false → drop_blanks (x ∷ l) ≡ x ∷ l
  drop_none e = rw (e, drop_blanks)

drop_twice : (l : List ℕ) → drop_blanks (drop_blanks l) ≡ drop_blanks l
drop_twice [] = refl
drop_twice (x ∷ l) = go (is_blank x) refl (drop_twice l)
  where
    go : (b : Bool) → is_blank x ≡ b → drop_blanks (drop_blanks l) ≡ drop_blanks l
        → drop_blanks (drop_blanks (x ∷ l)) ≡ drop_blanks (x ∷ l)
    go true b ih = ap drop_blanks (drop_blank x l b) ∙ ih ∙ sym (drop_blank x l b)
    go false b ih = ap drop_blanks (drop_none x l b)

-- the blanks at one end go before or after those at the other
ends_apart : (l : List ℕ) → trim_end_by is_blank (drop_blanks l) ≡ drop_blanks (trim_end_by is_blank l)
ends_apart [] = refl
ends_apart (x ∷ l) = go (is_blank x) refl (trim_end_by is_blank l) refl (ends_apart l)
  where
    go : (b : Bool) → is_blank x ≡ b → (m : List ℕ) → trim_end_by is_blank l ≡ m
        → trim_end_by is_blank (drop_blanks l) ≡ drop_blanks (trim_end_by is_blank l)
        → trim_end_by is_blank (drop_blanks (x ∷ l)) ≡ drop_blanks (trim_end_by is_blank (x ∷ l))
    go true b [] e ih =
        ap (trim_end_by is_blank) (drop_blank x l b) ∙ ih ∙ ap drop_blanks e
        ∙ sym (ap drop_blanks (end_off is_blank x l b e))
    go true b (y ∷ m) e ih =
        ap (trim_end_by is_blank) (drop_blank x l b) ∙ ih ∙ ap drop_blanks e
        ∙ sym (ap drop_blanks (end_kept is_blank x l y m e) ∙ drop_blank x (y ∷ m) b)
    go false b [] e ih =
        let q = end_last is_blank x l b e in
        ap (trim_end_by is_blank) (drop_none x l b) ∙ q ∙ sym (ap drop_blanks q ∙ drop_none x [] b)
    go false b (y ∷ m) e ih =
        let q = end_kept is_blank x l y m e in
        ap (trim_end_by is_blank) (drop_none x l b) ∙ q ∙ sym (ap drop_blanks q ∙ drop_none x (y ∷ m) b)

-- what ends in no blank is not of blanks alone
not_blanks : (l : List ℕ) → drop_blanks (trim_end_by is_blank l) ≡ [] → trim_end_by is_blank l ≡ []
not_blanks [] h = refl
not_blanks (x ∷ l) h = go (is_blank x) refl (trim_end_by is_blank l) refl (not_blanks l)
  where
    go : (b : Bool) → is_blank x ≡ b → (m : List ℕ) → trim_end_by is_blank l ≡ m
        → (drop_blanks (trim_end_by is_blank l) ≡ [] → trim_end_by is_blank l ≡ []) → trim_end_by is_blank (x ∷ l) ≡ []
    go true b [] e ih = end_off is_blank x l b e
    go true b (y ∷ m) e ih =
        let rest : drop_blanks (y ∷ m) ≡ [] =
        sym (ap drop_blanks (end_kept is_blank x l y m e) ∙ drop_blank x (y ∷ m) b) ∙ h in
        none_is_some (sym (ih (ap drop_blanks e ∙ rest)) ∙ e)
    go false b [] e ih =
        none_is_some (sym h ∙ ap drop_blanks (end_last is_blank x l b e) ∙ drop_none x [] b)
    go false b (y ∷ m) e ih =
        none_is_some (sym h ∙ ap drop_blanks (end_kept is_blank x l y m e) ∙ drop_none x (y ∷ m) b)

-- of value bytes, blanks alone are gaps
gap_is_blank : (x : ℕ) → is_value x ≡ true → is_gap x ≡ is_blank x
gap_is_blank x v = go (is_blank x) refl
  where
    not : (n : ℕ) → is_value n ≡ false → eqb x n ≡ true → ⊥
    not n f h = false≢true (sym f ∙ ap is_value (sym (eqb-true x n h)) ∙ v)

    go : (b : Bool) → is_blank x ≡ b → is_gap x ≡ b
    go true b = rw b
    go false b =
        let blank : is_blank x ≡ true → ⊥ = λ h. false≢true (sym b ∙ h) in
        let first : is_blank x || eqb x 13 ≡ true → ⊥ =
        λ h. ⊎_elim {C = ⊥} blank (not 13 refl) (either (is_blank x) (eqb x 13) h) in
        refuted (is_gap x) (λ h. ⊎_elim {C = ⊥} first (not 10 refl) (either (is_blank x || eqb x 13) (eqb x 10) h))

-- of the bytes of a value that may go on, the first
module _ (x y : ℕ) (l : List ℕ) (e : is_crlf (x ∷ y ∷ l) ≡ false) (v : folded_value (x ∷ y ∷ l) ≡ true) where
  first_value : is_value x ≡ true
  first_value = (both (is_value x) (folded_value (y ∷ l)) (sym (folded_on x y l e) ∙ v)).0

  rest_values : folded_value (y ∷ l) ≡ true
  rest_values = (both (is_value x) (folded_value (y ∷ l)) (sym (folded_on x y l e) ∙ v)).1

-- at the start
module _ (x y : ℕ) (l : List ℕ) (v : folded_value (x ∷ y ∷ l) ≡ true) where
  crlf_start : is_crlf (x ∷ y ∷ l) ≡ true → trim_start_by is_gap (x ∷ y ∷ l) ≡ trim_start_by is_gap l
  crlf_start e =
      let (cr, lf) = both (eqb x 13) (eqb y 10) e in
      start_off is_gap x (y ∷ l) (ap is_gap (eqb-true x 13 cr)) ∙ start_off is_gap y l (ap is_gap (eqb-true y 10 lf))

  start_step : (folded_value l ≡ true → joined (trim_start_by is_gap l) ≡ drop_blanks (joined l))
      → (folded_value (y ∷ l) ≡ true → joined (trim_start_by is_gap (y ∷ l)) ≡ drop_blanks (joined (y ∷ l)))
      → (b c d : Bool) → is_crlf (x ∷ y ∷ l) ≡ b → is_blank x && is_crlf (drop_blanks (y ∷ l)) ≡ c → is_blank x ≡ d
      → joined (trim_start_by is_gap (x ∷ y ∷ l)) ≡ drop_blanks (joined (x ∷ y ∷ l))
  start_step i j true c d e f g =
      ap joined (crlf_start e) ∙ i (sym (folded_crlf x y l e) ∙ v)
      ∙ sym (ap drop_blanks (join_crlf x y l e) ∙ drop_twice (joined l))
  start_step i j false true d e f g =
      let blank = (both (is_blank x) (is_crlf (drop_blanks (y ∷ l))) f).0 in
      ap joined (start_off is_gap x (y ∷ l) (gap_blank x blank)) ∙ j (rest_values x y l e v)
      ∙ sym (ap drop_blanks (join_skip x y l e f))
  start_step i j false false true e f g =
      ap joined (start_off is_gap x (y ∷ l) (gap_blank x g)) ∙ j (rest_values x y l e v)
      ∙ sym (ap drop_blanks (join_on_lem x y l e f) ∙ drop_blank x (joined (y ∷ l)) g)
  start_step i j false false false e f g =
      let none = gap_is_blank x (first_value x y l e v) ∙ g in
      ap joined (start_kept is_gap x (y ∷ l) none) ∙ join_on_lem x y l e f
      ∙ sym (ap drop_blanks (join_on_lem x y l e f) ∙ drop_none x (joined (y ∷ l)) g)

joined_one : (x : ℕ) → is_value x ≡ true → joined (kept_by_lem is_gap x []) ≡ kept_by_lem is_blank x []
unfolding joined
joined_one x v = ap (λ b. joined (elim b [ true ↦ [] | false ↦ x ∷ [] ])) (gap_is_blank x v) ∙ go (is_blank x)
  where
    go : (b : Bool) → joined (elim b [ true ↦ [] | false ↦ x ∷ [] ]) ≡ elim b [ true ↦ [] | false ↦ x ∷ [] ]
    go true = refl
    go false = refl

joined_start : (v : List ℕ) → folded_value v ≡ true → joined (trim_start_by is_gap v) ≡ drop_blanks (joined v)
unfolding joined folded_value
joined_start [] h = refl
joined_start (x ∷ []) h = joined_one x h
joined_start (x ∷ y ∷ l) h =
    start_step x y l h (joined_start l) (joined_start (y ∷ l)) (is_crlf (x ∷ y ∷ l))
    (is_blank x && is_crlf (drop_blanks (y ∷ l))) (is_blank x) refl refl refl

-- at the end: what is left begins as before
starts_same : (n : ℕ) (l : List ℕ) (y : ℕ) (m : List ℕ) → trim_end_by is_gap l ≡ y ∷ m → starts n (y ∷ m) ≡ starts n l
starts_same n [] y m e = none_is_some e
starts_same n (x ∷ l) y m e = go (is_gap x) refl (trim_end_by is_gap l) refl
  where
    go : (b : Bool) → is_gap x ≡ b → (k : List ℕ) → trim_end_by is_gap l ≡ k → starts n (y ∷ m) ≡ eqb x n
    go true b [] q = none_is_some (sym (end_off is_gap x l b q) ∙ e)
    go false b [] q = ap (starts n) (sym e ∙ end_last is_gap x l b q)
    go b c (z ∷ k) q = ap (starts n) (sym e ∙ end_kept is_gap x l z k q)

crlf_same : (x : ℕ) (l : List ℕ) (m : List ℕ) → trim_end_by is_gap (x ∷ l) ≡ x ∷ m → is_crlf (x ∷ m) ≡ is_crlf (x ∷ l)
crlf_same x l m e = go (eqb x 13) refl (trim_end_by is_gap l) refl
  where
    go : (b : Bool) → eqb x 13 ≡ b → (k : List ℕ) → trim_end_by is_gap l ≡ k → is_crlf (x ∷ m) ≡ is_crlf (x ∷ l)
    go true b [] q = none_is_some (sym (end_off is_gap x l (ap is_gap (eqb-true x 13 b)) q) ∙ e)
    go true b (z ∷ k) q =
        let same : x ∷ m ≡ x ∷ z ∷ k = sym e ∙ end_kept is_gap x l z k q in
        ap is_crlf same ∙ ap (λ t. eqb x 13 && t) (starts_same 10 l z k q)
    go false b k q = rw b

-- and the blanks in front lead to a CRLF or not, as before
leads_same : (l : List ℕ) (y : ℕ) (m : List ℕ) → trim_end_by is_gap l ≡ y ∷ m
    → is_crlf (drop_blanks (y ∷ m)) ≡ is_crlf (drop_blanks l)
leads_same [] y m e = none_is_some e
leads_same (x ∷ l) y m e = go (is_blank x) refl (trim_end_by is_gap l) refl (leads_same l)
  where
    on : is_blank x ≡ false → (k : List ℕ) → trim_end_by is_gap (x ∷ l) ≡ x ∷ k
        → is_crlf (drop_blanks (y ∷ m)) ≡ is_crlf (drop_blanks (x ∷ l))
    on b k q =
        ap (λ t. is_crlf (drop_blanks t)) (sym e ∙ q) ∙ ap is_crlf (drop_none x k b) ∙ crlf_same x l k q
        ∙ sym (ap is_crlf (drop_none x l b))

    last : is_blank x ≡ false → trim_end_by is_gap l ≡ [] → (g : Bool) → is_gap x ≡ g
        → is_crlf (drop_blanks (y ∷ m)) ≡ is_crlf (drop_blanks (x ∷ l))
    last b q true g = none_is_some (sym (end_off is_gap x l g q) ∙ e)
    last b q false g = on b [] (end_last is_gap x l g q)

    go : (b : Bool) → is_blank x ≡ b → (k : List ℕ) → trim_end_by is_gap l ≡ k
        → ((z : ℕ) (k : List ℕ) → trim_end_by is_gap l ≡ z ∷ k → is_crlf (drop_blanks (z ∷ k)) ≡ is_crlf (drop_blanks l))
        → is_crlf (drop_blanks (y ∷ m)) ≡ is_crlf (drop_blanks (x ∷ l))
    go true b [] q ih = none_is_some (sym (end_off is_gap x l (gap_blank x b) q) ∙ e)
    go true b (z ∷ k) q ih =
        ap (λ t. is_crlf (drop_blanks t)) (sym e ∙ end_kept is_gap x l z k q)
        ∙ ap is_crlf (drop_blank x (z ∷ k) b) ∙ ih z k q ∙ sym (ap is_crlf (drop_blank x l b))
    go false b [] q ih = last b q (is_gap x) refl
    go false b (z ∷ k) q ih = on b (z ∷ k) (end_kept is_gap x l z k q)

-- joining leaves no text empty
not_none : (x : ℕ) (l : List ℕ) {C : Type 0} → joined (x ∷ l) ≡ [] → C
unfolding joined
not_none x [] e = none_is_some (sym e)
not_none x (y ∷ l) {C} e = go (is_crlf (x ∷ y ∷ l)) (is_blank x && is_crlf (drop_blanks (y ∷ l))) refl refl (not_none y l)
  where
    go : (b c : Bool) → is_crlf (x ∷ y ∷ l) ≡ b → is_blank x && is_crlf (drop_blanks (y ∷ l)) ≡ c
        → (joined (y ∷ l) ≡ [] → C) → C
    go true c p q ih = none_is_some (sym e ∙ join_crlf x y l p)
    go false true p q ih = ih (sym (join_skip x y l p q) ∙ e)
    go false false p q ih = none_is_some (sym e ∙ join_on_lem x y l p q)

kept_some : (x : ℕ) (l : List ℕ) → (l ≡ [] → ⊥) → kept_by_lem is_blank x l ≡ x ∷ l
kept_some x [] h = absurd (h refl)
kept_some x (y ∷ l) h = refl

module _ (x y : ℕ) (l : List ℕ) (v : folded_value (x ∷ y ∷ l) ≡ true) where
  -- where a byte stays behind x and y, joining goes on as before
  crlf_behind : (z : ℕ) (k : List ℕ) → trim_end_by is_gap (y ∷ l) ≡ z ∷ k → is_crlf (x ∷ z ∷ k) ≡ is_crlf (x ∷ y ∷ l)
  crlf_behind z k q = crlf_same x (y ∷ l) (z ∷ k) (end_kept is_gap x (y ∷ l) z k q)

  leads_behind : (z : ℕ) (k : List ℕ) → trim_end_by is_gap (y ∷ l) ≡ z ∷ k
      → is_blank x && is_crlf (drop_blanks (z ∷ k)) ≡ is_blank x && is_crlf (drop_blanks (y ∷ l))
  leads_behind z k q = ap (λ b. is_blank x && b) (leads_same (y ∷ l) z k q)

  crlf_end : joined (trim_end_by is_gap l) ≡ trim_end_by is_blank (joined l) → is_crlf (x ∷ y ∷ l) ≡ true
      → (m : List ℕ) → trim_end_by is_gap l ≡ m
      → joined (trim_end_by is_gap (x ∷ y ∷ l)) ≡ kept_by_lem is_blank 32 (drop_blanks (joined m))
  unfolding joined
  crlf_end i e [] q =
      let (cr, lf) = both (eqb x 13) (eqb y 10) e in
      let rest = end_off is_gap y l (ap is_gap (eqb-true y 10 lf)) q in
      ap joined (end_off is_gap x (y ∷ l) (ap is_gap (eqb-true x 13 cr)) rest)
  crlf_end i e (z ∷ k) q =
      let w = end_kept is_gap y l z k q in
      let some : drop_blanks (joined (z ∷ k)) ≡ [] → ⊥ = λ h.
      let n : joined (z ∷ k) ≡ trim_end_by is_blank (joined l) = ap joined (sym q) ∙ i in
      not_none z k (n ∙ not_blanks (joined l) (ap drop_blanks (sym n) ∙ h)) in
      ap joined (end_kept is_gap x (y ∷ l) y (z ∷ k) w) ∙ join_crlf x y (z ∷ k) (crlf_behind y (z ∷ k) w ∙ e)
      ∙ sym (kept_some 32 (drop_blanks (joined (z ∷ k))) some)

  skip_end : is_crlf (x ∷ y ∷ l) ≡ false → is_blank x && is_crlf (drop_blanks (y ∷ l)) ≡ true
      → (m : List ℕ) → trim_end_by is_gap (y ∷ l) ≡ m → joined (trim_end_by is_gap (x ∷ y ∷ l)) ≡ joined m
  skip_end e f [] q =
      let blank = (both (is_blank x) (is_crlf (drop_blanks (y ∷ l))) f).0 in
      ap joined (end_off is_gap x (y ∷ l) (gap_blank x blank) q)
  skip_end e f (z ∷ k) q =
      ap joined (end_kept is_gap x (y ∷ l) z k q) ∙ join_skip x z k (crlf_behind z k q ∙ e) (leads_behind z k q ∙ f)

  on_end : is_crlf (x ∷ y ∷ l) ≡ false → is_blank x && is_crlf (drop_blanks (y ∷ l)) ≡ false
      → (m : List ℕ) → trim_end_by is_gap (y ∷ l) ≡ m → joined (trim_end_by is_gap (x ∷ y ∷ l)) ≡ kept_by_lem is_blank x (joined m)
  unfolding joined
  on_end e f [] q = ap (λ m. joined (kept_by_lem is_gap x m)) q ∙ joined_one x (first_value x y l e v)
  on_end e f (z ∷ k) q =
      ap joined (end_kept is_gap x (y ∷ l) z k q) ∙ join_on_lem x z k (crlf_behind z k q ∙ e) (leads_behind z k q ∙ f)
      ∙ sym (kept_some x (joined (z ∷ k)) (λ h. not_none z k h))

  end_step : (folded_value l ≡ true → joined (trim_end_by is_gap l) ≡ trim_end_by is_blank (joined l))
      → (folded_value (y ∷ l) ≡ true → joined (trim_end_by is_gap (y ∷ l)) ≡ trim_end_by is_blank (joined (y ∷ l)))
      → (b c : Bool) → is_crlf (x ∷ y ∷ l) ≡ b → is_blank x && is_crlf (drop_blanks (y ∷ l)) ≡ c
      → joined (trim_end_by is_gap (x ∷ y ∷ l)) ≡ trim_end_by is_blank (joined (x ∷ y ∷ l))
  end_step i j true c e f =
      let ih = i (sym (folded_crlf x y l e) ∙ v) in
      crlf_end ih e (trim_end_by is_gap l) refl ∙ ap (λ m. kept_by_lem is_blank 32 (drop_blanks m)) ih
      ∙ sym (ap (trim_end_by is_blank) (join_crlf x y l e) ∙ ap (kept_by_lem is_blank 32) (ends_apart (joined l)))
  end_step i j false true e f =
      skip_end e f (trim_end_by is_gap (y ∷ l)) refl ∙ j (rest_values x y l e v)
      ∙ sym (ap (trim_end_by is_blank) (join_skip x y l e f))
  end_step i j false false e f =
      on_end e f (trim_end_by is_gap (y ∷ l)) refl ∙ ap (kept_by_lem is_blank x) (j (rest_values x y l e v))
      ∙ sym (ap (trim_end_by is_blank) (join_on_lem x y l e f))

joined_end : (v : List ℕ) → folded_value v ≡ true → joined (trim_end_by is_gap v) ≡ trim_end_by is_blank (joined v)
unfolding joined folded_value
joined_end [] h = refl
joined_end (x ∷ []) h = joined_one x h
joined_end (x ∷ y ∷ l) h =
    end_step x y l h (joined_end l) (joined_end (y ∷ l)) (is_crlf (x ∷ y ∷ l))
    (is_blank x && is_crlf (drop_blanks (y ∷ l))) refl refl

pub joined_trimmed : (v : List ℕ) → all is_value (joined v) ≡ true
    → joined (trim_by is_gap v) ≡ trim_by is_blank (joined v)
joined_trimmed v h =
    let start = joined_start v (sym (joined_values v) ∙ h) in
    let kept : all is_value (joined (trim_start_by is_gap v)) ≡ true =
    ap (all is_value) start ∙ blanks_values (joined v) ∙ h in
    joined_end (trim_start_by is_gap v) (sym (joined_values (trim_start_by is_gap v)) ∙ kept)
    ∙ ap (trim_end_by is_blank) (start ∙ sym (start_blanks (joined v)))

-- what passes all along passes trimmed
pub trimmed_all : (test which : ℕ → Bool) (l : List ℕ) → all which l ≡ true → all which (trim_end_by test l) ≡ true
trimmed_all test which [] h = refl
trimmed_all test which (x ∷ l) h =
    let (p, q) = both (which x) (all which l) h in
    go (trim_end_by test l) refl (test x) refl p (trimmed_all test which l q)
  where
    go : (m : List ℕ) → trim_end_by test l ≡ m → (b : Bool) → test x ≡ b → which x ≡ true
        → all which (trim_end_by test l) ≡ true → all which (trim_end_by test (x ∷ l)) ≡ true
    go [] e true b p ih = ap (all which) (end_off test x l b e)
    go [] e false b p ih = ap (all which) (end_last test x l b e) ∙ rw p
    go (y ∷ m) e b c p ih = ap (all which) (end_kept test x l y m e) ∙ ap₂ ◌&&◌ p (ap (all which) (sym e) ∙ ih)

-- trimmed once is trimmed
module _ (test : ℕ → Bool) where
  ends_twice : (l : List ℕ) → trim_end_by test (trim_end_by test l) ≡ trim_end_by test l
  ends_twice [] = refl
  ends_twice (x ∷ l) = go (trim_end_by test l) refl (test x) refl (ends_twice l)
    where
      go : (m : List ℕ) → trim_end_by test l ≡ m → (b : Bool) → test x ≡ b
          → trim_end_by test (trim_end_by test l) ≡ trim_end_by test l
          → trim_end_by test (trim_end_by test (x ∷ l)) ≡ trim_end_by test (x ∷ l)
      go [] e true b ih = let q = end_off test x l b e in ap (trim_end_by test) q ∙ sym q
      go [] e false b ih = let q = end_last test x l b e in ap (trim_end_by test) q ∙ end_last test x [] b refl ∙ sym q
      go (y ∷ m) e b c ih =
          let q = end_kept test x l y m e in
          ap (trim_end_by test) q ∙ end_kept test x (y ∷ m) y m (ap (trim_end_by test) (sym e) ∙ ih ∙ e) ∙ sym q

  -- what stays at the start stays when the end goes
  start_stays : (l : List ℕ) → trim_start_by test (trim_by test l) ≡ trim_by test l
  start_stays [] = refl
  start_stays (x ∷ l) = go (test x) refl (trim_end_by test l) refl (start_stays l)
    where
      go : (b : Bool) → test x ≡ b → (m : List ℕ) → trim_end_by test l ≡ m
          → trim_start_by test (trim_by test l) ≡ trim_by test l
          → trim_start_by test (trim_by test (x ∷ l)) ≡ trim_by test (x ∷ l)
      go true b m e ih =
          let q = ap (trim_end_by test) (start_off test x l b) in ap (trim_start_by test) q ∙ ih ∙ sym q
      go false b [] e ih =
          let q = ap (trim_end_by test) (start_kept test x l b) ∙ end_last test x l b e in
          ap (trim_start_by test) q ∙ start_kept test x [] b ∙ sym q
      go false b (y ∷ m) e ih =
          let q = ap (trim_end_by test) (start_kept test x l b) ∙ end_kept test x l y m e in
          ap (trim_start_by test) q ∙ start_kept test x (y ∷ m) b ∙ sym q

  pub trimmed_twice : (l : List ℕ) → trim_by test (trim_by test l) ≡ trim_by test l
  trimmed_twice l = ap (trim_end_by test) (start_stays l) ∙ ends_twice (trim_start_by test l)

-- a value in one line is trimmed by blanks
pub run_alike : (v : List ℕ) → all is_value v ≡ true → run is_gap v ≡ run is_blank v
run_alike [] h = refl
run_alike (x ∷ v) h =
    let (p, q) = both (is_value x) (all is_value v) h in
    ap₂ (λ b n. elim b [ true ↦ suc n | false ↦ 0 ]) (gap_is_blank x p) (run_alike v q)

pub end_alike : (l : List ℕ) → all is_value l ≡ true → trim_end_by is_gap l ≡ trim_end_by is_blank l
end_alike [] v = refl
end_alike (x ∷ l) v =
    let (p, q) = both (is_value x) (all is_value l) v in
    ap (kept_by_lem is_gap x) (end_alike l q) ∙ kept_alike (gap_is_blank x p) (trim_end_by is_blank l)
  where
    kept_alike : is_gap x ≡ is_blank x → (m : List ℕ) → kept_by_lem is_gap x m ≡ kept_by_lem is_blank x m
    kept_alike g [] = ap (λ c. elim c [ true ↦ [] | false ↦ x ∷ [] ]) g
    kept_alike g (y ∷ m) = refl
