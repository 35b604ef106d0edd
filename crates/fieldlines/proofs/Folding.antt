-- Where a field that may go on ends: a field cut at its end, whose bytes are judged as joined, is what a run over value
-- bytes and folds finds.
-- Assumes nothing.
use mathlib.Core.Path.{◌≡◌, refl, sym, ap, ap₂, ◌∙◌}
use mathlib.Core.Bool.{Bool, true, false, ◌&&◌, not, and-true, and-false, false≢true}
use mathlib.Core.Option.{Option, none, some}
use mathlib.Core.List.{List, [], ◌∷◌}
use Prim.Native.Nat.{ℕ, suc, ◌+◌}
use native.Mathlib.Nat.{zero-add, suc-add}
use lib.Dec.{eqb}
use lib.ListN.{drop, take}
use borrow.Author.Tests.{eqb-true, not-true}
use Rattle.lists.specs.Lists.{all, run}
use Rattle.lists.proofs.Tests.{both}
use Rattle.octets.specs.Octets.{is_value}
use Rattle.readers.specs.Words.{starts, is_crlf, behind}
use Rattle.readers.proofs.Positions.{apart, run_yes, run_no}
use Rattle.message.specs.Folds.{starts_blank, is_fold, raw, joined}
use Rattle.message.proofs.Folds.{raw_end, raw_on, folded_value, folded_crlf, folded_on, joined_values}
use Rattle.fieldlines.specs.Steps.{ends_at, value_run}

pub not_crlf : (x : ℕ) (l : List ℕ) → eqb x 13 ≡ false → is_crlf (x ∷ l) ≡ false
not_crlf x l e = ap (λ b. b && starts 10 l) e

-- a value byte begins no CRLF
no_crlf : (x : ℕ) (l : List ℕ) → is_value x ≡ true → is_crlf (x ∷ l) ≡ false
no_crlf x l e = not_crlf x l (apart is_value 13 x refl e)

pub no_fold : (s : List ℕ) → is_crlf s ≡ false → is_fold s ≡ false
no_fold s e = ap (λ b. b && starts_blank (drop 2 s)) e

pub no_end : (s : List ℕ) → is_crlf s ≡ false → ends_at s ≡ false
no_end s e = ap (λ b. b && not (is_fold s)) e

-- a CRLF does not end in another
lf_on : (x y : ℕ) (l : List ℕ) → is_crlf (x ∷ y ∷ l) ≡ true → is_crlf (y ∷ l) ≡ false
lf_on x y l e = not_crlf y l (ap (λ z. eqb z 13) (eqb-true y 10 (both (eqb x 13) (eqb y 10) e).1))

-- how the run goes
module _ (x y : ℕ) (l : List ℕ) where
  abbrev turn : Bool → Bool → ℕ
  turn fold value = elim fold [
    | true ↦ suc (suc (value_run l))
    | false ↦ elim value [ true ↦ suc (value_run (y ∷ l)) | false ↦ 0 ]
  ]

  pub over_fold : is_fold (x ∷ y ∷ l) ≡ true → value_run (x ∷ y ∷ l) ≡ suc (suc (value_run l))
  unfolding value_run
  over_fold e = ap (λ b. turn b (is_value x)) e

  over_one : is_fold (x ∷ y ∷ l) ≡ false → is_value x ≡ true → value_run (x ∷ y ∷ l) ≡ suc (value_run (y ∷ l))
  unfolding value_run
  over_one e v = ap₂ turn e v

  over_none : is_fold (x ∷ y ∷ l) ≡ false → is_value x ≡ false → value_run (x ∷ y ∷ l) ≡ 0
  unfolding value_run
  over_none e v = ap₂ turn e v

value_on : (x : ℕ) (l : List ℕ) → is_value x ≡ true → value_run (x ∷ l) ≡ suc (value_run l)
unfolding value_run
value_on x [] v = run_yes is_value x [] v
value_on x (y ∷ l) v = over_one x y l (no_fold (x ∷ y ∷ l) (no_crlf x (y ∷ l) v)) v

pub value_stop : (x : ℕ) (l : List ℕ) → is_fold (x ∷ l) ≡ false → is_value x ≡ false → value_run (x ∷ l) ≡ 0
unfolding value_run
value_stop x [] e v = run_no is_value x [] v
value_stop x (y ∷ l) e v = over_none x y l e v

-- the end of a field ends the run
pub run_ended : (l : List ℕ) → ends_at l ≡ true → value_run l ≡ 0
run_ended [] e = absurd (false≢true e)
run_ended (x ∷ l) e =
    let (crlf, alone) = both (is_crlf (x ∷ l)) (not (is_fold (x ∷ l))) e in
    let cr = eqb-true x 13 (both (eqb x 13) (starts 10 l) crlf).0 in
    value_stop x l (not-true (is_fold (x ∷ l)) alone) (ap is_value cr)

-- value bytes first
pub values_first : (l : List ℕ) → value_run l ≡ run is_value l + value_run (drop (run is_value l) l)
unfolding value_run
values_first [] = refl
values_first (x ∷ l) = go (values_first l) (is_value x) refl
  where
    go : value_run l ≡ run is_value l + value_run (drop (run is_value l) l)
        → (b : Bool) → is_value x ≡ b
        → value_run (x ∷ l) ≡ run is_value (x ∷ l) + value_run (drop (run is_value (x ∷ l)) (x ∷ l))
    go ih true e =
        value_on x l e ∙ ap suc ih ∙ sym (suc-add (run is_value l) (value_run (drop (run is_value l) l)))
        ∙ ap (λ n. n + value_run (drop n (x ∷ l))) (sym (run_yes is_value x l e))
    go ih false e = rw (run_no is_value x l e) (sym (zero-add (value_run (x ∷ l))))

-- the bytes of a value, judged as joined
abbrev pub sound : List ℕ → Bool
sound w = all is_value (joined w)

sound_fold : (x y : ℕ) (w : List ℕ) → is_crlf (x ∷ y ∷ w) ≡ true → sound (x ∷ y ∷ w) ≡ sound w
sound_fold x y w e = joined_values (x ∷ y ∷ w) ∙ folded_crlf x y w e ∙ sym (joined_values w)

sound_value : (x : ℕ) (w : List ℕ) → is_value x ≡ true → sound (x ∷ w) ≡ sound w
unfolding folded_value
sound_value x [] v = joined_values (x ∷ []) ∙ v ∙ sym (joined_values [])
sound_value x (y ∷ w) v =
    joined_values (x ∷ y ∷ w) ∙ folded_on x y w (no_crlf x (y ∷ w) v)
    ∙ ap (λ b. b && folded_value (y ∷ w)) v ∙ sym (joined_values (y ∷ w))

sound_stop : (x : ℕ) (w : List ℕ) → is_crlf (x ∷ w) ≡ false → is_value x ≡ false → sound (x ∷ w) ≡ false
unfolding folded_value
sound_stop x [] e v = joined_values (x ∷ []) ∙ v
sound_stop x (y ∷ w) e v = joined_values (x ∷ y ∷ w) ∙ folded_on x y w e ∙ ap (λ b. b && folded_value (y ∷ w)) v

-- a cut whose bytes are sound
abbrev pub whole : Bool → List ℕ → Option (List ℕ)
whole true w = some w
whole false w = none

abbrev pub valid : Option (List ℕ) → Option (List ℕ)
valid none = none
valid (some w) = whole (sound w) w

behind_whole : (x : ℕ) (b : Bool) (w : List ℕ) → behind x (whole b w) ≡ whole b (x ∷ w)
behind_whole x true w = refl
behind_whole x false w = refl

valid_value : (x : ℕ) → is_value x ≡ true → (c : Option (List ℕ)) → valid (behind x c) ≡ behind x (valid c)
valid_value x v none = refl
valid_value x v (some w) = ap (λ b. whole b (x ∷ w)) (sound_value x w v) ∙ sym (behind_whole x (sound w) w)

valid_fold : (x y : ℕ) → eqb x 13 && eqb y 10 ≡ true → (c : Option (List ℕ))
    → valid (behind x (behind y c)) ≡ behind x (behind y (valid c))
valid_fold x y e none = refl
valid_fold x y e (some w) =
    ap (λ b. whole b (x ∷ y ∷ w)) (sound_fold x y w e)
    ∙ sym (ap (behind x) (behind_whole y (sound w) w) ∙ behind_whole x (sound w) (y ∷ w))

valid_stop : (x : ℕ) → is_value x ≡ false → (w : List ℕ) → is_crlf (x ∷ w) ≡ false → valid (some (x ∷ w)) ≡ none
valid_stop x v w e = ap (λ b. whole b (x ∷ w)) (sound_stop x w e v)

-- a byte that is none of a value and begins no CRLF spoils what is cut
spoils : (x y : ℕ) (l : List ℕ) → is_value x ≡ false → is_crlf (x ∷ y ∷ l) ≡ false → valid (behind x (raw (y ∷ l))) ≡ none
spoils x y l v e = go (ends_at (y ∷ l)) refl
  where
    on : (c : Option (List ℕ)) → valid (behind x (behind y c)) ≡ none
    on none = refl
    on (some w) = valid_stop x v (y ∷ w) e

    go : (b : Bool) → ends_at (y ∷ l) ≡ b → valid (behind x (raw (y ∷ l))) ≡ none
    go true h = ap (λ c. valid (behind x c)) (raw_end y l h) ∙ valid_stop x v [] (and-false (eqb x 13))
    go false h = ap (λ c. valid (behind x c)) (raw_on y l h) ∙ on (raw l)

-- what the run finds
abbrev found : List ℕ → ℕ → Option (List ℕ)
found l n = whole (ends_at (drop n l)) (take n l)

found_behind : (x : ℕ) (l : List ℕ) (n : ℕ) → behind x (found l n) ≡ found (x ∷ l) (suc n)
found_behind x l n = behind_whole x (ends_at (drop n l)) (take n l)

module _ (x y : ℕ) (l : List ℕ) where
  cut_fold : is_fold (x ∷ y ∷ l) ≡ true → valid (raw l) ≡ found l (value_run l)
      → valid (raw (x ∷ y ∷ l)) ≡ found (x ∷ y ∷ l) (value_run (x ∷ y ∷ l))
  cut_fold e ih =
      let crlf = (both (is_crlf (x ∷ y ∷ l)) (starts_blank l) e).0 in
      let no-lf = no_end (y ∷ l) (lf_on x y l crlf) in
      let on : ends_at (x ∷ y ∷ l) ≡ false = rw e (and-false (is_crlf (x ∷ y ∷ l))) in
      ap valid (raw_on x (y ∷ l) on ∙ ap (behind x) (raw_on y l no-lf)) ∙ valid_fold x y crlf (raw l)
      ∙ ap (λ c. behind x (behind y c)) ih
      ∙ ap (behind x) (found_behind y l (value_run l)) ∙ found_behind x (y ∷ l) (suc (value_run l))
      ∙ ap (found (x ∷ y ∷ l)) (sym (over_fold x y l e))

  cut_value : is_value x ≡ true → valid (raw (y ∷ l)) ≡ found (y ∷ l) (value_run (y ∷ l))
      → valid (raw (x ∷ y ∷ l)) ≡ found (x ∷ y ∷ l) (value_run (x ∷ y ∷ l))
  cut_value v ih =
      ap valid (raw_on x (y ∷ l) (no_end (x ∷ y ∷ l) (no_crlf x (y ∷ l) v))) ∙ valid_value x v (raw (y ∷ l))
      ∙ ap (behind x) ih ∙ found_behind x (y ∷ l) (value_run (y ∷ l))
      ∙ ap (found (x ∷ y ∷ l)) (sym (value_on x (y ∷ l) v))

  -- neither value byte nor fold: CRLF ends the value, and anything else spoils it
  cut_end : is_fold (x ∷ y ∷ l) ≡ false → is_value x ≡ false → (b : Bool) → is_crlf (x ∷ y ∷ l) ≡ b
      → valid (raw (x ∷ y ∷ l)) ≡ whole b []
  unfolding joined
  cut_end e v true h =
      let ends : ends_at (x ∷ y ∷ l) ≡ true = ap₂ (λ a b. a && not b) h e in
      ap valid (raw_end x (y ∷ l) ends)
  cut_end e v false h =
      ap valid (raw_on x (y ∷ l) (no_end (x ∷ y ∷ l) h)) ∙ spoils x y l v h

  cut_step : valid (raw l) ≡ found l (value_run l) → valid (raw (y ∷ l)) ≡ found (y ∷ l) (value_run (y ∷ l))
      → (fold value : Bool) → is_fold (x ∷ y ∷ l) ≡ fold → is_value x ≡ value
      → valid (raw (x ∷ y ∷ l)) ≡ found (x ∷ y ∷ l) (value_run (x ∷ y ∷ l))
  cut_step i j true value e v = cut_fold e i
  cut_step i j false true e v = cut_value v j
  cut_step i j false false e v =
      let ends : is_crlf (x ∷ y ∷ l) ≡ ends_at (x ∷ y ∷ l) = sym
      (ap (λ b. is_crlf (x ∷ y ∷ l) && not b) e ∙ and-true (is_crlf (x ∷ y ∷ l))) in
      cut_end e v (ends_at (x ∷ y ∷ l)) ends
      ∙ ap (found (x ∷ y ∷ l)) (sym (value_stop x (y ∷ l) e v))

-- a single byte ends nothing
cut_one : (x : ℕ) → valid (raw (x ∷ [])) ≡ found (x ∷ []) (value_run (x ∷ []))
unfolding raw value_run
cut_one x = go (is_value x) refl
  where
    no : is_crlf (x ∷ []) ≡ false
    no = and-false (eqb x 13)

    left : valid (raw (x ∷ [])) ≡ none
    left = ap valid (raw_on x [] (no_end (x ∷ []) no))

    go : (b : Bool) → is_value x ≡ b → valid (raw (x ∷ [])) ≡ found (x ∷ []) (value_run (x ∷ []))
    go true v = left ∙ ap (found (x ∷ [])) (sym (value_on x [] v))
    go false v =
        left ∙ ap (λ b. whole b []) (sym (no_end (x ∷ []) no))
        ∙ ap (found (x ∷ [])) (sym (value_stop x [] (no_fold (x ∷ []) no) v))

pub valid_cut : (l : List ℕ) → valid (raw l) ≡ whole (ends_at (drop (value_run l) l)) (take (value_run l) l)
unfolding raw value_run
valid_cut [] = refl
valid_cut (x ∷ []) = cut_one x
valid_cut (x ∷ y ∷ l) = cut_step x y l (valid_cut l) (valid_cut (y ∷ l)) (is_fold (x ∷ y ∷ l)) (is_value x) refl refl
