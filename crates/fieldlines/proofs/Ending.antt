-- Where the value bytes and folds end, at a place of the frame: one law for each way that the code's loop can go.
-- Assumes nothing.
use mathlib.Core.Path.{◌≡◌, refl, sym, ap, ◌∙◌}
use mathlib.Core.Bool.{Bool, true, false, and-false, false≢true}
use mathlib.Core.List.{List, [], ◌∷◌}
use Prim.Native.Nat.{ℕ, suc, ◌+◌, ◌<◌}
use native.Mathlib.Nat.{add-zero}
use native.Mathlib.Omega.{arith}
use lib.ListN.{length, drop, length-drop}
use lib.Seq.{drop-drop}
use Rattle.lists.specs.Lists.{run}
use Rattle.octets.specs.Octets.{is_value}
use Rattle.readers.specs.Words.{is_crlf}
use Rattle.readers.proofs.Positions.{run_yes, run_no}
use Rattle.message.specs.Folds.{is_fold}
use Rattle.fieldlines.specs.Steps.{value_run}
use Rattle.fieldlines.proofs.Folding.{over_fold, value_stop, values_first}

-- where a fold stands there is room for it, and the run goes on behind it
fold_least : (s : List ℕ) → is_fold s ≡ true → 2 < length s
fold_least [] e = absurd (false≢true e)
fold_least (x ∷ []) e = absurd (false≢true (sym (and-false (is_crlf (x ∷ []))) ∙ e))
fold_least (x ∷ y ∷ []) e = absurd (false≢true (sym (and-false (is_crlf (x ∷ y ∷ []))) ∙ e))
fold_least (x ∷ y ∷ z ∷ s) e = omega arith

fold_first : (s : List ℕ) → is_fold s ≡ true → value_run s ≡ suc (suc (value_run (drop 2 s)))
fold_first [] e = absurd (false≢true e)
fold_first (x ∷ []) e = absurd (false≢true (sym (and-false (is_crlf (x ∷ []))) ∙ e))
fold_first (x ∷ y ∷ s) e = over_fold x y s e

run_done : (s : List ℕ) → run is_value (drop (run is_value s) s) ≡ 0
run_done [] = refl
run_done (x ∷ s) = go (run_done s) (is_value x) refl
  where
    go : run is_value (drop (run is_value s) s) ≡ 0 → (b : Bool) → is_value x ≡ b
        → run is_value (drop (run is_value (x ∷ s)) (x ∷ s)) ≡ 0
    go ih true e = ap (λ n. run is_value (drop n (x ∷ s))) (run_yes is_value x s e) ∙ ih
    go ih false e = ap (λ n. run is_value (drop n (x ∷ s))) (run_no is_value x s e) ∙ run_no is_value x s e

none_first : (s : List ℕ) → is_fold s ≡ false → run is_value s ≡ 0 → value_run s ≡ 0
unfolding value_run
none_first [] e v = refl
none_first (x ∷ s) e v = go (is_value x) refl
  where
    go : (b : Bool) → is_value x ≡ b → value_run (x ∷ s) ≡ 0
    go true h = absurd (omega (arith, run_yes is_value x s h))
    go false h = value_stop x s e h

-- the end of a run over value bytes and folds, told from i on
module _ (s : List ℕ) (i : ℕ) where
  pub fold_in : is_fold (drop i s) ≡ true → i + 2 < length s
  fold_in e = omega (arith, fold_least (drop i s) e, length-drop i s)

  pub fold_over : is_fold (drop i s) ≡ true → i + value_run (drop i s) ≡ i + 2 + value_run (drop (i + 2) s)
  fold_over e = omega (arith, fold_first (drop i s) e, ap value_run (drop-drop 2 i s))

  module _ (j : ℕ) (e : j ≡ i + run is_value (drop i s)) where
    further : drop (run is_value (drop i s)) (drop i s) ≡ drop j s
    further = drop-drop (run is_value (drop i s)) i s ∙ ap (λ n. drop n s) (sym e)

    pub values_over : i + value_run (drop i s) ≡ j + value_run (drop j s)
    values_over = omega (arith, e, values_first (drop i s), ap value_run further)

    pub values_done : run is_value (drop j s) ≡ 0
    values_done = ap (run is_value) (sym further) ∙ run_done (drop i s)

  pub folds_done : is_fold (drop i s) ≡ false → run is_value (drop i s) ≡ 0 → i + value_run (drop i s) ≡ i
  folds_done e v = ap (λ n. i + n) (none_first (drop i s) e v) ∙ add-zero i
