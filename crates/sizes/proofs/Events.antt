-- The events that end several requests, as the code measures and writes them: the first, then each of the others.
-- Assumes nothing.
use Prim.Native.Nat.{ℕ, ◌+◌, ◌≤◌, ◌<◌}
use native.Mathlib.Omega.{arith}
use mathlib.Core.Path.{◌≡◌, refl, sym, ap, ◌∙◌}
use mathlib.Core.List.{List, [], ◌∷◌, ◌++◌, map, append_assoc, append-nil}
use lib.ListN.{length, take, drop, get_or, length-append, take-append-drop}
use Rattle.std.proofs.lemmas.List.{take_more}
use Rattle.answer.specs.Written.{written, written_all}
use Rattle.answer.specs.Answers.{complete, completes}
use Rattle.answer.specs.declared.Kind.{Kind}

module _ (kind : Kind) (name : List ℕ) where
  -- the events that end the requests with 011
  abbrev pub cancelled : List ℕ → List ℕ
  cancelled ids = written_all (map (λ i. complete kind name i 11) ids)

  -- the one that ends the request i
  abbrev pub one : ℕ → List ℕ
  one i = written (complete kind name i 11)

  cancelled_append : (xs ys : List ℕ) → cancelled (xs ++ ys) ≡ cancelled xs ++ cancelled ys
  unfolding written_all
  cancelled_append [] ys = refl
  cancelled_append (x ∷ xs) ys = rw (cancelled_append xs ys) (sym (append_assoc (one x) (cancelled xs) (cancelled ys)))

  cancelled_one : (x : ℕ) → cancelled (x ∷ []) ≡ one x
  unfolding written_all
  cancelled_one x = append-nil (one x)

  module _ (ids : List ℕ) (i : ℕ) (h : i < length ids) where
    -- one event more
    pub cancelled_more : cancelled (take (i + 1) ids) ≡ cancelled (take i ids) ++ one (get_or ids i 0)
    cancelled_more =
        ap cancelled (take_more ids i 0 h)
        ∙ cancelled_append (take i ids) (get_or ids i 0 ∷ [])
        ∙ ap (λ (l : List ℕ). cancelled (take i ids) ++ l) (cancelled_one (get_or ids i 0))

    pub cancelled_length : length (cancelled (take (i + 1) ids)) ≡ length (cancelled (take i ids)) + length (one (get_or ids i 0))
    cancelled_length = ap length cancelled_more ∙ length-append (cancelled (take i ids)) (one (get_or ids i 0))

    -- it ends within the whole
    pub cancelled_room : length (cancelled (take i ids)) + length (one (get_or ids i 0)) ≤ length (cancelled ids)
    cancelled_room =
        let e : cancelled ids ≡ cancelled (take (i + 1) ids) ++ cancelled (drop (i + 1) ids) =
        ap cancelled (sym (take-append-drop (i + 1) ids)) ∙ cancelled_append (take (i + 1) ids) (drop (i + 1) ids) in
        omega (arith, ap length e, length-append (cancelled (take (i + 1) ids)) (cancelled (drop (i + 1) ids)), cancelled_length)

  -- ---- all

  pub all_none : (cause : ℕ) (ids : List ℕ) → length ids ≡ 0 → written_all (completes kind name ids cause) ≡ []
  unfolding written_all
  all_none cause [] h = refl
  all_none cause (i ∷ is) h = absurd (omega arith)

  module _ (cause : ℕ) {all ids : List ℕ} {id : ℕ} (e : all ≡ id ∷ ids) where
    pub all_some : written (complete kind name id cause) ++ cancelled ids ≡ written_all (completes kind name all cause)
    unfolding written_all
    all_some = rw e

    pub all_length : length (written_all (completes kind name all cause))
        ≡ length (written (complete kind name id cause)) + length (cancelled ids)
    all_length = ap length (sym all_some) ∙ length-append (written (complete kind name id cause)) (cancelled ids)
