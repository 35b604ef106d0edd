-- A list of request-ids is judged the same as it stands and as joined, and lists the same ids: no fold is inside one.
-- Assumes nothing.
use Prim.Native.Nat.{ℕ}
use mathlib.Core.Path.{◌≡◌, refl, ap, ap₂}
use mathlib.Core.Bool.{Bool, true, false, ◌&&◌, not}
use mathlib.Core.List.{List, [], ◌∷◌}
use lib.Dec.{eqb, leb}
use borrow.Author.Tests.{eqb-true}
use Rattle.lists.specs.Lists.{all}
use Rattle.lists.proofs.Tests.{both}
use Rattle.lists.proofs.Scans.{all_of}
use Rattle.octets.specs.Octets.{is_gap}
use Rattle.readers.specs.Words.{onto, words, number_of, is_number, is_request_id}
use Rattle.message.specs.Folds.{joined}
use Rattle.message.proofs.Gapless.{gapless, number_gapless}
use Rattle.message.proofs.Theorems.JudgedAlike.{judged_alike, passes_same}
use Rattle.answer.specs.IdList.{is_id_list, ids_of}

id_gapless : (w : List ℕ) → is_request_id w ≡ true → gapless w ≡ true
id_gapless w e = number_gapless 10 w (both (is_number 10 w) (leb (number_of w) 4294967295) e).0

onto_gapless : (x : ℕ) (ws : List (List ℕ)) → all gapless (onto x ws) ≡ true
    → (not (is_gap x) ≡ true) × (all gapless ws ≡ true)
onto_gapless x [] h = ((both (not (is_gap x)) true (both (gapless (x ∷ [])) true h).0).0, refl)
onto_gapless x (w ∷ ws) h =
    let (p, q) = both (gapless (x ∷ w)) (all gapless ws) h in
    let (a, b) = both (not (is_gap x)) (gapless w) p in
    (a, rw b q)

-- neither a word nor a comma has a gap
words_gapless : (u : List ℕ) → all gapless (words 44 u) ≡ true → gapless u ≡ true
words_gapless [] e = refl
words_gapless (x ∷ u) e = go (eqb x 44) refl (words_gapless u)
  where
    go : (b : Bool) → eqb x 44 ≡ b → (all gapless (words 44 u) ≡ true → gapless u ≡ true) → gapless (x ∷ u) ≡ true
    go true b ih = ap₂ ◌&&◌ (ap (λ x. not (is_gap x)) (eqb-true x 44 b)) (ih (rw (b, words) at e))
    go false b ih = let (p, q) = onto_gapless x (words 44 u) (rw (b, words) at e) in ap₂ ◌&&◌ p (ih q)

list_gapless : (u : List ℕ) → is_id_list u ≡ true → gapless u ≡ true
unfolding is_id_list
list_gapless u e = words_gapless u (all_of is_request_id gapless id_gapless (words 44 u) e)

pub lists_alike : (v : List ℕ) → is_id_list (joined v) ≡ is_id_list v
lists_alike v = judged_alike is_id_list list_gapless v

pub ids_alike : (v : List ℕ) → is_id_list v ≡ true → ids_of (joined v) ≡ ids_of v
ids_alike v e = ap ids_of (passes_same is_id_list list_gapless v e)
