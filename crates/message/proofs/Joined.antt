-- The words of a line, with the separators between them, are the line. Assumes nothing.
use Prim.Native.Nat.{ℕ}
use mathlib.Core.Path.{◌≡◌, refl, sym, ap, ◌∙◌}
use mathlib.Core.Bool.{Bool, true, false}
use mathlib.Core.List.{List, [], ◌∷◌, ◌++◌}
use lib.Dec.{eqb}
use borrow.Author.Tests.{eqb-true}
use Rattle.readers.specs.Words.{onto, words}

abbrev pub join_on : ℕ → List ℕ → List (List ℕ) → List ℕ
join_on b w [] = w
join_on b w (v ∷ ws) = w ++ b ∷ join_on b v ws

abbrev pub join : ℕ → List (List ℕ) → List ℕ
join b [] = []
join b (w ∷ ws) = join_on b w ws

join_onto : (b x : ℕ) (ws : List (List ℕ)) → join b (onto x ws) ≡ x ∷ join b ws
join_onto b x [] = refl
join_onto b x (w ∷ []) = refl
join_onto b x (w ∷ v ∷ ws) = refl

-- there is always a word
abbrev Some : List (List ℕ) → Type 0
Some [] = ⊥
Some (w ∷ ws) = Unit {0}

some_onto : (x : ℕ) (ws : List (List ℕ)) → Some (onto x ws)
some_onto x [] = tt
some_onto x (w ∷ ws) = tt

some_words : (b : ℕ) (s : List ℕ) → Some (words b s)
some_words b [] = tt
some_words b (x ∷ s) = go (eqb x b) refl
  where
    go : (t : Bool) → eqb x b ≡ t → Some (words b (x ∷ s))
    go true e = rw (e, words) tt
    go false e = rw (e, words) (some_onto x (words b s))

join_apart : (b : ℕ) (ws : List (List ℕ)) → Some ws → join b ([] ∷ ws) ≡ b ∷ join b ws
join_apart b [] h = absurd h
join_apart b (w ∷ ws) h = refl

pub words_joined : (b : ℕ) (s : List ℕ) → join b (words b s) ≡ s
words_joined b [] = refl
words_joined b (x ∷ s) = go (words_joined b s) (eqb x b) refl
  where
    go : join b (words b s) ≡ s → (t : Bool) → eqb x b ≡ t → join b (words b (x ∷ s)) ≡ x ∷ s
    go h true e =
        rw (e, words)
        (join_apart b (words b s) (some_words b s) ∙ ap (◌∷◌ b) h ∙ ap (λ (y : ℕ). y ∷ s) (sym (eqb-true x b e)))
    go h false e = rw (e, words) (join_onto b x (words b s) ∙ ap (◌∷◌ x) h)
