-- Words and lines that were joined come apart again: a line before its CRLF, words between separators, also where the first one has begun, numbers.
-- Assumes nothing.
use Prim.Native.Nat.{ℕ, ◌+◌, ◌-◌, ◌*◌, ◌≤◌}
use mathlib.Core.Path.{◌≡◌, refl, sym, ap, ◌∙◌}
use mathlib.Core.Bool.{Bool, true, false, not, false≢true}
use mathlib.Core.Option.{some}
use mathlib.Core.List.{List, [], ◌∷◌, ◌++◌, append_assoc}
use lib.Dec.{eqb}
use lib.ListN.{length}
use borrow.Author.Tests.{eq-eqb, ne_eqb, le-leb, not-true}
use Rattle.lists.specs.Lists.{all}
use Rattle.lists.proofs.Tests.{both}
use Rattle.lists.proofs.Scans.{all_append}
use Rattle.octets.specs.Octets.{is_digit}
use Rattle.readers.specs.Words.{line, behind, words, onto, decimal, number_of, is_number, is_request_id}

-- the byte b is not in the text
abbrev pub lacks : ℕ → List ℕ → Bool
lacks b l = all (λ x. not (eqb x b)) l

pub lacks_append : (b : ℕ) (l m : List ℕ) → lacks b l ≡ true → lacks b m ≡ true → lacks b (l ++ m) ≡ true
lacks_append b l m = all_append (λ x. not (eqb x b)) l m

-- nor is it where each byte passes a test that b does not pass
pub lacks_of : (test : ℕ → Bool) (b : ℕ) (l : List ℕ) → test b ≡ false → all test l ≡ true → lacks b l ≡ true
lacks_of test b [] e a = refl
lacks_of test b (x ∷ l) e a =
    let h = both (test x) (all test l) a in
    rw (ne_eqb x b (λ q. false≢true (sym e ∙ ap test (sym q) ∙ h.0))) (lacks_of test b l e h.1)

pub line_of : (l v : List ℕ) → lacks 13 l ≡ true → line (l ++ 13 ∷ 10 ∷ v) ≡ some l
line_of [] v a = refl
line_of (x ∷ l) v a =
    let h = both (not (eqb x 13)) (lacks 13 l) a in
    rw (not-true (eqb x 13) h.0, line) (ap (behind x) (line_of l v h.1))

pub words_last : (b : ℕ) (w : List ℕ) → lacks b w ≡ true → words b w ≡ w ∷ []
words_last b [] a = refl
words_last b (x ∷ w) a =
    let h = both (not (eqb x b)) (lacks b w) a in
    rw (not-true (eqb x b) h.0, words) (ap (onto x) (words_last b w h.1))

pub words_more : (b : ℕ) (w v : List ℕ) → lacks b w ≡ true → words b (w ++ b ∷ v) ≡ w ∷ words b v
words_more b [] v a = rw (eq-eqb b b refl, words)
words_more b (x ∷ w) v a =
    let h = both (not (eqb x b)) (lacks b w) a in
    rw (not-true (eqb x b) h.0, words) (ap (onto x) (words_more b w v h.1))

-- words whose first one began with w
abbrev pub begun : List ℕ → List (List ℕ) → List (List ℕ)
begun w [] = w ∷ []
begun w (u ∷ us) = (w ++ u) ∷ us

pub begun_onto : (w : List ℕ) (x : ℕ) (ws : List (List ℕ)) → begun w (onto x ws) ≡ begun (w ++ x ∷ []) ws
begun_onto w x [] = refl
begun_onto w x (u ∷ us) = ap (λ l. l ∷ us) (sym (append_assoc w (x ∷ []) u))

onto_some : (x : ℕ) (ws : List (List ℕ)) → begun [] (onto x ws) ≡ onto x ws
onto_some x [] = refl
onto_some x (u ∷ us) = refl

-- there is always a word
pub begun_none : (b : ℕ) (s : List ℕ) → begun [] (words b s) ≡ words b s
begun_none b [] = refl
begun_none b (x ∷ s) = go (eqb x b)
  where
    go : (t : Bool) → begun [] (elim t [ true ↦ [] ∷ words b s | false ↦ onto x (words b s) ]) ≡ elim t [ true ↦ [] ∷ words b s | false ↦ onto x (words b s) ]
    go true = refl
    go false = onto_some x (words b s)

pub decimal_append : (v : ℕ) (l m : List ℕ) → decimal v (l ++ m) ≡ decimal (decimal v l) m
decimal_append v [] m = refl
decimal_append v (x ∷ l) m = decimal_append (v * 10 + (x - 48)) l m

pub number_fits : (max : ℕ) (w : List ℕ) → 1 ≤ length w → length w ≤ max → all is_digit w ≡ true → is_number max w ≡ true
number_fits max w few most a = rw (le-leb 1 (length w) few, le-leb (length w) max most) a

pub id_fits : (w : List ℕ) → is_number 10 w ≡ true → number_of w ≤ 4294967295 → is_request_id w ≡ true
id_fits w a h = rw a (le-leb (number_of w) 4294967295 h)
