-- The words of a line, told from its front: behind a word's bytes stand a space, the line's end, or a byte that is the word's own.
-- Assumes nothing.
use mathlib.Core.Path.{◌≡◌, refl, sym, ap, ◌∙◌}
use mathlib.Core.Bool.{Bool, true, false, ◌&&◌}
use mathlib.Core.Option.{Option, none, some}
use mathlib.Core.List.{List, [], ◌∷◌, ◌++◌}
use Prim.Native.Nat.{ℕ, suc, ◌+◌, ◌<◌}
use native.Mathlib.Omega.{arith}
use lib.Dec.{eqb}
use lib.ListN.{length, drop}
use lib.Seq.{drop-drop}
use borrow.Author.Tests.{eqb-true}
use Rattle.lists.specs.Lists.{all}
use Rattle.lists.proofs.Tests.{both}
use Rattle.readers.specs.Words.{starts, is_crlf, behind, line, onto, words}
use Rattle.readers.proofs.Cuts.{line_end, line_on}
use Rattle.readers.proofs.Positions.{apart}
use Rattle.message.specs.StartLines.{Started, going_on, line_start, start_of, start_line}
use Rattle.startline.specs.Rules.{Rule, parted, said, size, told}

-- ---- lengths

onto_size : (x : ℕ) (ws : List (List ℕ)) → 0 < size ws → size (onto x ws) ≡ suc (size ws)
onto_size x [] h = absurd (omega arith)
onto_size x (w ∷ ws) h = omega arith

words_size : (l : List ℕ) → size (words 32 l) ≡ suc (length l)
words_size [] = refl
words_size (x ∷ l) = go (words_size l) (eqb x 32) refl
  where
    go : size (words 32 l) ≡ suc (length l) → (b : Bool) → eqb x 32 ≡ b → size (words 32 (x ∷ l)) ≡ suc (suc (length l))
    go ih true e = rw (e, words) (omega arith)
    go ih false e = rw (e, words) (omega (arith, onto_size x (words 32 l) (omega arith)))

pub start_told : (k : ℕ) (f : List ℕ) → start_line k f ≡ told (start_of k) k (said (drop k f))
unfolding start_line told said
start_told k f = go (line (drop k f))
  where
    go : (l : Option (List ℕ)) → line_start k l ≡ told (start_of k) k (parted l)
    go none = refl
    go (some l) = let e : k + length l + 2 ≡ k + size (words 32 l) + 1 = omega (arith, words_size l) in ap (going_on (start_of k (words 32 l))) e

-- ---- byte by byte

-- a byte more, and a word more, in front
abbrev onto_said : ℕ → Option (List (List ℕ)) → Option (List (List ℕ))
onto_said x none = none
onto_said x (some ws) = some (onto x ws)

abbrev before : List ℕ → Option (List (List ℕ)) → Option (List (List ℕ))
before w none = none
before w (some ws) = some (w ∷ ws)

module _ (x : ℕ) (l : List ℕ) where
  said_end : is_crlf (x ∷ l) ≡ true → said (x ∷ l) ≡ some ([] ∷ [])
  unfolding said
  said_end e = ap parted (line_end x l e)

  said_on : is_crlf (x ∷ l) ≡ false → eqb x 32 ≡ false → said (x ∷ l) ≡ onto_said x (said l)
  unfolding said
  said_on e n = ap parted (line_on x l e) ∙ go (line l)
    where
      go : (m : Option (List ℕ)) → parted (behind x m) ≡ onto_said x (parted m)
      go none = refl
      go (some m) = rw (n, words)

said_space : (l : List ℕ) → said (32 ∷ l) ≡ before [] (said l)
unfolding said
said_space l = go (line l)
  where
    go : (m : Option (List ℕ)) → parted (behind 32 m) ≡ before [] (parted m)
    go none = refl
    go (some m) = refl

-- ---- word by word

-- a line whose first word has the bytes w and then x in front
abbrev Begun : List ℕ → ℕ → Option (List (List ℕ)) → Type 0
Begun w x none = Unit {0}
Begun w x (some []) = ⊥
Begun w x (some (u ∷ ws)) = (v : List ℕ) × (u ≡ w ++ x ∷ v)

-- what is left of a rule behind a word that ends at e, where r stands
abbrev pub ended : Rule → ℕ → List ℕ → Started
ended rule e r = elim (is_crlf r) [
  | true ↦ going_on (rule []) (e + 2)
  | false ↦ elim (starts 32 r) [ true ↦ told rule (e + 1) (said (drop 1 r)) | false ↦ Started.malformed ]
]

-- no word that goes on behind w serves the rule
abbrev pub Firm : Rule → List ℕ → List ℕ → Type 0
Firm rule w [] = Unit {0}
Firm rule w (x ∷ r) = (v : List ℕ) (ws : List (List ℕ)) → rule ((w ++ x ∷ v) ∷ ws) ≡ none

module _ (test : ℕ → Bool) (space : test 32 ≡ false) (cr : test 13 ≡ false) where
  said_byte : (x : ℕ) (l : List ℕ) → test x ≡ true → said (x ∷ l) ≡ onto_said x (said l)
  said_byte x l e = said_on x l (ap (λ b. b && starts 10 l) (apart test 13 x cr e)) (apart test 32 x space e)

  said_none : (w : List ℕ) → all test w ≡ true → said (w ++ []) ≡ none
  unfolding said
  said_none [] a = refl
  said_none (x ∷ w) a = let h = both (test x) (all test w) a in said_byte x (w ++ []) h.0 ∙ ap (onto_said x) (said_none w h.1)

  said_last : (w : List ℕ) (x : ℕ) (r : List ℕ) → all test w ≡ true → is_crlf (x ∷ r) ≡ true → said (w ++ x ∷ r) ≡ some (w ∷ [])
  said_last [] x r a e = said_end x r e
  said_last (y ∷ w) x r a e = let h = both (test y) (all test w) a in said_byte y (w ++ x ∷ r) h.0 ∙ ap (onto_said y) (said_last w x r h.1 e)

  said_more : (w r : List ℕ) → all test w ≡ true → said (w ++ 32 ∷ r) ≡ before w (said r)
  said_more [] r a = said_space r
  said_more (y ∷ w) r a =
      let h = both (test y) (all test w) a in
      said_byte y (w ++ 32 ∷ r) h.0 ∙ ap (onto_said y) (said_more w r h.1) ∙ go (said r)
    where
      go : (m : Option (List (List ℕ))) → onto_said y (before w m) ≡ before (y ∷ w) m
      go none = refl
      go (some ws) = refl

  said_begun : (w : List ℕ) (x : ℕ) (r : List ℕ) → all test w ≡ true → is_crlf (x ∷ r) ≡ false → eqb x 32 ≡ false → Begun w x (said (w ++ x ∷ r))
  said_begun [] x r a e n = rw (said_on x r e n) (go (said r))
    where
      go : (m : Option (List (List ℕ))) → Begun [] x (onto_said x m)
      go none = tt
      go (some []) = ([], refl)
      go (some (v ∷ ws)) = (v, refl)
  said_begun (y ∷ w) x r a e n =
      let h = both (test y) (all test w) a in
      rw (said_byte y (w ++ x ∷ r) h.0) (go (said (w ++ x ∷ r)) (said_begun w x r h.1 e n))
    where
      go : (m : Option (List (List ℕ))) → Begun w x m → Begun (y ∷ w) x (onto_said y m)
      go none b = tt
      go (some []) b = absurd b
      go (some (u ∷ ws)) (v, e) = (v, ap (◌∷◌ y) e)

  module _ (rule : Rule) (at : ℕ) (w : List ℕ) (a : all test w ≡ true) where
    told_more : (r : List ℕ) → told rule at (said (w ++ 32 ∷ r)) ≡ told (λ ws. rule (w ∷ ws)) (at + length w + 1) (said r)
    unfolding told
    told_more r = ap (told rule at) (said_more w r a) ∙ go (said r)
      where
        go : (m : Option (List (List ℕ))) → told rule at (before w m) ≡ told (λ ws. rule (w ∷ ws)) (at + length w + 1) m
        go none = refl
        go (some ws) =
            let e : at + (suc (length w) + size ws) + 1 ≡ at + length w + 1 + size ws + 1 = omega arith in
            ap (going_on (rule (w ∷ ws))) e

    told_last : (x : ℕ) (r : List ℕ) → is_crlf (x ∷ r) ≡ true → told rule at (said (w ++ x ∷ r)) ≡ going_on (rule (w ∷ [])) (at + length w + 2)
    unfolding told
    told_last x r e =
        let n : at + (suc (length w) + 0) + 1 ≡ at + length w + 2 = omega arith in
        ap (told rule at) (said_last w x r a e) ∙ ap (going_on (rule (w ∷ []))) n

    told_stray : (x : ℕ) (r : List ℕ) → is_crlf (x ∷ r) ≡ false → eqb x 32 ≡ false → Firm rule w (x ∷ r) → told rule at (said (w ++ x ∷ r)) ≡ Started.malformed
    unfolding told
    told_stray x r e n f = go (said (w ++ x ∷ r)) (said_begun w x r a e n)
      where
        go : (m : Option (List (List ℕ))) → Begun w x m → told rule at m ≡ Started.malformed
        go none b = refl
        go (some []) b = absurd b
        go (some (u ∷ ws)) (v, h) = ap (λ t. going_on t (at + size (u ∷ ws) + 1)) (ap (λ u. rule (u ∷ ws)) h ∙ f v ws)

    pub told_word : (r : List ℕ) → Firm rule w r → told rule at (said (w ++ r)) ≡ ended (λ ws. rule (w ∷ ws)) (at + length w) r
    unfolding told
    told_word [] f = ap (told rule at) (said_none w a)
    told_word (x ∷ r) f = go (is_crlf (x ∷ r)) (eqb x 32) refl refl
      where
        go : (c s : Bool) → is_crlf (x ∷ r) ≡ c → eqb x 32 ≡ s → told rule at (said (w ++ x ∷ r)) ≡ ended (λ ws. rule (w ∷ ws)) (at + length w) (x ∷ r)
        go true s e n = rw (e, ended) (told_last x r e)
        go false true e n = rw (e, n, ended) (ap (λ y. told rule at (said (w ++ y ∷ r))) (eqb-true x 32 n) ∙ told_more r)
        go false false e n = rw (e, n, ended) (told_stray x r e n f)

-- ---- by the first byte

-- the first word is empty, or has x in front
abbrev Starting : ℕ → Option (List (List ℕ)) → Type 0
Starting x none = Unit {0}
Starting x (some []) = ⊥
Starting x (some ([] ∷ ws)) = Unit {0}
Starting x (some ((y ∷ v) ∷ ws)) = y ≡ x

said_starting : (x : ℕ) (l : List ℕ) → Starting x (said (x ∷ l))
said_starting x l = go (is_crlf (x ∷ l)) (eqb x 32) refl refl
  where
    spaced : (m : Option (List (List ℕ))) → Starting x (before [] m)
    spaced none = tt
    spaced (some ws) = tt

    on : (m : Option (List (List ℕ))) → Starting x (onto_said x m)
    on none = tt
    on (some []) = refl
    on (some (w ∷ ws)) = refl

    go : (c s : Bool) → is_crlf (x ∷ l) ≡ c → eqb x 32 ≡ s → Starting x (said (x ∷ l))
    go true s e n = rw (said_end x l e) tt
    go false true e n = rw (ap (λ y. said (y ∷ l)) (eqb-true x 32 n) ∙ said_space l) (spaced (said l))
    go false false e n = rw (said_on x l e n) (on (said l))

module _ (g h : Rule) (at : ℕ) where
  pub told_first : (x : ℕ) (l : List ℕ) → ((ws : List (List ℕ)) → g ([] ∷ ws) ≡ h ([] ∷ ws))
      → ((v : List ℕ) (ws : List (List ℕ)) → g ((x ∷ v) ∷ ws) ≡ h ((x ∷ v) ∷ ws)) → told g at (said (x ∷ l)) ≡ told h at (said (x ∷ l))
  unfolding told
  told_first x l p q = go (said (x ∷ l)) (said_starting x l)
    where
      go : (m : Option (List (List ℕ))) → Starting x m → told g at m ≡ told h at m
      go none b = refl
      go (some []) b = absurd b
      go (some ([] ∷ ws)) b = ap (λ t. going_on t (at + size ([] ∷ ws) + 1)) (p ws)
      go (some ((y ∷ v) ∷ ws)) b =
          ap (λ t. going_on t (at + size ((y ∷ v) ∷ ws) + 1)) (ap (λ y. g ((y ∷ v) ∷ ws)) b ∙ q v ws ∙ ap (λ y. h ((y ∷ v) ∷ ws)) (sym b))

  -- a line has a word
  pub told_same : ((w : List ℕ) (ws : List (List ℕ)) → g (w ∷ ws) ≡ h (w ∷ ws)) → (l : List ℕ) → told g at (said l) ≡ told h at (said l)
  unfolding told said
  told_same f [] = refl
  told_same f (x ∷ l) = told_first x l (f []) (λ v. f (x ∷ v))

pub told_nothing : (at : ℕ) (m : Option (List (List ℕ))) → told (λ ws. none) at m ≡ Started.malformed
unfolding told
told_nothing at none = refl
told_nothing at (some ws) = refl

-- ---- behind a word

spaced : (r : List ℕ) → starts 32 r ≡ true → is_crlf r ≡ false
spaced [] n = refl
spaced (x ∷ r) n = rw (eqb-true x 32 n)

module _ (rule : Rule) (s : List ℕ) (e : ℕ) where
  pub ended_line : is_crlf (drop e s) ≡ true → ended rule e (drop e s) ≡ going_on (rule []) (e + 2)
  ended_line h = rw (h, ended)

  pub ended_other : is_crlf (drop e s) ≡ false → starts 32 (drop e s) ≡ false → ended rule e (drop e s) ≡ Started.malformed
  ended_other h n = rw (h, n, ended)

  pub ended_space : starts 32 (drop e s) ≡ true → ended rule e (drop e s) ≡ told rule (e + 1) (said (drop (e + 1) s))
  ended_space n = rw (spaced (drop e s) n, n, ended) (ap (λ r. told rule (e + 1) (said r)) (drop-drop 1 e s))

  -- where the rule wants a word more
  pub ended_stray : rule [] ≡ none → starts 32 (drop e s) ≡ false → ended rule e (drop e s) ≡ Started.malformed
  ended_stray h n = go (is_crlf (drop e s)) refl
    where
      go : (b : Bool) → is_crlf (drop e s) ≡ b → ended rule e (drop e s) ≡ Started.malformed
      go true q = ended_line q ∙ ap (λ t. going_on t (e + 2)) h
      go false q = ended_other q n
