-- Where a line ends, and how long the first word of one is.
-- Assumes nothing.
use mathlib.Core.Path.{◌≡◌, refl, ap, ap₂}
use mathlib.Core.Bool.{Bool, true, false}
use mathlib.Core.Option.{Option, none, some}
use mathlib.Core.List.{List, [], ◌∷◌, ◌++◌}
use Prim.Native.Nat.{ℕ, suc, ◌+◌, ◌≤◌}
use native.Mathlib.Omega.{arith}
use lib.Dec.{eqb}
use lib.ListN.{length, length-append}
use borrow.Author.Tests.{eqb-true}
use Rattle.readers.specs.Words.{starts, is_crlf, behind, line, onto, words}
use Rattle.lists.proofs.Tests.{both}

starts_with : (b : ℕ) (s : List ℕ) → starts b s ≡ true → (rest : List ℕ) × (s ≡ b ∷ rest)
starts_with b [] e = let d : ◌≡◌ {A = ℕ} 0 1 = cc in absurd (omega arith)
starts_with b (x ∷ s) e = (s, ap (λ y. y ∷ s) (eqb-true x b e))

pub is_crlf_lem : (s : List ℕ) → is_crlf s ≡ true → (rest : List ℕ) × (s ≡ 13 ∷ 10 ∷ rest)
is_crlf_lem [] e = let d : ◌≡◌ {A = ℕ} 0 1 = cc in absurd (omega arith)
is_crlf_lem (x ∷ s) e =
    let (cr, lf) = both (eqb x 13) (starts 10 s) e in
    let (rest, h) = starts_with 10 s lf in
    (rest, ap₂ ◌∷◌ (eqb-true x 13 cr) h)

module _ (x : ℕ) (s : List ℕ) where
  pub line_end : is_crlf (x ∷ s) ≡ true → line (x ∷ s) ≡ some []
  line_end e = rw (e, line)

  pub line_on : is_crlf (x ∷ s) ≡ false → line (x ∷ s) ≡ behind x (line s)
  line_on e = rw (e, line)

-- what a line is: the bytes before a CRLF
abbrev pub Cut : List ℕ → Option (List ℕ) → Type 0
Cut s none = Unit {0}
Cut s (some l) = (rest : List ℕ) × (s ≡ l ++ 13 ∷ 10 ∷ rest)

cut_behind : (x : ℕ) (s : List ℕ) (r : Option (List ℕ)) → Cut s r → Cut (x ∷ s) (behind x r)
cut_behind x s none h = tt
cut_behind x s (some l) (rest, e) = (rest, ap (λ m. x ∷ m) e)

pub line_cut : (s : List ℕ) → Cut s (line s)
line_cut [] = tt
line_cut (x ∷ s) = go (line_cut s) (is_crlf (x ∷ s)) refl
  where
    go : Cut s (line s) → (b : Bool) → is_crlf (x ∷ s) ≡ b → Cut (x ∷ s) (line (x ∷ s))
    go h true c = rw (line_end x s c) (is_crlf_lem (x ∷ s) c)
    go h false c = rw (line_on x s c) (cut_behind x s (line s) h)

pub line_length : (s l : List ℕ) → Cut s (some l) → length l + 2 ≤ length s
line_length s l (rest, e) = omega (arith, ap length e, length-append l (13 ∷ 10 ∷ rest))

-- how long the first word is
abbrev pub first_of : List (List ℕ) → ℕ
first_of [] = 0
first_of (w ∷ ws) = length w

onto_first : (x : ℕ) (ws : List (List ℕ)) → first_of (onto x ws) ≡ suc (first_of ws)
onto_first x [] = refl
onto_first x (w ∷ ws) = refl

pub words_first : (b : ℕ) (s : List ℕ) → first_of (words b s) ≤ length s
words_first b [] = omega arith
words_first b (x ∷ s) = go (words_first b s) (eqb x b) refl
  where
    go : first_of (words b s) ≤ length s → (t : Bool) → eqb x b ≡ t → first_of (words b (x ∷ s)) ≤ suc (length s)
    go h true e = rw (e, words) (omega arith)
    go h false e = rw (e, words) (omega (arith, onto_first x (words b s)))
