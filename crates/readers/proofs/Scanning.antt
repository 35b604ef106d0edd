-- What `text` reads, by which of the text and the bytes begins with the other. Assumes nothing.
use mathlib.Core.Path.{◌≡◌, refl, sym, ap, ap₂, ◌∙◌}
use mathlib.Core.Bool.{Bool, true, false}
use mathlib.Core.List.{List, [], ◌∷◌}
use Prim.Native.Nat.{ℕ, suc, ◌-◌, min}
use native.Mathlib.Numerals.{one-add}
use native.Mathlib.Omega.{arith}
use lib.Dec.{eqb}
use lib.ListN.{length, take, drop, length-drop}
use lib.Seq.{take_all}
use borrow.Author.Tests.{eq-eqb, ne_eqb, eqb-true, eqb-false}
use Rattle.std.specs.List.{starts_with}
use Rattle.std.proofs.lemmas.List.{drop_min}
use Rattle.readers.specs.Readers.{Read, short, wrong, got, after, text}
use Rattle.readers.specs.Steps.{placed}
use Rattle.readers.proofs.Steps.{byte_yes, byte_no}

-- what is read of n bytes, by whether they stand there, and whether all that stands there begins them
abbrev pub read_by : ℕ → Bool → Bool → Read (Unit {0})
read_by n true begins = got tt n
read_by n false true = short
read_by n false false = wrong

after_one : (n : ℕ) (stands begins : Bool) → after 1 (read_by n stands begins) ≡ read_by (suc n) stands begins
after_one n true begins = ap (got tt) (one-add n)
after_one n false true = refl
after_one n false false = refl

text_by : (t l : List ℕ) → text t l ≡ read_by (length t) (starts_with eqb l t) (starts_with eqb t l)
text_by [] l = refl
text_by (b ∷ t) [] = refl
text_by (b ∷ t) (x ∷ l) = go (text_by t l) (eqb b x) refl
  where
    go : text t l ≡ read_by (length t) (starts_with eqb l t) (starts_with eqb t l) → (c : Bool) → eqb b x ≡ c
        → text (b ∷ t) (x ∷ l)
        ≡ read_by (suc (length t)) (starts_with eqb (x ∷ l) (b ∷ t)) (starts_with eqb (b ∷ t) (x ∷ l))
    go more true e =
        byte_yes (eqb b) (λ _. text t) wrong x l e ∙ ap (after 1) more
        ∙ after_one (length t) (starts_with eqb l t) (starts_with eqb t l)
        ∙ rw (e, eq-eqb x b (sym (eqb-true b x e)))
    go more false e = byte_no (eqb b) (λ _. text t) wrong x l e ∙ rw (e, ne_eqb x b (λ h. eqb-false b x e (sym h)))

-- what is left of the bytes from a position on that may be past them
pub from_min : (s : List ℕ) (at n : ℕ) → n ≡ min at (length s) → take (length s - n) (drop n s) ≡ drop at s
from_min s at n e =
    take_all (length s - n) (drop n s) (omega (arith, length-drop n s)) ∙ ap (λ m. drop m s) e ∙ drop_min at s

-- a text at a position that may be past the bytes
pub placed_by : (s t : List ℕ) (at n : ℕ) → n ≡ min at (length s) → (stands begins : Bool)
    → (let rest = take (length s - n) (drop n s) in
    stands ≡ starts_with eqb rest t → begins ≡ starts_with eqb t rest
    → placed at (read_by (length t) stands begins) ≡ placed at (text t (drop at s)))
placed_by s t at n e stands begins p q =
    let rest = take (length s - n) (drop n s) in
    ap (placed at) (ap₂ (read_by (length t)) p q ∙ sym (text_by t rest) ∙ ap (text t) (from_min s at n e))
