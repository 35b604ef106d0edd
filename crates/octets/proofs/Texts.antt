-- Two texts compared, as they are or capitals as small letters. Assumes nothing.
use mathlib.Core.Path.{◌≡◌, refl, sym, ap, ◌∙◌}
use mathlib.Core.Bool.{true, false}
use mathlib.Core.List.{List, [], ◌∷◌}
use Prim.Native.Nat.{ℕ, ◌+◌, ◌<◌}
use native.Mathlib.Numerals.{add-one}
use lib.ListN.{length, get_or, drop, length-map}
use lib.Seq.{drop-cons}
use borrow.Author.Tests.{eq-eqb}
use Rattle.lists.specs.Lists.{same}
use Rattle.lists.proofs.Tests.{refuted}
use Rattle.lists.proofs.Scans.{same_so}
use Rattle.octets.specs.Octets.{lowered, lower, alike}

pub same_lengths : (a b : List ℕ) → (length a ≡ length b → ⊥) → same a b ≡ false
same_lengths a b h = refuted (same a b) (λ e. h (ap length (same_so a b e)))

-- a text in small letters has the text's length
pub lower_lengths : (a b : List ℕ) → (length a ≡ length b → ⊥) → same (lower a) b ≡ false
lower_lengths a b h = same_lengths (lower a) b (λ e. h (sym (length-map a lowered) ∙ e))

pub alike_lengths : (a b : List ℕ) → (length a ≡ length b → ⊥) → alike a b ≡ false
alike_lengths a b h = lower_lengths a (lower b) (λ e. h (e ∙ length-map b lowered))

pub same_self : (l : List ℕ) → same l l ≡ true
same_self [] = refl
same_self (x ∷ l) = rw (eq-eqb x x refl) (same_self l)

pub alike_same : (a b : List ℕ) → same a b ≡ true → alike a b ≡ true
alike_same a b e = ap (λ s. alike s b) (same_so a b e) ∙ same_self (lower b)

-- i compared: what the comparison has left
pub same_step : (a b : List ℕ) (i : ℕ) → i < length a → i < length b → get_or a i 0 ≡ get_or b i 0
    → same (drop i a) (drop i b) ≡ same (drop (i + 1) a) (drop (i + 1) b)
same_step a b i h k e = rw (add-one i, drop-cons a i 0 h, drop-cons b i 0 k, eq-eqb (get_or a i 0) (get_or b i 0) e)
