-- Texts compared several bytes at a time: bytes packed into a number are told by it.
-- Assumes nothing.
use mathlib.Core.Path.{◌≡◌, refl, sym, ap, ap₂, ◌∙◌}
use mathlib.Core.Bool.{Bool, false}
use mathlib.Core.List.{List}
use Prim.Native.Nat.{ℕ, zero, suc, ◌+◌, ◌*◌, ◌≤◌, ◌<◌}
use native.Mathlib.Nat.{add-zero, zero-add}
use native.Mathlib.Omega.{arith}
use lib.ListN.{length, get_or, drop}
use lib.Seq.{get_or-drop}
use Rattle.lists.specs.Lists.{same}
use Rattle.lists.proofs.Tests.{refuted}
use Rattle.lists.proofs.Scans.{same_so}
use Rattle.octets.specs.Steps.{packed}
use Rattle.octets.proofs.Texts.{same_step}

packed_drop : (s : List ℕ) (i k n : ℕ) → packed s i k n ≡ packed (drop i s) 0 k n
packed_drop s i k zero = refl
packed_drop s i k (suc n) =
    ap₂ (λ (x p : ℕ). x + 256 * p) (sym (get_or-drop i s (0 + k) 0 ∙ ap (λ j. get_or s (i + j) 0) (zero-add k)))
    (packed_drop s i (suc k) n)

module _ (a b : List ℕ) where
  -- i compared, and the next n differ
  pub packed_stop : (n i : ℕ) → (packed a i 0 n ≡ packed b i 0 n → ⊥) → same (drop i a) (drop i b) ≡ false
  packed_stop n i d = refuted (same (drop i a) (drop i b))
      (λ e. d (packed_drop a i 0 n ∙ ap (λ l. packed l 0 0 n) (same_so (drop i a) (drop i b) e)
      ∙ sym (packed_drop b i 0 n)))

  -- what the comparison has left from i on
  abbrev left : ℕ → Bool
  left i = same (drop i a) (drop i b)

  -- i compared, and the next n are the same
  module _ (p : (i : ℕ) → get_or a i 0 < 256) (q : (i : ℕ) → get_or b i 0 < 256) where
    on : (n i k : ℕ) → i + k + n ≤ length a → i + k + n ≤ length b → packed a i k n ≡ packed b i k n
        → left (i + k) ≡ left (i + k + n)
    on zero i k h g e = ap left (sym (add-zero (i + k)))
    on (suc n) i k h g e =
        let first : get_or a (i + k) 0 ≡ get_or b (i + k) 0 = omega (arith, p (i + k), q (i + k)) in
        let rest : packed a i (suc k) n ≡ packed b i (suc k) n = omega (arith, p (i + k), q (i + k)) in
        let next : i + k + 1 ≡ i + suc k = omega arith in
        let end : i + suc k + n ≡ i + k + suc n = omega arith in
        same_step a b (i + k) (omega arith) (omega arith) first ∙ ap left next
        ∙ on n i (suc k) (omega arith) (omega arith) rest ∙ ap left end

    pub packed_step : (n i : ℕ) → i + n ≤ length a → i + n ≤ length b → packed a i 0 n ≡ packed b i 0 n
        → left i ≡ left (i + n)
    packed_step n i h g e = ap left (sym (add-zero i)) ∙ on n i 0 (omega arith) (omega arith) e
        ∙ ap (λ j. left (j + n)) (add-zero i)
