-- Frames that are counted, and whether what is recorded is one frame: one law for each way that the code can go.
-- Assumes nothing.
use mathlib.Core.Option.{Option, none, some}
use Rattle.std.proofs.Common.{ℕ, suc, ◌+◌, ◌*◌, ◌≤◌, ◌≡◌, ◌⊎◌, min, refl, sym, ap, ◌∙◌, inl, inr, arith, Ok, Err}
use mathlib.Core.Bool.{Bool, ◌&&◌, ◌||◌, and-false, false≢true}
use Rattle.std.proofs.Common.{true, false, eqb, List, [], ◌∷◌, length, take, drop}
use Rattle.std.proofs.lemmas.Grind.{common_steps}
use borrow.Author.Tests.{eq-eqb, ne_eqb}
use Rattle.framing.specs.Framing.{framing}
use Rattle.framing.specs.declared.Framed.{Framed}
use Rattle.framing.specs.declared.NoFrame.{NoFrame}
use Rattle.framing.proofs.Frames.{frame_fits}
use Rattle.traces.specs.Traces.{ahead, fits, frames_in, so_many, can_be_left, is_one}
use Rattle.traces.proofs.Walking.{frames_empty}
use Rattle.traces.proofs.Unfinished.{is_one_lem, can_holds}
use Rattle.traces.proofs.Fronts.{front_frame, no_front, none_left}

-- exactly one frame is no longer than a message may be
pub one_most : (m : List ℕ) → is_one (length m) (framing m) ≡ true → length m ≤ 16384
one_most m e = let w = is_one_lem m e in (frame_fits m _ _ _ _ w.frame).most

-- the loop that counts frames, by what it has still to find
pub counted_end : (l : List ℕ) → so_many 0 (frames_in l) ≡ eqb (length l) 0
counted_end [] = ap (so_many 0) frames_empty
counted_end (x ∷ l) = go (frames_in (x ∷ l)) refl ∙ sym (ne_eqb (suc (length l)) 0 (λ e. omega arith))
  where
    go : (r : Option (List (List ℕ))) → frames_in (x ∷ l) ≡ r → so_many 0 r ≡ false
    go none e = refl
    go (some []) e = let z = ap length (none_left (x ∷ l) e) in absurd (omega (arith, z))
    go (some (m ∷ ms)) e = ne_eqb (suc (length ms)) 0 (λ e. omega arith)

pub counted_none : (l : List ℕ) (j : ℕ) (why : NoFrame) → framing l ≡ Err why → so_many (j + 1) (frames_in l) ≡ false
counted_none l j why e = go (no_front l why e)
  where
    go : (l ≡ []) ⊎ (frames_in l ≡ none) → so_many (j + 1) (frames_in l) ≡ false
    go (inl z) =
        ap (λ l. so_many (j + 1) (frames_in l)) z
        ∙ ap (so_many (j + 1)) frames_empty
        ∙ ne_eqb 0 (j + 1) (λ e. omega arith)
    go (inr z) = ap (so_many (j + 1)) z

one_more : (n j : ℕ) → eqb (suc n) (j + 1) ≡ eqb n j
one_more n j = grind (arith, common_steps)

pub counted_on : (l : List ℕ) (j : ℕ) (f : Framed) → framing l ≡ Ok f
    → so_many (j + 1) (frames_in l) ≡ so_many j (frames_in (drop f.length l))
counted_on l j f e = ap (so_many (j + 1)) (front_frame l f e).opened ∙ go (frames_in (drop f.length l))
  where
    go : (r : Option (List (List ℕ))) → so_many (j + 1) (ahead (take f.length l) r) ≡ so_many j r
    go none = refl
    go (some ms) = one_more (length ms) j

module _ (out : List ℕ) (used count : ℕ) where
  -- what can be left is short
  pub left_short : can_be_left out used count ≡ true → (used ≤ 65536) × (count ≤ 16384)
  left_short e = let (ms, h) = can_holds out used count e in short h.room
    where
      short : ((used ≡ 0) × (count ≡ 0)) ⊎ (used + 4 * count + 12 ≤ min (length out) 65536)
          → (used ≤ 65536) × (count ≤ 16384)
      short (inl (a, b)) = (omega arith, omega arith)
      short (inr h) = (omega arith, omega arith)

  -- with no byte used, no message is left
  pub left_nothing : used ≡ 0 → eqb count 0 ≡ can_be_left out used count
  unfolding can_be_left
  left_nothing e = sym (rw (e, frames_empty, can_be_left) (go (eqb count 0) refl))
    where
      go : (b : Bool) → eqb count 0 ≡ b → eqb count 0 || (fits (length out) 0 count && eqb 0 count) ≡ eqb count 0
      go true b = rw b
      go false b =
          let n : eqb 0 count ≡ false =
          ne_eqb 0 count (λ z. false≢true (sym b ∙ eq-eqb count 0 (sym z))) in
          rw (b, n, and-false (fits (length out) 0 count))

-- how large the sums can get that recording makes
pub ruleset sizes = (left_short, one_most)
