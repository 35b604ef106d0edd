-- A text without the gaps at its end: one law for each way that a loop's turn can go.
-- Assumes nothing.
use mathlib.Core.Path.{◌≡◌, refl, sym, ap, ◌∙◌}
use mathlib.Core.Bool.{true, false}
use mathlib.Core.List.{List, [], ◌∷◌, ◌++◌}
use Prim.Native.Nat.{ℕ, suc, ◌+◌, ◌-◌, ◌<◌, ◌≤◌}
use native.Mathlib.Omega.{arith}
use lib.ListN.{length, get_or, drop, take, length-take, length-drop}
use lib.Seq.{take-suc, get_or-drop}
use Rattle.octets.specs.Octets.{is_gap}
use Rattle.message.specs.Fields.{kept, trim_end}

-- a text's last byte
module _ (x : ℕ) where
  kept_more : (y : ℕ) (l : List ℕ) → kept y (l ++ x ∷ []) ≡ y ∷ (l ++ x ∷ [])
  kept_more y [] = refl
  kept_more y (z ∷ l) = refl

  trim_gap : is_gap x ≡ true → (l : List ℕ) → trim_end (l ++ x ∷ []) ≡ trim_end l
  trim_gap e [] = ap {B = List ℕ} (λ b. elim b [ true ↦ [] | false ↦ x ∷ [] ]) e
  trim_gap e (y ∷ l) = ap (kept y) (trim_gap e l)

  trim_solid : is_gap x ≡ false → (l : List ℕ) → trim_end (l ++ x ∷ []) ≡ l ++ x ∷ []
  trim_solid e [] = ap {B = List ℕ} (λ b. elim b [ true ↦ [] | false ↦ x ∷ [] ]) e
  trim_solid e (y ∷ l) = ap (kept y) (trim_solid e l) ∙ kept_more y l

-- the text from `at` to e
abbrev pub text : List ℕ → ℕ → ℕ → List ℕ
text s at e = take (e - at) (drop at s)

module _ (s : List ℕ) (at e : ℕ) (h : at < e) (l : e ≤ length s) where
  last_byte : text s at e ≡ text s at (e - 1) ++ get_or s (e - 1) 0 ∷ []
  last_byte =
      let n : e - at ≡ suc (e - 1 - at) = omega arith in
      let k : at + (e - 1 - at) ≡ e - 1 = omega arith in
      ap (λ n. take n (drop at s)) n ∙ take-suc (drop at s) (e - 1 - at) 0 (omega (arith, length-drop at s))
      ∙ ap (λ x. text s at (e - 1) ++ x ∷ []) (get_or-drop at s (e - 1 - at) 0 ∙ ap (λ k. get_or s k 0) k)

  pub solid_less : is_gap (get_or s (e - 1) 0) ≡ true → trim_end (text s at e) ≡ trim_end (text s at (e - 1))
  solid_less b = ap trim_end last_byte ∙ trim_gap (get_or s (e - 1) 0) b (text s at (e - 1))

  pub solid_stop : is_gap (get_or s (e - 1) 0) ≡ false → at + length (trim_end (text s at e)) ≡ e
  solid_stop b =
      let whole : trim_end (text s at e) ≡ text s at e = ap trim_end last_byte
      ∙ trim_solid (get_or s (e - 1) 0) b (text s at (e - 1)) ∙ sym last_byte in
      ap (λ t. at + length t) whole ∙ omega (arith, length-take (e - at) (drop at s), length-drop at s)
