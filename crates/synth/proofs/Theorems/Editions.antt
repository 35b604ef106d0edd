-- Editions: a setting stands in its own place, the newest four are kept, and they are numbered from 1, the newest.
-- Assumes nothing.
use Prim.Native.Nat.{ℕ, zero, suc, ◌≤◌, ◌<◌}
use mathlib.Core.Path.{◌≡◌, refl}
use mathlib.Core.Option.{none, some}
use mathlib.Core.List.{List, [], ◌∷◌, map}
use native.Mathlib.Omega.{arith}
use lib.ListN.{length, take, get_or, length-take}
use Rattle.synth.specs.Settings.{Name, kill_on_barge_in, fetch_timeout, no_input_timeout, confidence_threshold, sensitivity_level, slot, edition, with_slot, unset, further, edition_at}
use Rattle.synth.specs.declared.Setting.{Setting}
use Rattle.synth.specs.declared.Edition.{Edition}
use Rattle.synth.proofs.Theorems.SettingsTable.{every}

-- ---- a setting stands in its own place, and all others are as before

-- the five settings, where x was set under that name
abbrev pub setting : Name → Setting → Edition → List Setting
setting n x e = map (λ (m : Name). slot m (with_slot n x e)) every

module _ (x a b c d e : Setting) where
  abbrev before : Edition
  before = edition a b c d e

  pub own_place :
      setting kill_on_barge_in x before
      ∷ setting fetch_timeout x before
      ∷ setting no_input_timeout x before
      ∷ setting confidence_threshold x before
      ∷ setting sensitivity_level x before
      ∷ []
      ≡ (x ∷ b ∷ c ∷ d ∷ e ∷ [])
      ∷ (a ∷ x ∷ c ∷ d ∷ e ∷ [])
      ∷ (a ∷ b ∷ x ∷ d ∷ e ∷ [])
      ∷ (a ∷ b ∷ c ∷ x ∷ e ∷ [])
      ∷ (a ∷ b ∷ c ∷ d ∷ x ∷ [])
      ∷ []
  own_place = refl

-- ---- the numbers of the editions

-- 1 to how many there are, 1 the newest
pub kept_number : (n : ℕ) (es : List Edition) → n < length es → edition_at (suc n) es ≡ some (get_or es n unset)
kept_number n [] h = absurd (omega arith)
kept_number zero (e ∷ es) h = refl
kept_number (suc n) (e ∷ es) h = kept_number n es (omega arith)

pub not_zero : (es : List Edition) → edition_at 0 es ≡ none
not_zero [] = refl
not_zero (e ∷ es) = refl

pub not_kept : (n : ℕ) (es : List Edition) → length es ≤ n → edition_at (suc n) es ≡ none
not_kept n [] h = refl
not_kept zero (e ∷ es) h = absurd (omega arith)
not_kept (suc n) (e ∷ es) h = not_kept n es (omega arith)

-- ---- a further edition

pub the_newest : (e : Edition) (es : List Edition) → edition_at 1 (further e es) ≡ some e
the_newest e es = refl

-- the others one number on, up to the fourth
pub one_on : (n : ℕ) (e : Edition) (es : List Edition) → n < 3
    → edition_at (suc (suc n)) (further e es) ≡ edition_at (suc n) es
one_on n e es h = go n 3 es h
  where
    go : (n k : ℕ) (es : List Edition) → n < k → edition_at (suc n) (take k es) ≡ edition_at (suc n) es
    go n zero es h = absurd (omega arith)
    go n (suc k) [] h = refl
    go zero (suc k) (x ∷ es) h = refl
    go (suc n) (suc k) (x ∷ es) h = go n k es (omega arith)

pub four_at_most : (e : Edition) (es : List Edition) → length (further e es) ≤ 4
four_at_most e es = omega (arith, length-take 3 es)

module _ (a b c d e : Edition) where
  pub the_fifth : further e (a ∷ b ∷ c ∷ d ∷ []) ≡ e ∷ a ∷ b ∷ c ∷ []
  the_fifth = refl
