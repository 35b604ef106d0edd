-- What the steps of saving leave of the 89 numbers.
use Rattle.std.specs.Prelude.{ℕ, ◌%◌, ◌≡◌, true, false, List, [], ◌∷◌, eqb, length}
use Rattle.std.proofs.Math.Seq.{paste}
use Rattle.answer.specs.declared.Kind.{Kind}
use Rattle.synth.specs.declared.Setting.{Setting}
use Rattle.channelnumbers.specs.Numbers.{sort_number, value_number}

-- how many thresholds are stored of so many entries: none of a synthesizer's
abbrev pub threshold_count : Kind → ℕ → ℕ
threshold_count Kind.Synthesizer n = 0
threshold_count Kind.Recognizer n = n

-- the number of an entry as it is stored: any may be handed in
abbrev pub stored : ℕ → ℕ
stored n = n % 8589934592

-- the numbers of three settings
abbrev pub three : Setting → Setting → Setting → List ℕ
three a b c = sort_number a ∷ value_number a ∷ sort_number b ∷ value_number b ∷ sort_number c ∷ value_number c ∷ []

-- the first n of l stand in ws, from `at` on, in place of what stood in w
pub record Stored (w : List ℕ) (at : ℕ) (l : List ℕ) (n : ℕ) (ws : List ℕ) : Type 0 where
  pub long : length w ≡ 89
  pub kept : length ws ≡ 89
  pub pasted : ws ≡ paste w at l n

-- the value that a setting of that sort has: none where it is unset
abbrev pub value_kept : ℕ → ℕ → ℕ
value_kept sort value = elim (eqb sort 0) [ true ↦ 0 | false ↦ value ]
