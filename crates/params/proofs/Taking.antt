-- What a value that was read sets: the same as it stands and as joined. Assumes nothing.
use Prim.Native.Nat.{ℕ}
use mathlib.Core.Path.{◌≡◌, refl, sym, ap, ◌∙◌}
use mathlib.Core.Bool.{Bool, true, false}
use Rattle.std.proofs.Common.{Option, Some, None}
use Rattle.std.specs.Prelude.{MatchOption}
use Rattle.message.specs.Message.{part}
use Rattle.message.specs.declared.Span.{Span}
use mathlib.Core.List.{List}
use Rattle.message.specs.Folds.{joined}
use Rattle.synth.specs.Settings as S
use Rattle.synth.specs.Settings.{Name, kill_on_barge_in, fetch_timeout, confidence_threshold}
use Rattle.synth.specs.Settings.{sort_of, is_legal, setting_in, level_or}
use Rattle.synth.specs.declared.Setting.{Setting}
use Rattle.synth.proofs.Theorems.ValuesJudgedAlike.{legal_alike, setting_alike}
use Rattle.values.specs.Values.{given_of}
use Rattle.params.specs.Steps.{taken_in, taken_by}

named_alike : (n : Name) (v : List ℕ) → taken_in (sort_of n) v ≡ taken_in (sort_of n) (joined v)
named_alike n v = go (is_legal n v) refl ∙ ap (by (joined v)) (sym (legal_alike n v))
  where
    by : List ℕ → Bool → Option Setting
    by v b = elim b [ true ↦ Some (setting_in n v) | false ↦ None ]

    go : (b : Bool) → is_legal n v ≡ b → by v b ≡ by (joined v) b
    go true e = ap Some (sym (setting_alike n v e))
    go false e = refl

pub taken_alike : (s : S.Sort) (v : List ℕ) → taken_in s v ≡ taken_in s (joined v)
taken_alike S.flag v = named_alike kill_on_barge_in v
taken_alike S.millis v = named_alike fetch_timeout v
taken_alike S.level v = named_alike confidence_threshold v

-- the value as it stands was read, where there is one
pub took : (s : S.Sort) (f : List ℕ) (given : Option Span) (before : Setting) {x : Option Setting} {P : Span → Type 0}
    → MatchOption given (x ≡ Some before) P → ((p : Span) → P p → x ≡ taken_in s (part f p))
    → x ≡ taken_by s (given_of f given) before
took s f None before e read = e
took s f (Some p) before e read = read p e ∙ taken_alike s (part f p)
