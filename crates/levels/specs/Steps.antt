-- What the steps of reading a level find.
use Rattle.std.specs.Prelude.{ℕ, ◌^◌, Bool, true, false, ◌||◌, eqb, leb}
use Rattle.std.proofs.Math.Option.{Option, none, some}
use Rattle.synth.specs.Levels.{level_of}
use Rattle.synth.specs.declared.Level.{Level}

-- a level begins with `0` or `1`
abbrev pub is_first : ℕ → Bool
is_first b = eqb b 48 || eqb b 49

-- the digits n, of which k stand behind the point, where that is at most one
abbrev pub level_by : ℕ → ℕ → Option Level
level_by n k = elim (leb n (10 ^ k)) [ true ↦ some (level_of n k) | false ↦ none ]
