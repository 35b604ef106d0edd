-- Levels between 0 and 1, as their text has them and as they are kept: document 02, K1 and K5.
use Rattle.std.specs.Prelude.{ℕ, ◌-◌, ◌*◌, ◌^◌, Bool, true, false, ◌&&◌, ◌||◌, List, [], ◌∷◌, eqb, leb, length, pos, Float}
use Rattle.std.proofs.Math.Option.{Option, none, some}
use Rattle.std.specs.Float.{binary32}
use Rattle.std.specs.Float.Ieee.{of_int, div}
use Rattle.readers.specs.Words.{is_number, number_of}
use Rattle.synth.specs.declared.Level.{Level}

-- n / d, each of them exact, rounded once to a single-precision number
unfoldable pub quotient : ℕ → ℕ → Float
quotient n d = div binary32 (of_int binary32 (pos n)) (of_int binary32 (pos d))

-- the single-precision number of a level that is kept by its millionths
abbrev pub single : ℕ → Float
single millionths = quotient millionths 1000000

-- the digits n, of which k stand behind the point: their millionths, and as a whole number divided once by the power of ten
abbrev pub level_of : ℕ → ℕ → Level
level_of n k = record { millionths = n * 10 ^ (6 - k); single = quotient n (10 ^ k) }

-- a point and 1 to 6 digits, where there is anything
abbrev pub places : List ℕ → Option (List ℕ)
places [] = some []
places (x ∷ ds) = elim (eqb x 46 && is_number 6 ds) [ true ↦ some ds | false ↦ none ]

-- at most one
abbrev pub at_most_one : ℕ → Option (List ℕ) → Option Level
at_most_one x none = none
at_most_one x (some ds) = elim (leb (number_of (x ∷ ds)) (10 ^ length ds)) [
  | true ↦ some (level_of (number_of (x ∷ ds)) (length ds))
  | false ↦ none
]

-- a level: `0` or `1`, optionally a point and 1 to 6 digits, at most one
unfoldable pub level_in : List ℕ → Option Level
level_in [] = none
level_in (x ∷ v) = elim (eqb x 48 || eqb x 49) [ true ↦ at_most_one x (places v) | false ↦ none ]

abbrev pub is_some : Option Level → Bool
is_some none = false
is_some (some l) = true

abbrev pub is_level : List ℕ → Bool
is_level v = is_some (level_in v)
