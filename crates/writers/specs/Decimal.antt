-- Numbers as decimal digits, without leading zeros: document 01, "Bytes written".
use Rattle.std.specs.Prelude.{ℕ, zero, suc, ◌+◌, ◌/◌, ◌%◌, true, false, List, [], ◌∷◌, ◌++◌, length, ltb}

-- the digits of n, for a fuel above n
unfoldable pub digits_within : ℕ → ℕ → List ℕ
digits_within zero n = []
digits_within (suc fuel) n = elim (ltb n 10) [
  | true ↦ (48 + n) ∷ []
  | false ↦ digits_within fuel (n / 10) ++ ((48 + n % 10) ∷ [])
]

-- the digits of n, the most significant first
unfoldable pub digits : ℕ → List ℕ
digits n = digits_within (suc n) n

-- how many digits n has
abbrev pub width : ℕ → ℕ
width n = length (digits n)

-- the last three digits, as a status code and a cause have them
unfoldable pub three_digits : ℕ → List ℕ
three_digits n = (48 + n / 100 % 10) ∷ (48 + n / 10 % 10) ∷ (48 + n % 10) ∷ []
