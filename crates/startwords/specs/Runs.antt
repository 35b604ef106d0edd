-- What stands at a position, in the types of the code: runs of bytes and fixed texts.
use Rattle.std.specs.Prelude.{ℕ, ◌+◌, Bool, true, false, ◌&&◌, ◌||◌, Option, Some, None, List, [], ◌∷◌, eqb, leb}
use Rattle.octets.specs.Octets.{bytes, is_capital}
use Rattle.digits.specs.Steps.{digits_at}
use Rattle.digits.specs.declared.Digits.{Digits}
use Rattle.digits.specs.declared.Numeral.{Numeral}
use Rattle.message.specs.declared.RequestState.TheVariants.{Pending, InProgress, Complete}
use Rattle.startwords.specs.declared.Last.{Last}

-- a byte of a method's or event's name
abbrev pub is_naming : ℕ → Bool
is_naming x = is_capital x || eqb x 45

-- the request-id that digits from `at` on are
abbrev pub id_of : ℕ → Digits → Option Numeral
id_of at d = elim (eqb d.count 0) [
  | true ↦ None
  | false ↦ elim (leb d.value 4294967295) [ true ↦ Some (record { value = d.value; next = at + d.count }) | false ↦ None ]
]

unfoldable pub id_at : ℕ → List ℕ → Option Numeral
id_at at l = id_of at (digits_at 10 l)

-- the text t stands at the front
abbrev pub begins : List ℕ → List ℕ → Bool
begins [] l = true
begins (b ∷ t) [] = false
begins (b ∷ t) (x ∷ l) = eqb x b && begins t l

-- which state stands at `at` with CRLF behind it
abbrev pub last_of : ℕ → Bool → Bool → Bool → Option Last
last_of at pending in_progress complete = elim pending [
  | true ↦ Some (record { state = Pending; next = at + 9 })
  | false ↦ elim in_progress [
    | true ↦ Some (record { state = InProgress; next = at + 13 })
    | false ↦ elim complete [ true ↦ Some (record { state = Complete; next = at + 10 }) | false ↦ None ]
  ]
]

unfoldable pub last_at : ℕ → List ℕ → Option Last
last_at at l = last_of at (begins (bytes "PENDING\r\n") l) (begins (bytes "IN-PROGRESS\r\n") l) (begins (bytes "COMPLETE\r\n") l)
