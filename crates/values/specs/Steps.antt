-- What the steps of asking for a value find, in the types of the code.
use Rattle.std.specs.Prelude.{ℕ, Bool, true, false, not, eqb, Option, Some, None}
use Rattle.std.specs.Int.Bits.{bit_and}
use Rattle.message.specs.declared.Span.{Span}

-- one of the names of a set came
abbrev pub meets : ℕ → ℕ → Bool
meets mask set = not (eqb (bit_and mask set) 0)

-- the value at p, where the name with that bit came
abbrev pub given_by : ℕ → ℕ → Span → Option Span
given_by mask b p = elim (meets mask b) [ true ↦ Some p | false ↦ None ]
