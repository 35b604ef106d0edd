-- What the steps of reading a header find, in the types of the code.
use Rattle.std.specs.Prelude.{ℕ, ◌+◌, ◌*◌, Bool, true, false, List, [], ◌∷◌, ◌++◌, eqb, ltb, length, take, drop}
use Rattle.std.specs.Prelude.{Option, Some, None}
use Rattle.std.proofs.Math.Option as Math
use Rattle.std.proofs.Math.Option.{none, some}
use Rattle.std.specs.Int.Bits.{bit_and}
use Rattle.readers.specs.Words.{is_number, number_of}
use Rattle.message.specs.Message.{part}
use Rattle.message.specs.Fields as F
use Rattle.message.specs.Fields.{empty, field}
use Rattle.message.specs.Known.{known_of}
use Rattle.names.specs.Steps.{may_come}
use Rattle.fieldlines.specs.Steps.{field_of}
use Rattle.fieldlines.specs.declared.Field.{Field}
use Rattle.header.specs.declared.Step.{Step}

-- a line of f, judged after n fields with the names in `mask`: none where it fails judgement 2
abbrev pub step_of : Bool → ℕ → ℕ → List ℕ → F.Line → Option Step
step_of params n mask f F.Line.malformed = None
step_of params n mask f (empty next) = Some (Step.End next)
step_of params n mask f (field x next) = elim (may_come params n mask (known_of (part f x.name))) [
  | true ↦ Some (Step.Field (field_of x) (known_of (part f x.name)) next)
  | false ↦ None
]

-- the number that v writes, where it is 1 to 19 digits
abbrev pub stated_of : List ℕ → Option ℕ
stated_of v = elim (is_number 19 v) [ true ↦ Some (number_of v) | false ↦ None ]

-- the value v of the name with that bit, where it came
abbrev pub given_by : ℕ → ℕ → List ℕ → Math.Option (List ℕ)
given_by mask b v = elim (eqb (bit_and mask b) 0) [ true ↦ none | false ↦ some v ]

-- the numbers of the field j, where they fit
abbrev pub kept_at : ℕ → Field → List ℕ → List ℕ
kept_at j x out = elim (ltb (length out) (4 * j + 4)) [
  | true ↦ out
  | false ↦ take (4 * j) out ++ (x.name.start ∷ x.name.len ∷ x.value.start ∷ x.value.len ∷ []) ++ drop
      (4 * j + 4) out
]
