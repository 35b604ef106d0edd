-- Where a field that may go on ends, and what reading it finds, in the types of the code.
use Rattle.std.specs.Prelude.{ℕ, suc, ◌+◌, ◌-◌, ◌≡◌, ◌≤◌, Bool, true, false, ◌&&◌, not, Option, Some, None}
use Rattle.std.specs.Prelude.{List, [], ◌∷◌, length, take, drop}
use Rattle.lists.specs.Lists.{run}
use Rattle.octets.specs.Octets.{is_value, classes, Stands}
use Rattle.readers.specs.Words.{is_crlf}
use Rattle.message.specs.Message as M
use Rattle.message.specs.Fields as F
use Rattle.message.specs.Fields.{trim_end, trimmed, empty, field}
use Rattle.message.specs.Folds.{is_fold}
use Rattle.message.specs.declared.Span.{Span}
use Rattle.fieldlines.specs.declared.Field.{Field}
use Rattle.fieldlines.specs.declared.Line.{Line}

-- a field's places as the code has them
abbrev pub field_of : M.Field Span → Field
field_of f = record { name = f.name; value = f.value }

-- a malformed line is none
abbrev pub line_of : F.Line → Option Line
line_of F.Line.malformed = None
line_of (empty next) = Some (Line.Empty next)
line_of (field x next) = Some (Line.Field (field_of x) next)

-- a CRLF with no blank behind it: the field ends
abbrev pub ends_at : List ℕ → Bool
ends_at s = is_crlf s && not (is_fold s)

-- the end of the bytes of a class at `at` in f, where `class` is the table of bytes
abbrev pub IsEnd : List ℕ → List ℕ → ℕ → ℕ → ℕ → Type 0
IsEnd f class kind at end = (at ≤ end) × (at ≤ length f → end ≤ length f)
    × (class ≡ classes → (test : ℕ → Bool) → Stands kind test → end ≡ at + run test (drop at f))

-- how many bytes at the front are value bytes and folds
unfoldable pub value_run : List ℕ → ℕ
value_run [] = 0
value_run (x ∷ []) = run is_value (x ∷ [])
value_run (x ∷ y ∷ l) = elim (is_fold (x ∷ y ∷ l)) [
  | true ↦ suc (suc (value_run l))
  | false ↦ elim (is_value x) [ true ↦ suc (value_run (y ∷ l)) | false ↦ 0 ]
]

-- the field whose name stands from `at` to n in f, and whose value from v to end, without the gaps at its end
abbrev pub field_within : List ℕ → ℕ → ℕ → ℕ → ℕ → Field
field_within f at n v end = record {
  name = record { start = at; len = n - at };
  value = record { start = v; len = length (trim_end (take (end - v) (drop v f))) };
}

-- the field at `at` in f whose name ends at n, and whose value's bytes and folds end at `end`
abbrev pub field_to : List ℕ → ℕ → ℕ → ℕ → F.Line
field_to f at n end = elim (ends_at (drop end f)) [
  | true ↦ field (record {
    name = record { start = at; len = n - at };
    value = trimmed (n + 1) (take (end - (n + 1)) (drop (n + 1) f));
  }) (end + 2)
  | false ↦ F.Line.malformed
]
