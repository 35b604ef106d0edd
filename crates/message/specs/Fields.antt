-- Field lines: document 01, "Fields", and document 02, K2.
use Rattle.std.specs.Prelude.{ℕ, suc, zero, ◌+◌, Bool, true, false, ◌&&◌, not, List, [], ◌∷◌, eqb, leb, ltb, length, take, drop}
use Rattle.std.proofs.Math.Option.{Option, none, some}
use Rattle.lists.specs.Lists.{all, run}
use Rattle.octets.specs.Octets.{is_name, is_value, is_gap}
use Rattle.readers.specs.Words.{is_crlf}
use Rattle.message.specs.Message.{Field}
use Rattle.message.specs.Folds.{raw, joined}
use Rattle.message.specs.declared.Span.{Span}

-- one byte more in front of a text that ends in no gap: a gap in front of nothing goes
abbrev pub kept : ℕ → List ℕ → List ℕ
kept x [] = elim (is_gap x) [ true ↦ [] | false ↦ x ∷ [] ]
kept x (y ∷ l) = x ∷ y ∷ l

-- without the blanks and folds at the end
abbrev pub trim_end : List ℕ → List ℕ
trim_end [] = []
trim_end (x ∷ l) = kept x (trim_end l)

-- the place of v, which stands at `at`, as it came, but for the blanks and folds at both its ends
abbrev pub trimmed : ℕ → List ℕ → Span
trimmed at v = record { start = at + run is_gap v; len = length (trim_end (drop (run is_gap v) v)) }

-- what a line is, and where the next one begins
pub data Line : Type 0 where
  malformed : Line
  empty : ℕ → Line
  field : Field Span → ℕ → Line

abbrev pub is_plain : ℕ → Bool
is_plain x = not (eqb x 58)

-- a field l at `at` whose first colon is k bytes on: a name of 1 to 64 name bytes, and a value, whose bytes are judged as joined
abbrev pub field_at : ℕ → ℕ → List ℕ → Line
field_at at k l = elim (ltb k (length l) && leb 1 k && leb k 64 && all is_name (take k l) && all is_value (joined (drop (suc k) l))) [
  | true ↦ field (record { name = record { start = at; len = k }; value = trimmed (at + k + 1) (drop (suc k) l) }) (at + length l + 2)
  | false ↦ malformed
]

abbrev pub raw_at : ℕ → Option (List ℕ) → Line
raw_at at none = malformed
raw_at at (some l) = field_at at (run is_plain l) l

-- the field, with all its lines, or the empty line that the bytes l, which stand at `at`, begin with
unfoldable pub field_line : ℕ → List ℕ → Line
field_line at l = elim (is_crlf l) [ true ↦ empty (at + 2) | false ↦ raw_at at (raw l) ]

-- the fields up to the first empty line and where the body begins; none where a line is malformed, there is no empty line, or they
-- are too many
pub data Lines : Type 0 where
  malformed : Lines
  lines : List (Field Span) → ℕ → Lines

abbrev pub with : Field Span → Lines → Lines
with f malformed = malformed
with f (lines fs b) = lines (f ∷ fs) b

abbrev pub go_on : Line → (ℕ → Lines) → Lines
go_on malformed more = malformed
go_on (empty next) more = lines [] next
go_on (field f next) more = with f (more next)

-- the lines of s from `at` on, of which at most n may be fields
abbrev pub field_lines : ℕ → List ℕ → ℕ → Lines
field_lines zero s at = go_on (field_line at (drop at s)) (λ _. malformed)
field_lines (suc n) s at = go_on (field_line at (drop at s)) (field_lines n s)
