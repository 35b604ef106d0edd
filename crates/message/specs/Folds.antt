-- Fields that go on in a line that begins with a blank: document 02, K2.
use Rattle.std.specs.Prelude.{ℕ, Bool, true, false, ◌&&◌, not, List, [], ◌∷◌, drop}
use Rattle.std.proofs.Math.Option.{Option, none, some}
use Rattle.octets.specs.Octets.{is_blank}
use Rattle.readers.specs.Words.{is_crlf, behind}

abbrev pub starts_blank : List ℕ → Bool
starts_blank [] = false
starts_blank (x ∷ s) = is_blank x

-- a CRLF with a blank behind it: the field goes on
abbrev pub is_fold : List ℕ → Bool
is_fold s = is_crlf s && starts_blank (drop 2 s)

-- a field as it stands: all before the first CRLF that no blank follows, where there is one
unfoldable pub raw : List ℕ → Option (List ℕ)
raw [] = none
raw (x ∷ s) = elim (is_crlf (x ∷ s) && not (is_fold (x ∷ s))) [ true ↦ some [] | false ↦ behind x (raw s) ]

-- without the blanks at the front
abbrev pub drop_blanks : List ℕ → List ℕ
drop_blanks [] = []
drop_blanks (x ∷ l) = elim (is_blank x) [ true ↦ drop_blanks l | false ↦ x ∷ l ]

-- each CRLF with the blanks on both sides reads as one space
unfoldable pub joined : List ℕ → List ℕ
joined [] = []
joined (x ∷ []) = x ∷ []
joined (x ∷ y ∷ l) = elim (is_crlf (x ∷ y ∷ l)) [
  | true ↦ 32 ∷ drop_blanks (joined l)
  | false ↦ elim (is_blank x && is_crlf (drop_blanks (y ∷ l))) [ true ↦ joined (y ∷ l) | false ↦ x ∷ joined (y ∷ l) ]
]
