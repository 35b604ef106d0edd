-- What the steps of the code find.
use Rattle.std.specs.Prelude.{ℕ, Bool, true, false, List, ltb, length, drop}
use Rattle.std.proofs.Math.Option.{none, some}
use Rattle.readers.specs.Words.{line}
use Rattle.std.specs.Prelude.{Err}
use Rattle.whose.specs.Whose.{Whose, of_line, window}
use Rattle.whose.specs.declared.NoId.TheVariants.{TooShort}

-- a CRLF stands in s
abbrev pub has_line : List ℕ → Bool
has_line s = elim (line s) [ none ↦ false | some l ↦ true ]

-- behind an opening of k bytes
abbrev pub opened : ℕ → ℕ → List ℕ → Whose
opened k stated s = elim (ltb stated k) [
  | true ↦ Err TooShort
  | false ↦ of_line k stated (length s) (line (drop k (window stated s)))
]
