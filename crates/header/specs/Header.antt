-- The fields that the code hands back, in the terms of document 01.
use Rattle.std.specs.Prelude.{ℕ, ◌*◌, ◌/◌, ◌≡◌, List, [], ◌∷◌, ◌++◌, length, take, drop, set, replicate}
use Rattle.std.specs.Prelude.{Option, Some, None}
use Rattle.message.specs.Message.{Field, Fields, bad, good, part}
use Rattle.message.specs.Known.{known_of, index_of}
use Rattle.message.specs.declared.Span.{Span}
use Rattle.names.specs.Names.{mask_with, names_in}
use Rattle.header.specs.declared.Header.{Header}

abbrev pub nowhere : Span
nowhere = record { start = 0; len = 0 }

-- the place of each known name's value, by the name's number, among those of `values`
abbrev pub values_in : List ℕ → List (Field Span) → List Span → List Span
values_in f [] values = values
values_in f (x ∷ fs) values = values_in f fs (set values (index_of (known_of (part f x.name))) x.value)

-- the header of good fields
abbrev pub header_in : List ℕ → List (Field Span) → Span → Header
header_in f fs body = record {
  count = length fs;
  mask = mask_with 0 (names_in f fs);
  body = body;
  values = values_in f fs (replicate 16 nowhere);
}

-- the whole answer of the code: none where judgement 2 fails
abbrev pub header_of : List ℕ → Fields Span → Option Header
header_of f bad = None
header_of f (good fs body) = Some (header_in f fs body)

-- start and length of each name and each value
abbrev pub field_numbers : List (Field Span) → List ℕ
field_numbers [] = []
field_numbers (f ∷ fs) = f.name.start ∷ f.name.len ∷ f.value.start ∷ f.value.len ∷ field_numbers fs

-- the fields that fit in n numbers
abbrev pub fitting : ℕ → List (Field Span) → List (Field Span)
fitting n fs = take (n / 4) fs

-- their numbers in front of what is left of those that were lent
abbrev pub kept_in : List ℕ → List (Field Span) → List ℕ
kept_in lent fs = field_numbers (fitting (length lent) fs) ++ drop (4 * length (fitting (length lent) fs)) lent

-- what the lent numbers are afterwards, where the fields are good
abbrev pub Kept : List ℕ → Fields Span → List ℕ → Type 0
Kept lent bad places = length places ≡ length lent
Kept lent (good fs body) places = places ≡ kept_in lent fs
