-- The known names that came, as bits of a mask.
use Rattle.std.specs.Prelude.{ℕ, ◌^◌, List, [], ◌∷◌, map}
use Rattle.std.specs.Int.Bits.{bit_or}
use Rattle.message.specs.Message.{Field, part, on_field}
use Rattle.message.specs.Known.{index_of, names_of}
use Rattle.message.specs.declared.Span.{Span}
use Rattle.message.specs.declared.Known.{Known}

-- a name's bit; bit 7 says that a field with another name came
abbrev pub bit_of : Known → ℕ
bit_of k = 2 ^ index_of k

-- the bits of these names, put to those of a mask
abbrev pub mask_with : ℕ → List Known → ℕ
mask_with mask [] = mask
mask_with mask (k ∷ ks) = mask_with (bit_or mask (bit_of k)) ks

-- the names of the fields fs of f
abbrev pub names_in : List ℕ → List (Field Span) → List Known
names_in f fs = names_of (map (on_field (part f)) fs)
