-- The name that the code keeps, as document 01 has it.
use Rattle.std.specs.Prelude.{ℕ, ◌-◌, true, false, List, ◌++◌, eqb, length, take, get_or, replicate}
use Rattle.answer.specs.declared.Kind.{Kind}
use Rattle.channelnames.specs.declared.Name.{Name}

-- a size past the array's length is seen too, so that no such name is well formed
unfoldable pub name_of : Name → List ℕ
name_of n = take n.size n.bytes ++ replicate (n.size - 44) 0

-- the kind of a well-formed name, which its last byte tells
abbrev pub kind_by : List ℕ → Kind
kind_by name = elim (eqb (get_or name (length name - 1) 0) 103) [ true ↦ Kind.Recognizer | false ↦ Kind.Synthesizer ]

-- a name as it is kept: zeros past it
abbrev pub kept_name : List ℕ → Name
kept_name name = record { bytes = name ++ replicate (44 - length name) 0; size = length name }
