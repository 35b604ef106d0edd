-- What was read of an opening, in the types of the code.
use Rattle.std.specs.Prelude.{Result, Ok, Err}
use Rattle.readers.specs.Readers.{Read, short, wrong, got}
use Rattle.readers.specs.declared.Misread.{Misread}
use Rattle.readers.specs.declared.Misread.TheVariants.{Short, Wrong}
use Rattle.framing.specs.declared.Opening.{Opening}
use Rattle.framing.specs.declared.Front.{Front}

-- an opening, and its length
abbrev pub front_of : Read Opening → Result Front Misread
front_of short = Err Short
front_of wrong = Err Wrong
front_of (got o k) = Ok (record { opening = o; length = k })
