-- What reading a text finds, in the types of the code: a position stands for a count.
use Rattle.std.specs.Prelude.{ℕ, ◌+◌, Result, Ok, Err}
use Rattle.readers.specs.Readers.{Read, short, wrong, got}
use Rattle.readers.specs.declared.Misread.{Misread}
use Rattle.readers.specs.declared.Misread.TheVariants.{Short, Wrong}

-- a text, read from `at` on
abbrev pub placed : ℕ → Read (Unit {0}) → Result ℕ Misread
placed at short = Err Short
placed at wrong = Err Wrong
placed at (got u n) = Ok (at + n)
