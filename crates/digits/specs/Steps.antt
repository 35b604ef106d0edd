-- What reading a number and a run of digits finds, in the types of the code: a position stands for a count.
use Rattle.std.specs.Prelude.{ℕ, ◌+◌, min, max, List, take, Result, Ok, Err}
use Rattle.lists.specs.Lists.{run}
use Rattle.octets.specs.Octets.{is_digit}
use Rattle.readers.specs.Readers.{Read, short, wrong, got}
use Rattle.readers.specs.Words.{number_of}
use Rattle.readers.specs.declared.Misread.{Misread}
use Rattle.readers.specs.declared.Misread.TheVariants.{Short, Wrong}
use Rattle.digits.specs.declared.Numeral.{Numeral}
use Rattle.digits.specs.declared.Digits.{Digits}

-- a number, read from `at` on
abbrev pub scanned : ℕ → Read ℕ → Result Numeral Misread
scanned at short = Err Short
scanned at wrong = Err Wrong
scanned at (got v n) = Ok (record { value = v; next = at + n })

-- nineteen digits fit a u64
abbrev pub at_most19 : ℕ → ℕ
at_most19 n = min n 19

abbrev pub one_to19 : ℕ → ℕ
one_to19 n = min (max n 1) 19

-- the digits at the front, at most `most` of them
unfoldable pub digits_at : ℕ → List ℕ → Digits
digits_at most l =
    let n : ℕ = min (run is_digit l) (at_most19 most) in
    record { value = number_of (take n l); count = n }
