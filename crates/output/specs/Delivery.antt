-- Bytes delivered into a lent output, or refused where it is too short: document 01, refusal 7.
use Rattle.std.specs.Prelude.{ℕ, true, false, List, ◌++◌, ltb, length, drop, Result, Ok, Err}
use Rattle.output.specs.declared.TooLong.{TooLong}

-- what the output holds afterwards: all of bs and then what stood there, or what it held where it is shorter than bs
unfoldable pub delivered : List ℕ → List ℕ → List ℕ
delivered bs out = elim (ltb (length out) (length bs)) [ true ↦ out | false ↦ bs ++ drop (length bs) out ]

-- what is returned of it
unfoldable pub counted : List ℕ → List ℕ → Result ℕ TooLong
counted bs out = elim (ltb (length out) (length bs)) [ true ↦ Err (record {}) | false ↦ Ok (length bs) ]

-- the paper's number of each case, and the count written
abbrev pub number_of : Result ℕ TooLong → ℕ
number_of (Ok n) = 0
number_of (Err _) = 7

abbrev pub written_of : Result ℕ TooLong → ℕ
written_of (Ok n) = n
written_of (Err _) = 0
