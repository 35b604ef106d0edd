-- What the test of a mask finds, in the numbers of the code.
use Rattle.std.specs.Prelude.{ℕ, Bool, true, false, ◌&&◌, eqb, ltb}
use Rattle.std.specs.Int.Bits.{bit_and}
use Rattle.message.specs.declared.Known.{Known}
use Rattle.names.specs.Names.{bit_of}

-- the bits of the names that count as known
abbrev pub known_names : Bool → ℕ
known_names true = 3967
known_names false = 383

-- the bit of a name that counts as known, none for another name
abbrev pub known_bit : Bool → Known → ℕ
known_bit params k = bit_and (bit_of k) (known_names params)

-- after n fields there may be one more, and its name k, if it counts as known, did not come yet
abbrev pub may_come : Bool → ℕ → ℕ → Known → Bool
may_come params n mask k = ltb n 32 && eqb (bit_and mask (known_bit params k)) 0
