-- The pieces by which the code writes a message.
use Rattle.std.specs.Prelude.{ℕ, List, ◌++◌}
use Rattle.octets.specs.Octets.{bytes}
use Rattle.writers.specs.Decimal.{digits}

-- what a message of that size begins with, up to the space behind the length
unfoldable pub opening_text : ℕ → List ℕ
opening_text size = bytes "MRCP/2.0 " ++ digits size ++ bytes " "
