-- What the steps of a comparison find, in the numbers of the code.
use Rattle.std.specs.Prelude.{ℕ, zero, suc, ◌+◌, ◌*◌, List, get_or}

-- n bytes of s from i + k on as one number, the first the least
abbrev pub packed : List ℕ → ℕ → ℕ → ℕ → ℕ
packed s i k zero = 0
packed s i k (suc n) = get_or s (i + k) 0 + 256 * packed s i (suc k) n
