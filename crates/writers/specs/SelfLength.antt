-- The length that a message states of itself, its own digits counted: document 01, "Bytes written".
use Rattle.std.specs.Prelude.{◌≡◌, ℕ, ◌+◌, ◌≤◌}
use Rattle.writers.specs.Decimal.{width}

-- n equals the size of a message of `base` bytes besides the digits of n
abbrev pub Fits : ℕ → ℕ → Type 0
Fits base n = n ≡ base + width n

-- the smallest number that equals the message's size with its own digits in it
pub record Smallest (base n : ℕ) : Type 0 where
  pub fits : Fits base n
  pub least : (m : ℕ) → Fits base m → n ≤ m

-- that number: the digits of base are at most one too few, and those of what they give are right
unfoldable pub self_length : ℕ → ℕ
self_length base = base + width (base + width base)
