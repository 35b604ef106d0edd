-- `sizes::message_size` meets its contract. Assumes nothing.
use Prim.Native.Nat.{ℕ, ◌+◌, ◌-◌, ◌^◌, ◌<◌, min}
use native.Mathlib.Omega.{arith}
use native.Mathlib.Decide.{dec_lt}
use mathlib.Core.Path.{◌≡◌, refl}
use Rattle.writers.specs.SelfLength.{self_length}
use Rattle.writers.proofs.SelfLength.{self_more}
use Rattle.sizes.proofs.message_size.Goals as goal

-- a base that is too great for the count is too great for the room
counted_up : (base cap : ℕ) → cap < 2 ^ 63
    → min (self_length (min (min base (2 ^ 64 - 1)) (2 ^ 64 - 21))) (cap + 1) ≡ min (self_length base) (cap + 1)
counted_up base cap h = go (dec_lt base (2 ^ 64 - 21)) _ refl
  where
    go : Dec (base < 2 ^ 64 - 21) → (n : ℕ) → n ≡ min (min base (2 ^ 64 - 1)) (2 ^ 64 - 21)
        → min (self_length n) (cap + 1) ≡ min (self_length base) (cap + 1)
    go (yes d) n e = let same : n ≡ base = omega arith in rw same
    go (no d) n e = omega (arith, self_more base, self_more n)

pub returns : goal.returns
returns c =
    rw (c.min.ensures, c.self_length-size.ensures, c.saturating_add.ensures) (counted_up _ c.args.cap c.requires)
