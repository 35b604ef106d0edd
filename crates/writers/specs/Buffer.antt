-- Numbers written into a lent buffer.
use Rattle.std.specs.Prelude.{◌≡◌, ℕ, ◌+◌, ◌≤◌, List, ◌++◌, length, take, drop}

-- out with bs in place of as many from `at` on
unfoldable pub put : List ℕ → ℕ → List ℕ → List ℕ
put out at bs = take at out ++ bs ++ drop (at + length bs) out

-- a call that writes bs from `at` on takes the buffer from out to after, and returns the place behind bs, which is within it
pub record Wrote (out : List ℕ) (at : ℕ) (bs after : List ℕ) (next : ℕ) : Type 0 where
  pub bytes : after ≡ put out at bs
  pub moved : next ≡ at + length bs
  pub room : next ≤ length out
