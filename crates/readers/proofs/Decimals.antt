-- How great the number is that digits write.
-- Assumes nothing.
use mathlib.Core.Path.{◌≡◌}
use mathlib.Core.Bool.{true}
use mathlib.Core.List.{List, [], ◌∷◌}
use Prim.Native.Nat.{ℕ, suc, ◌+◌, ◌-◌, ◌*◌, ◌^◌, ◌<◌, ◌≤◌}
use native.Mathlib.Nat.{add-zero, zero-add, add-suc, suc-add, pow-suc}
use native.Mathlib.Omega.{arith}
use lib.Dec.{leb, lit<}
use lib.ListN.{length}
use borrow.Author.Tests.{leb-true}
use Rattle.lists.specs.Lists.{all}
use Rattle.octets.specs.Octets.{is_digit}
use Rattle.readers.specs.Words.{decimal, number_of}
use Rattle.lists.proofs.Tests.{both}

pub digit_bounds : (x : ℕ) → is_digit x ≡ true → (48 ≤ x) × (x ≤ 57)
digit_bounds x e = let (l, m) = both (leb 48 x) (leb x 57) e in (leb-true 48 x l, leb-true x 57 m)

-- a digit more
pub grown : (v k x : ℕ) → v < 10 ^ k → is_digit x ≡ true → v * 10 + (x - 48) < 10 ^ suc k
grown v k x h e = rw pow-suc (omega (arith, digit_bounds x e))

pub decimal_below : (v k : ℕ) (w : List ℕ) → v < 10 ^ k → all is_digit w ≡ true → decimal v w < 10 ^ (k + length w)
decimal_below v k [] h e = rw add-zero h
decimal_below v k (x ∷ w) h e =
    let (d, ds) = both (is_digit x) (all is_digit w) e in
    rw (add-suc, ← suc-add k (length w)) (decimal_below (v * 10 + (x - 48)) (suc k) w (grown v k x h d) ds)

pub number_below : (w : List ℕ) → all is_digit w ≡ true → number_of w < 10 ^ length w
number_below w e = rw zero-add at (decimal_below 0 0 w (lit< tt) e)
