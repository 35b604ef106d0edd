-- The length that a message states of itself is the smallest number that equals its size with its own digits in it, for every size.
-- Assumes nothing.
use Prim.Native.Nat.{ℕ}
use mathlib.Core.Path.{◌≡◌, refl}
use Rattle.writers.specs.Decimal.{digits, digits_within}
use Rattle.writers.specs.SelfLength.{Fits, self_length, Smallest}
use Rattle.writers.proofs.SelfLength.{fits, least}

pub self_length_lem : (base : ℕ) → Smallest base (self_length base)
self_length_lem base = record { fits = fits base; least = least base }

-- the paper's T12 and T13: 97 bytes without the digits give 99, though 100 fits too; 98 give 101
pub at_97 : self_length 97 ≡ 99
unfolding self_length digits digits_within
at_97 = refl

pub also_100 : Fits 97 100
unfolding digits digits_within
also_100 = refl

pub at_98 : self_length 98 ≡ 101
unfolding self_length digits digits_within
at_98 = refl
