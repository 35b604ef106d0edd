-- A part that goes to the end. Assumes nothing.
use Prim.Native.Nat.{ℕ, ◌-◌}
use mathlib.Core.Path.{◌≡◌}
use mathlib.Core.List.{List}
use native.Mathlib.Omega.{arith}
use lib.ListN.{length, take, drop, length-drop}
use lib.Seq.{take_all}

pub part_to_end : (l : List ℕ) (k : ℕ) → take (length l - k) (drop k l) ≡ drop k l
part_to_end l k = take_all (length l - k) (drop k l) (omega (arith, length-drop k l))
