-- Four stores in a row. Assumes nothing.
use mathlib.Core.Path.{◌≡◌, refl, ap}
use mathlib.Core.List.{List, [], ◌∷◌, ◌++◌}
use Prim.Native.Nat.{ℕ, zero, suc, ◌+◌, ◌≤◌}
use native.Mathlib.Nat.{suc-add}
use native.Mathlib.Omega.{arith}
use lib.ListN.{length, take, drop, set}

pub four : (out : List ℕ) (at a b c d : ℕ) → at + 4 ≤ length out
    → set (set (set (set out at a) (at + 1) b) (at + 2) c) (at + 3) d
    ≡ take at out ++ (a ∷ b ∷ c ∷ d ∷ []) ++ drop (at + 4) out
four [] at a b c d h = absurd (omega arith)
four (x ∷ []) zero a b c d h = absurd (omega arith)
four (x ∷ y ∷ []) zero a b c d h = absurd (omega arith)
four (x ∷ y ∷ z ∷ []) zero a b c d h = absurd (omega arith)
four (x ∷ y ∷ z ∷ w ∷ out) zero a b c d h = refl
four (x ∷ out) (suc at) a b c d h =
    rw (suc-add at 1, suc-add at 2, suc-add at 3, suc-add at 4)
    (ap (λ (l : List ℕ). x ∷ l) (four out at a b c d (omega arith)))
