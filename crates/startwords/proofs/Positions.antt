-- Texts at the front of a list, and the room that digits have at a place.
-- Assumes nothing.
use mathlib.Core.Path.{◌≡◌, refl, ap}
use mathlib.Core.Bool.{false, ◌&&◌, and-false}
use mathlib.Core.List.{List, [], ◌∷◌}
use Prim.Native.Nat.{ℕ, ◌+◌, ◌<◌, ◌≤◌, min, max}
use native.Mathlib.Omega.{arith}
use lib.Dec.{eqb}
use lib.ListN.{length, take, drop, length-drop}
use Rattle.lists.specs.Lists.{run, same}
use Rattle.lists.proofs.Scans.{run_in}
use Rattle.octets.specs.Octets.{is_digit}
use Rattle.digits.specs.Steps.{digits_at}
use Rattle.digits.specs.declared.Digits.{Digits}
use Rattle.startwords.specs.Runs.{begins}

-- a text at the front of a list that has as many bytes, and of a shorter one
pub begins_same : (t l : List ℕ) → length t ≤ length l → begins t l ≡ same (take (length t) l) t
begins_same [] l h = refl
begins_same (b ∷ t) [] h = absurd (omega arith)
begins_same (b ∷ t) (x ∷ l) h = ap (λ c. eqb x b && c) (begins_same t l (omega arith))

pub begins_short : (t l : List ℕ) → length l < length t → begins t l ≡ false
begins_short [] l h = absurd (omega arith)
begins_short (b ∷ t) [] h = refl
begins_short (b ∷ t) (x ∷ l) h = rw (begins_short t l (omega arith), and-false)

-- where digits stand there is room for them
pub digits_end : (most : ℕ) (s : List ℕ) (i : ℕ) (d : Digits) → d ≡ digits_at most (drop i s) → i + d.count ≤ max i (length s)
unfolding digits_at
digits_end most s i d e =
    let n : d.count ≡ min (run is_digit (drop i s)) (min most 19) = ap (λ d. d.count) e in
    omega (arith, run_in is_digit (drop i s), length-drop i s)
