-- The refusals of framing against the opening as a grammar: each number is given exactly when what document 01 says of it holds.
-- Assumes nothing.
use mathlib.Core.Path.{◌≡◌}
use mathlib.Core.Logic.{◌↔◌, ◌⊎◌}
use mathlib.Core.List.{List}
use Prim.Native.Nat.{ℕ, ◌≤◌, ◌<◌}
use lib.ListN.{length}
use Rattle.framing.specs.Framing.{framing, refusal}
use Rattle.framing.specs.Grammar.{Begins, Never, States}
use Rattle.framing.proofs.Refusals.{means}

-- a proper beginning of an opening; or one that is neither too long nor too short, with fewer bytes than it states
pub one : (s : List ℕ)
    → (refusal (framing s) ≡ 1) ↔ (Begins s ⊎ ((k : ℕ) × (n : ℕ) × States s k n × (n ≤ 16384) × (k ≤ n) × (length s < n)))
one s = means s 1

-- no continuation of the bytes holds an opening
pub two : (s : List ℕ) → (refusal (framing s) ≡ 2) ↔ Never s
two s = means s 2

-- an opening states more than a message may have
pub three : (s : List ℕ) → (refusal (framing s) ≡ 3) ↔ ((k : ℕ) × (n : ℕ) × States s k n × (16384 < n))
three s = means s 3

-- an opening states less than its own length
pub four : (s : List ℕ) → (refusal (framing s) ≡ 4) ↔ ((k : ℕ) × (n : ℕ) × States s k n × (n ≤ 16384) × (n < k))
four s = means s 4

-- an opening states a length that is there
pub framed : (s : List ℕ) → (refusal (framing s) ≡ 0) ↔ ((k : ℕ) × (n : ℕ) × States s k n × (n ≤ 16384) × (k ≤ n) × (n ≤ length s))
framed s = means s 0
