-- What the masks of a queue mark: the active one, and all. Assumes nothing.
use Prim.Native.Nat.{ℕ, zero, suc, ◌+◌, ◌≤◌, ◌<◌}
use mathlib.Core.Path.{◌≡◌, refl, ap}
use mathlib.Core.Bool.{Bool, true, false, not, ◌&&◌, beq}
use mathlib.Core.Logic.{◌⊎◌, inl, inr}
use mathlib.Core.List.{List, [], ◌∷◌}
use native.Mathlib.Nat.{eq-or-lt_of_le}
use native.Mathlib.Omega.{arith}
use lib.ListN.{length}
use borrow.Author.Tests.{not-true}
use Rattle.lists.specs.Lists.{bit}
use Rattle.lists.proofs.Tests.{both}
use Rattle.synth.specs.declared.Entry.{Entry}
use Rattle.queue.specs.Queue.{marked}

-- a test of every number below n, computed
abbrev below : ℕ → (ℕ → Bool) → Bool
below zero test = true
below (suc n) test = test n && below n test

each_below : (n : ℕ) (test : ℕ → Bool) → below n test ≡ true → (k : ℕ) → k < n → test k ≡ true
each_below zero test e k h = absurd (omega arith)
each_below (suc n) test e k h = go (eq-or-lt_of_le (omega arith)) (λ l. each_below n test (both (test n) (below n test) e).1 k l)
  where
    go : (k ≡ n) ⊎ (k < n) → (k < n → test k ≡ true) → test k ≡ true
    go (inl s) rest = rw s (both (test n) (below n test) e).0
    go (inr l) rest = rest l

-- a queue whose places from j on are all marked as wanted, or none of them
module _ (want : Bool) (mask : ℕ) where
  wanted : (j : ℕ) (queue : List Entry) → ((k : ℕ) → j ≤ k → k < 16 → beq (bit mask k) want ≡ true) → j + length queue ≤ 16
      → marked want mask j queue ≡ queue
  wanted j [] h few = refl
  wanted j (e ∷ queue) h few =
      rw (h j (omega arith) (omega arith), wanted (suc j) queue (λ k a. h k (omega arith)) (omega arith))

  unwanted : (j : ℕ) (queue : List Entry) → ((k : ℕ) → j ≤ k → k < 16 → beq (bit mask k) want ≡ false) → j + length queue ≤ 16
      → marked want mask j queue ≡ []
  unwanted j [] h few = refl
  unwanted j (e ∷ queue) h few =
      rw (h j (omega arith) (omega arith), unwanted (suc j) queue (λ k a. h k (omega arith)) (omega arith))

-- the mask of all has each of sixteen bits
every : (k : ℕ) → k < 16 → bit 65535 k ≡ true
every k h = each_below 16 (bit 65535) refl k h

-- the mask of the active one has the first bit alone
no_other : (k : ℕ) → 1 ≤ k → k < 16 → bit 1 k ≡ false
no_other zero h l = absurd (omega arith)
no_other (suc k) h l = not-true (bit 1 (suc k)) (each_below 15 (λ k. not (bit 1 (suc k))) refl k (omega arith))

module _ (queue : List Entry) where
  pub all_end : length queue ≤ 16 → marked true 65535 0 queue ≡ queue
  all_end few = wanted true 65535 0 queue (λ k a h. rw (every k h)) (omega arith)

  pub none_remains : length queue ≤ 16 → marked false 65535 0 queue ≡ []
  none_remains few = unwanted false 65535 0 queue (λ k a h. rw (every k h)) (omega arith)

  module _ (e : Entry) where
    pub active_ends : suc (length queue) ≤ 16 → marked true 1 0 (e ∷ queue) ≡ e ∷ []
    active_ends few = ap (λ (q : List Entry). e ∷ q) (unwanted true 1 1 queue (λ k a h. rw (no_other k a h)) (omega arith))

    pub others_remain : suc (length queue) ≤ 16 → marked false 1 0 (e ∷ queue) ≡ queue
    others_remain few = wanted false 1 1 queue (λ k a h. rw (no_other k a h)) (omega arith)
