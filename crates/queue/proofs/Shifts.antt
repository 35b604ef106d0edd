-- Entries moved one place to the front, one after the other. Assumes nothing.
use Prim.Native.Nat.{ℕ, suc, ◌+◌, ◌<◌}
use mathlib.Core.Path.{◌≡◌, sym, ap, ap₂, ◌∙◌}
use mathlib.Core.List.{List, [], ◌∷◌, ◌++◌}
use native.Mathlib.Numerals.{add-one}
use native.Mathlib.Omega.{arith}
use lib.ListN.{length, take, drop, get_or, set, length-drop}
use lib.Seq.{take-suc, take-suc-set, get_or-drop}
use Rattle.synth.specs.declared.Entry.{Entry}
use Rattle.queue.specs.Queue.{no_entry, entry_in, entries_of}
use Rattle.queue.proofs.Queues.{entries_long, entry_at, entry_set}

-- the first i that `old` has behind its first are the first i of l
abbrev pub Moved : List Entry → ℕ → List Entry → Type 0
Moved old i l = take i l ≡ take i (drop 1 old)

module _ (olds levels : List ℕ) (as_many : length levels ≡ length olds) (numbers thresholds : List ℕ) (e : length thresholds ≡ length numbers) (i : ℕ)
    (here : i < length numbers) (behind : i + 1 < length olds) (m : Moved (entries_of olds levels) i (entries_of numbers thresholds)) where
  next : entry_in (get_or olds (i + 1) 0) (get_or levels (i + 1) 0) ≡ get_or (drop 1 (entries_of olds levels)) i no_entry
  next =
      sym (entry_at olds levels (i + 1) as_many) ∙ ap (λ (k : ℕ). get_or (entries_of olds levels) k no_entry) {x = i + 1} {y = 1 + i} (omega arith)
      ∙ sym (get_or-drop 1 (entries_of olds levels) i no_entry)

  pub one_more : Moved (entries_of olds levels) (i + 1) (entries_of (set numbers i (get_or olds (i + 1) 0)) (set thresholds i (get_or levels (i + 1) 0)))
  one_more =
      ap₂ take (add-one i) (entry_set numbers thresholds i (get_or olds (i + 1) 0) (get_or levels (i + 1) 0) e)
      ∙ take-suc-set (entries_of numbers thresholds) i (entry_in (get_or olds (i + 1) 0) (get_or levels (i + 1) 0)) (omega (arith, entries_long numbers thresholds e))
      ∙ ap₂ (λ (l : List Entry) (x : Entry). l ++ x ∷ []) m next
      ∙ sym (ap (λ (k : ℕ). take k (drop 1 (entries_of olds levels))) (add-one i)
      ∙ take-suc (drop 1 (entries_of olds levels)) i no_entry (omega (arith, length-drop 1 (entries_of olds levels), entries_long olds levels as_many)))

-- what stands behind the first of some entries
pub behind_first : (n : ℕ) (l : List Entry) (e : Entry) (queue : List Entry) → take (suc n) l ≡ e ∷ queue → take n (drop 1 l) ≡ queue
behind_first n [] e queue h = absurd (let z : 0 ≡ suc (length queue) = ap length h in omega arith)
behind_first n (x ∷ l) e queue h = ap (drop 1) h
