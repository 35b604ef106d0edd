-- What a queue shows of the array and the count behind it, and what is left of a queue. Assumes nothing.
use Prim.Native.Nat.{ℕ, zero, suc, ◌-◌, ◌≤◌}
use mathlib.Core.Path.{◌≡◌, refl, sym, ap, ◌∙◌}
use mathlib.Core.Bool.{true}
use mathlib.Core.List.{List, [], ◌∷◌, ◌++◌, map, append-nil}
use native.Mathlib.Omega.{arith}
use lib.Dec.{eqb, leb, lit≤}
use lib.ListN.{length, take, get_or, set, length-append, length-map, length-take, length-replicate, replicate}
use borrow.Author.Tests.{ne_eqb, le-leb, leb-true}
use mir.Val.{Val}
use denote.Laws.{Is}
use Rattle.lists.specs.Lists.{is_empty}
use Rattle.lists.proofs.Scans.{all_append}
use Rattle.lists.proofs.Tests.{both}
use Rattle.synth.specs.Channel.{ids, are_levels}
use Rattle.synth.specs.States.{while_any, active}
use Rattle.synth.specs.declared.Entry.{Entry}
use Rattle.synth.specs.declared.State.{State}
use Rattle.queue.specs.Queue.{no_entry, id_in, level_in, entry_in, entries_of, list_of, empty_queue, first, Lists, no_ids}
use Rattle.queue.specs.declared.Queue.{Queue}
use Rattle.queue.specs.declared.Ids.{Ids}
use Rattle.queue.specs.contracts.Queue.{the_row}
use Rattle.queue.specs.contracts.Ids as I

-- owning an array says the length of the list of its elements' values
pub length_of : (X Y : Type 0) (f : X → Y) (l : List X) (n : ℕ) → length (map f l) ≡ n → length l ≡ n
length_of X Y f l n p = sym (length-map l f) ∙ p

pub ids_16 : (l : Ids) (vs : List Val) → Is I.the_row l vs → length l.ids ≡ 16
ids_16 l vs good = search length_of

-- millionths of at most one are their own number
pub level_same : (n : ℕ) → n ≤ 1000000 → level_in n ≡ n
level_same n h = omega arith

-- those numbers with their thresholds: as many, at the same places
pub entries_long : (numbers : List ℕ) (levels : List ℕ) → length levels ≡ length numbers → length (entries_of numbers levels) ≡ length numbers
entries_long [] levels e = refl
entries_long (h ∷ numbers) [] e = absurd (let z : 0 ≡ suc (length numbers) = e in omega arith)
entries_long (h ∷ numbers) (n ∷ levels) e = ap suc (entries_long numbers levels (omega (arith, e)))

pub entry_at : (numbers : List ℕ) (levels : List ℕ) (i : ℕ) → length levels ≡ length numbers
    → get_or (entries_of numbers levels) i no_entry ≡ entry_in (get_or numbers i 0) (get_or levels i 0)
entry_at [] [] i e = refl
entry_at [] (n ∷ levels) i e = absurd (let z : suc (length levels) ≡ 0 = e in omega arith)
entry_at (h ∷ numbers) [] i e = absurd (let z : 0 ≡ suc (length numbers) = e in omega arith)
entry_at (h ∷ numbers) (n ∷ levels) zero e = refl
entry_at (h ∷ numbers) (n ∷ levels) (suc i) e = entry_at numbers levels i (omega (arith, e))

pub entry_set : (numbers : List ℕ) (levels : List ℕ) (i : ℕ) (h n : ℕ) → length levels ≡ length numbers
    → entries_of (set numbers i h) (set levels i n) ≡ set (entries_of numbers levels) i (entry_in h n)
entry_set [] levels i h n e = refl
entry_set (x ∷ numbers) [] i h n e = absurd (let z : 0 ≡ suc (length numbers) = e in omega arith)
entry_set (x ∷ numbers) (m ∷ levels) zero h n e = refl
entry_set (x ∷ numbers) (m ∷ levels) (suc i) h n e = ap (λ (l : List Entry). entry_in x m ∷ l) (entry_set numbers levels i h n (omega (arith, e)))

abbrev pub ids_in : List ℕ → List ℕ
ids_in numbers = map id_in numbers

pub entry_ids : (n : ℕ) (numbers : List ℕ) (levels : List ℕ) → length levels ≡ length numbers → ids (take n (entries_of numbers levels)) ≡ ids_in (take n numbers)
entry_ids zero numbers levels e = refl
entry_ids (suc n) [] levels e = refl
entry_ids (suc n) (h ∷ numbers) [] e = absurd (let z : 0 ≡ suc (length numbers) = e in omega arith)
entry_ids (suc n) (h ∷ numbers) (m ∷ levels) e = ap (λ (l : List ℕ). id_in h ∷ l) (entry_ids n numbers levels (omega (arith, e)))

abbrev pub entries_in : Queue → List Entry
entries_in q = entries_of q.numbers q.thresholds

module _ (q : Queue) (vs : List Val) (good : Is the_row q vs) where
  pub numbers_16 : length q.numbers ≡ 16
  numbers_16 = search length_of

  pub levels_16 : length q.thresholds ≡ 16
  levels_16 = search length_of

  pub as_many : length q.thresholds ≡ length q.numbers
  as_many = levels_16 ∙ sym numbers_16

  pub entries_16 : length (entries_in q) ≡ 16
  entries_16 = entries_long q.numbers q.thresholds as_many ∙ numbers_16

  -- a queue is as long as its count says
  pub count_is : length (list_of q) ≡ q.count
  unfolding list_of
  count_is = simp (length-append, length-take, length-replicate, entries_16) (omega arith)

  -- it is empty exactly when the count is 0
  pub empty_is : is_empty (list_of q) ≡ eqb q.count 0
  empty_is = go (list_of q) ∙ ap (λ (n : ℕ). eqb n 0) count_is
    where
      go : (l : List Entry) → is_empty l ≡ eqb (length l) 0
      go [] = refl
      go (e ∷ l) = sym (ne_eqb (suc (length l)) 0 (λ z. let y : suc (length l) ≡ 0 = z in omega arith))

module _ (q : Queue) where
  pub within : q.count ≤ 16 → list_of q ≡ take q.count (entries_in q)
  unfolding list_of
  within h = let z : q.count - 16 ≡ 0 = omega arith in rw (z, append-nil)

  pub held_ids : (vs : List Val) → Is the_row q vs → q.count ≤ 16 → ids (list_of q) ≡ ids_in (take q.count q.numbers)
  held_ids vs good h = ap ids (within h) ∙ entry_ids q.count q.numbers q.thresholds (as_many q vs good)

  pub none_in : q.count ≡ 0 → list_of q ≡ []
  none_in z = rw (within (omega arith), z)

  -- the first entry, whatever the count says of the others
  pub active_is : length q.numbers ≡ 16 → length q.thresholds ≡ 16 → (q.count ≡ 0 → ⊥)
      → entry_in (get_or q.numbers 0 0) (get_or q.thresholds 0 0) ≡ first (list_of q)
  unfolding list_of
  active_is l k h = go q.numbers q.thresholds q.count _ (omega arith) (omega arith) (λ z. h z)
    where
      go : (numbers : List ℕ) (levels : List ℕ) (n : ℕ) (rest : List Entry) → 1 ≤ length numbers → 1 ≤ length levels → (n ≡ 0 → ⊥)
          → entry_in (get_or numbers 0 0) (get_or levels 0 0) ≡ first (take n (entries_of numbers levels) ++ rest)
      go [] levels n rest k m h = absurd (let z : 1 ≤ 0 = k in omega arith)
      go (x ∷ numbers) [] n rest k m h = absurd (let z : 1 ≤ 0 = m in omega arith)
      go (x ∷ numbers) (y ∷ levels) zero rest k m h = absurd (h refl)
      go (x ∷ numbers) (y ∷ levels) (suc n) rest k m h = refl

-- the active id is that of the first entry
pub active_listed : (queue : List Entry) → (length queue ≡ 0 → ⊥) → (first queue).id ∷ [] ≡ active queue
active_listed [] h = absurd (h refl)
active_listed (e ∷ queue) h = refl

pub none_last : (last state : State) (rest : List Entry) → length rest ≡ 0 → while_any last state rest ≡ last
none_last last state [] h = refl
none_last last state (e ∷ rest) h = absurd (let z : suc (length rest) ≡ 0 = h in omega arith)

pub some_stays : (last state : State) (rest : List Entry) → (length rest ≡ 0 → ⊥) → while_any last state rest ≡ state
some_stays last state [] h = absurd (h refl)
some_stays last state (e ∷ rest) h = refl

pub none_listed : Lists [] no_ids
none_listed = record { shown = refl; counted = refl; few = omega arith }

pub none_outstanding : list_of empty_queue ≡ []
none_outstanding = none_in empty_queue refl

-- whatever the numbers, the thresholds that they tell are levels
first_levels : (n : ℕ) (numbers levels : List ℕ) → are_levels (take n (entries_of numbers levels)) ≡ true
first_levels zero numbers levels = refl
first_levels (suc n) [] levels = refl
first_levels (suc n) (h ∷ numbers) [] = refl
first_levels (suc n) (h ∷ numbers) (m ∷ levels) = rw (le-leb (level_in m) 1000000 (omega arith)) (first_levels n numbers levels)

pad_levels : (n : ℕ) → are_levels (replicate n no_entry) ≡ true
pad_levels zero = refl
pad_levels (suc n) = pad_levels n

pub all_levels : (q : Queue) → are_levels (list_of q) ≡ true
unfolding list_of
all_levels q =
    all_append (λ (e : Entry). leb e.threshold 1000000) (take q.count (entries_in q)) (replicate (q.count - 16) no_entry)
    (first_levels q.count q.numbers q.thresholds) (pad_levels (q.count - 16))

pub first_level : (q : Queue) → (first (list_of q)).threshold ≤ 1000000
first_level q = go (list_of q) (all_levels q)
  where
    go : (l : List Entry) → are_levels l ≡ true → (first l).threshold ≤ 1000000
    go [] h = lit≤ tt
    go (e ∷ l) h = leb-true e.threshold 1000000 (both (leb e.threshold 1000000) (are_levels l) h).0
