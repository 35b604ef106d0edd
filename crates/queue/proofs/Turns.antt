-- One turn of each loop over a queue. Assumes nothing.
use Prim.Native.Nat.{ℕ, ◌+◌, ◌≤◌, ◌<◌}
use mathlib.Core.Path.{◌≡◌, sym, ap, ◌∙◌}
use mathlib.Core.Bool.{Bool, true, false, beq}
use mathlib.Core.List.{List, [], ◌∷◌, ◌++◌, append-nil, append_assoc, map-append}
use native.Mathlib.Numerals.{add-one}
use native.Mathlib.Omega.{arith}
use lib.Dec.{leb}
use lib.ListN.{length, take, drop, get_or, set, drop_of_length-le, length-take}
use lib.Seq.{drop-cons, take-suc, take-suc-set, get_or-take}
use borrow.Author.Tests.{le-leb, lt-leb}
use Rattle.lists.specs.Lists.{bit, ascends}
use Rattle.synth.specs.Channel.{ids}
use Rattle.synth.specs.declared.Entry.{Entry}
use Rattle.queue.specs.Queue.{no_entry, id_in, entries_of, marked}
use Rattle.queue.proofs.Queues.{entries_long, entry_at, entry_set, ids_in}

module _ {A : Type 0} (l : List A) (n i : ℕ) where
  -- what is left of the first n
  pub take_left : (d : A) → i < n → n ≤ length l → drop i (take n l) ≡ get_or l i d ∷ drop (i + 1) (take n l)
  take_left d h k =
      let m : i < length (take n l) = simp length-take (omega arith) in
      rw (add-one i, drop-cons (take n l) i d, get_or-take n l i d)

  pub none_left : n ≤ i → drop i (take n l) ≡ []
  none_left h = drop_of_length-le (take n l) {i = i} (simp length-take (omega arith))

-- the ids so far rise, and the next is to be at least `from`
module _ (numbers : List ℕ) (i from end : ℕ) where
  pub rising_stop : i < length numbers → id_in (get_or numbers i 0) < from → ascends from (ids_in (drop i numbers)) end ≡ false
  rising_stop h s = rw (drop-cons numbers i 0 h, lt-leb from (id_in (get_or numbers i 0)) s)

  pub rising_more : i < length numbers → from ≤ id_in (get_or numbers i 0)
      → ascends from (ids_in (drop i numbers)) end ≡ ascends (id_in (get_or numbers i 0) + 1) (ids_in (drop (i + 1) numbers)) end
  rising_more h s =
      rw (add-one i, drop-cons numbers i 0 h, le-leb from (id_in (get_or numbers i 0)) s, add-one (id_in (get_or numbers i 0)))

  pub rising_done : length numbers ≤ i → ascends from (ids_in (drop i numbers)) end ≡ leb from end
  rising_done h = rw (drop_of_length-le numbers {i = i} h)

-- one id more
pub ids_more : (numbers l : List ℕ) (i : ℕ) → i < length numbers → i < length l → take i l ≡ ids_in (take i numbers)
    → take (i + 1) (set l i (id_in (get_or numbers i 0))) ≡ ids_in (take (i + 1) numbers)
ids_more numbers l i h k e = rw (add-one i, take-suc-set l i, take-suc numbers i 0 h, e, map-append)

-- k entries are kept, or the ids of k listed, and those from place i on are left to do
module _ (mask : ℕ) (queue : List Entry) (n i k : ℕ) (h : i < n) (fits : n ≤ length queue) where
  -- the entry at i is passed over
  other : (want : Bool) → beq (bit mask i) want ≡ false
      → marked want mask i (drop i (take n queue)) ≡ marked want mask (i + 1) (drop (i + 1) (take n queue))
  other want e = rw (take_left queue n i no_entry h fits, e, add-one i)

  kept : (r : List Entry) → k < length r → bit mask i ≡ false
      → take k r ++ marked false mask i (drop i (take n queue))
      ≡ take (k + 1) (set r k (get_or queue i no_entry)) ++ marked false mask (i + 1) (drop (i + 1) (take n queue))
  kept r room e = rw (take_left queue n i no_entry h fits, e, add-one k, take-suc-set r k, append_assoc, add-one i)

  listed : (l : List ℕ) → k < length l → bit mask i ≡ true
      → take k l ++ ids (marked true mask i (drop i (take n queue)))
      ≡ take (k + 1) (set l k (get_or queue i no_entry).id) ++ ids (marked true mask (i + 1) (drop (i + 1) (take n queue)))
  listed l room e = rw (take_left queue n i no_entry h fits, e, add-one k, take-suc-set l k, append_assoc, add-one i)

-- the same of numbers with their thresholds
module _ (mask : ℕ) (old levels : List ℕ) (many : length levels ≡ length old) (n i k : ℕ) (h : i < n) (fits : n ≤ length old) where
  abbrev queue : List Entry
  queue = entries_of old levels

  within_old : n ≤ length queue
  within_old = rw (entries_long old levels many) fits

  pub passed : (want : Bool) → beq (bit mask i) want ≡ false
      → marked want mask i (drop i (take n queue)) ≡ marked want mask (i + 1) (drop (i + 1) (take n queue))
  passed = other mask queue n i k h within_old

  pub number_kept : (numbers thresholds : List ℕ) → length thresholds ≡ length numbers → k < length numbers → bit mask i ≡ false
      → take k (entries_of numbers thresholds) ++ marked false mask i (drop i (take n queue))
      ≡ take (k + 1) (entries_of (set numbers k (get_or old i 0)) (set thresholds k (get_or levels i 0))) ++ marked false mask (i + 1) (drop (i + 1) (take n queue))
  number_kept numbers thresholds same room e =
      kept mask queue n i k h within_old (entries_of numbers thresholds) (rw (entries_long numbers thresholds same) room) e
      ∙ ap (λ (r : List Entry). take (k + 1) r ++ marked false mask (i + 1) (drop (i + 1) (take n queue)))
      (ap (set (entries_of numbers thresholds) k) (entry_at old levels i many) ∙ sym (entry_set numbers thresholds k (get_or old i 0) (get_or levels i 0) same))

  pub id_listed : (l : List ℕ) → k < length l → bit mask i ≡ true
      → take k l ++ ids (marked true mask i (drop i (take n queue)))
      ≡ take (k + 1) (set l k (id_in (get_or old i 0))) ++ ids (marked true mask (i + 1) (drop (i + 1) (take n queue)))
  id_listed l room e =
      listed mask queue n i k h within_old l room e
      ∙ ap (λ (x : Entry). take (k + 1) (set l k x.id) ++ ids (marked true mask (i + 1) (drop (i + 1) (take n queue)))) (entry_at old levels i many)

module _ (mask : ℕ) (queue : List Entry) (n i k : ℕ) (h : n ≤ i) where
  pub all_kept_lem : (r : List Entry) → take k r ++ marked false mask i (drop i (take n queue)) ≡ take k r
  all_kept_lem r = rw (none_left queue n i h, append-nil)

  pub all_listed : (l : List ℕ) → take k l ++ ids (marked true mask i (drop i (take n queue))) ≡ take k l
  all_listed l = rw (none_left queue n i h, append-nil)
