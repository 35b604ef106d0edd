-- One turn of each loop that loads, and what numbers that do not fit say. Assumes nothing.
use Prim.Native.Nat.{ℕ, zero, suc, ◌+◌, ◌/◌, ◌%◌, ◌^◌, ◌≤◌, ◌<◌}
use mathlib.Core.Path.{◌≡◌, refl, sym, ap, ap₂, ◌∙◌}
use mathlib.Core.Bool.{Bool, true, false, ◌&&◌, ◌||◌, false≢true, cond}
use mathlib.Core.Logic.{⊎_elim}
use mathlib.Core.Option.{Option, none, some}
use mathlib.Core.List.{List, [], ◌∷◌, ◌++◌, map, map-append, map-id}
use native.Mathlib.Nat.{add-zero, add-suc, suc-add, le_trans, lt_of_le_of_lt}
use native.Mathlib.Numerals.{add-one}
use native.Mathlib.Omega.{arith}
use lib.Bits.{bit_or, or_lt, or_add_and, and_le_l, and_le_r}
use lib.Dec.{eqb, leb, ltb}
use lib.ListN.{length, take, get_or, set, replicate, length-append, length-map, length-take, length-replicate}
use lib.Seq.{take-suc-set}
use borrow.Author.Tests.{lt-ltb, ltb-true, le-leb, leb-true, eqb-true}
use Rattle.std.specs.declared.option.Option as O
use Rattle.lists.specs.Lists.{all}
use Rattle.lists.proofs.Tests.{both, either, refuted}
use Rattle.lists.proofs.Scans.{all_append, all_of}
use Rattle.octets.specs.Octets.{within, is_value}
use Rattle.answer.specs.declared.Kind.{Kind}
use Rattle.synth.specs.Kinds.{most}
use Rattle.synth.specs.Settings.{newest}
use Rattle.synth.specs.Channel.{View, kind, ids, first_above, are_levels, are_editions, shaped, sound}
use Rattle.synth.specs.declared.State.{State}
use Rattle.synth.specs.declared.Entry.{Entry}
use Rattle.synth.specs.declared.Edition.{Edition}
use Rattle.synth.proofs.Channels.{Small, small_by, most_16, sound_facts, held_small}
use Rattle.synth.proofs.Names as S
use Rattle.queue.specs.Queue.{kill_in, entry_in, entries_of, list_of}
use Rattle.queue.proofs.Queues.{level_same, entries_long, within as within_queue}
use Rattle.channelnames.specs.Names.{name_of, kind_by}
use Rattle.channelnames.proofs.Fits.{name_fits_lem}
use Rattle.channelnames.proofs.Names.{within as within_name}
use Rattle.channelnames.proofs.Tails.{named_kind}
use Rattle.channel.specs.Channel.{view}
use Rattle.channel.specs.declared.Channel.{Channel}
use Rattle.channel.proofs.Parts.{shape_named, shape_few, unshaped, shaped_sound}
use Rattle.channelnumbers.specs.Numbers.{state_at, last_at, entry_at, leveled, numbers_at, entries_at, editions_in, name_in, view_with, view_at, view_of, is_sound, is_entry, is_byte}
use Rattle.channelnumbers.specs.Steps.{threshold_count}
use Rattle.channelnumbers.proofs.Theorems.LoadSaved.{sound_few}
use Rattle.loading.specs.Loading.{Loads}
use Rattle.loading.specs.Steps.{front_fits, entries_fit, levels_fit, queue_fits, name_fits, editions_kept, or_none, LoadsPart}

numbers_count : (at n : ℕ) (ws : List ℕ) → length (numbers_at at n ws) ≡ n
numbers_count at zero ws = refl
numbers_count at (suc n) ws = ap suc (numbers_count (suc at) n ws)

-- one number more
numbers_more : (at n : ℕ) (ws : List ℕ) → numbers_at at (n + 1) ws ≡ numbers_at at n ws ++ get_or ws (at + n) 0 ∷ []
numbers_more at n ws = rw (add-one n) (go at n)
  where
    go : (at n : ℕ) → numbers_at at (suc n) ws ≡ numbers_at at n ws ++ get_or ws (at + n) 0 ∷ []
    go at zero = rw (add-zero at)
    go at (suc n) = ap (λ (l : List ℕ). get_or ws at 0 ∷ l) (go (suc at) n ∙ ap (λ (k : ℕ). numbers_at (suc at) n ws ++ get_or ws k 0 ∷ []) (suc-add at n ∙ sym (add-suc at n)))

-- one more that was tested
module _ (test : ℕ → Bool) (ws : List ℕ) (at : ℕ) where
  pub all_more : (i : ℕ) → all test (numbers_at at i ws) ≡ true → test (get_or ws (at + i) 0) ≡ true → all test (numbers_at at (i + 1) ws) ≡ true
  all_more i h e = rw (numbers_more at i ws) (all_append test (numbers_at at i ws) (get_or ws (at + i) 0 ∷ []) h (rw e))

-- all of some and of one more
all_last : {A : Type 0} (test : A → Bool) (l : List A) (x : A) → all test (l ++ x ∷ []) ≡ true → (all test l ≡ true) × (test x ≡ true)
all_last test [] x h = (refl, (both (test x) true h).0)
all_last test (y ∷ l) x h =
    let p = both (test y) (all test (l ++ x ∷ [])) h in
    let q = all_last test l x p.1 in
    (rw (p.0, q.0), q.1)

-- one element more of an array
loaded_more : {A : Type 0} (f : ℕ → A) (at : ℕ) (ws : List ℕ) (r : List A) (i : ℕ) → i < length r → take i r ≡ map f (numbers_at at i ws)
    → take (i + 1) (set r i (f (get_or ws (at + i) 0))) ≡ map f (numbers_at at (i + 1) ws)
loaded_more f at ws r i k e = rw (numbers_more at i ws, map-append, add-one i, take-suc-set r i, e)

-- what a loop gathers is below 2^k exactly while each number is, and then they are what was loaded
pub record Gathered {A : Type 0} (k : ℕ) (f : ℕ → A) (at : ℕ) (ws : List ℕ) (l : List A) (bits i : ℕ) : Type 0 where
  pub fit : bits < 2 ^ k → (all (λ n. ltb n (2 ^ k)) (numbers_at at i ws) ≡ true) × (take i l ≡ map f (numbers_at at i ws))
  pub below : all (λ n. ltb n (2 ^ k)) (numbers_at at i ws) ≡ true → bits < 2 ^ k

or_above : (a b : ℕ) → (a ≤ bit_or a b) × (b ≤ bit_or a b)
or_above a b = let e = or_add_and a b in let l = and_le_l a b in let r = and_le_r a b in (omega (arith, e, r), omega (arith, e, l))

module _ {A : Type 0} {k : ℕ} {f : ℕ → A} {at : ℕ} (ws : List ℕ) (l : List A) where
  pub gathered_none : 0 < 2 ^ k → Gathered k f at ws l 0 0
  gathered_none h = record { fit = λ z. (refl, refl); below = λ z. h }

  pub gathered_more : (bits i : ℕ) (e : A) → i < length l → (get_or ws (at + i) 0 < 2 ^ k → e ≡ f (get_or ws (at + i) 0))
      → Gathered k f at ws l bits i → Gathered k f at ws (set l i e) (bit_or bits (get_or ws (at + i) 0)) (i + 1)
  gathered_more bits i e h is s = record {
    fit = λ z.
        let above = or_above bits (get_or ws (at + i) 0) in
        let q = s.fit (lt_of_le_of_lt above.0 z) in
        let t = lt_of_le_of_lt above.1 z in
        (all_more (λ n. ltb n (2 ^ k)) ws at i q.0 (lt-ltb (get_or ws (at + i) 0) (2 ^ k) t), rw (is t) (loaded_more f at ws l i h q.1));
    below = λ a.
        let q = all_last (λ n. ltb n (2 ^ k)) (numbers_at at i ws) (get_or ws (at + i) 0) (rw (numbers_more at i ws) at a) in
        or_lt k bits (get_or ws (at + i) 0) (s.below q.0) (ltb-true (get_or ws (at + i) 0) (2 ^ k) q.1);
  }

pub regroup : (a b c : Bool) → (a && b && c) ≡ (a && (b && c))
regroup true b c = refl
regroup false b c = refl

last_on : (a : Bool) → a ≡ (a && true)
last_on true = refl
last_on false = refl

all_snoc : (test : ℕ → Bool) (l : List ℕ) (x : ℕ) → all test (l ++ x ∷ []) ≡ (all test l && test x)
all_snoc test [] x = sym (last_on (test x))
all_snoc test (y ∷ l) x = ap (λ (b : Bool). test y && b) (all_snoc test l x) ∙ sym (regroup (test y) (all test l) (test x))

abbrev is_level : ℕ → Bool
is_level n = ltb n 1000001

-- what the loop over the thresholds tests, and what it stores where all that it tested are levels
pub record Leveled (start : Bool) (ws levels : List ℕ) (fits : Bool) (i : ℕ) : Type 0 where
  pub tested : fits ≡ (start && levels_fit i ws)
  pub stored : fits ≡ true → take i levels ≡ numbers_at 12 i ws

pub leveled_none : (start : Bool) (ws levels : List ℕ) → Leveled start ws levels start 0
leveled_none start ws levels = record { tested = last_on start; stored = λ z. refl }

pub leveled_more : (start : Bool) (ws levels : List ℕ) (fits after : Bool) (i e : ℕ) → i < length levels
    → after ≡ (fits && is_level (get_or ws (12 + i) 0)) → (get_or ws (12 + i) 0 < 4294967296 → e ≡ get_or ws (12 + i) 0)
    → Leveled start ws levels fits i → Leveled start ws (set levels i e) after (i + 1)
leveled_more start ws levels fits after i e h f is s =
    let x : ℕ = get_or ws (12 + i) 0 in
    let more : levels_fit (i + 1) ws ≡ (levels_fit i ws && is_level x) = ap (all is_level) (numbers_more 12 i ws) ∙ all_snoc is_level (numbers_at 12 i ws) x in
    record {
      tested = f
          ∙ ap (λ (b : Bool). b && is_level x) s.tested
          ∙ regroup start (levels_fit i ws) (is_level x)
          ∙ ap (λ (b : Bool). start && b) (sym more);
      stored = λ z.
          let p = both fits (is_level x) (sym f ∙ z) in
          let small : x < 4294967296 = omega (arith, ltb-true x 1000001 p.1) in
          rw (is small, numbers_more 12 i ws, add-one i, take-suc-set levels i, s.stored p.0);
    }

-- entries with thresholds
leveled_ids : (q : List Entry) (l : List ℕ) → length q ≡ length l → ids (leveled q l) ≡ ids q
leveled_ids [] l e = refl
leveled_ids (x ∷ q) [] e = absurd (let z : suc (length q) ≡ 0 = e in omega arith)
leveled_ids (x ∷ q) (n ∷ l) e = ap (λ (r : List ℕ). x.id ∷ r) (leveled_ids q l (omega (arith, e)))

-- the entries of either kind
module _ (n : ℕ) (ws : List ℕ) where
  abbrev bare : List Entry
  bare = map entry_at (numbers_at 4 n ws)

  bare_count : length bare ≡ n
  bare_count = length-map (numbers_at 4 n ws) entry_at ∙ numbers_count 4 n ws

  as_many : length bare ≡ length (numbers_at 12 n ws)
  as_many = bare_count ∙ sym (numbers_count 12 n ws)

  entries_ids : (kind : Kind) → ids (entries_at kind n ws) ≡ ids bare
  entries_ids Kind.Synthesizer = refl
  entries_ids Kind.Recognizer = leveled_ids bare (numbers_at 12 n ws) as_many

  entries_count : (kind : Kind) → length (entries_at kind n ws) ≡ n
  entries_count kind =
      sym (length-map (entries_at kind n ws) (λ (e : Entry). e.id))
      ∙ ap length (entries_ids kind)
      ∙ length-map bare (λ (e : Entry). e.id)
      ∙ bare_count

-- the front's tests, one by one
pub record Front (kind : Kind) (ws : List ℕ) : Type 0 where
  pub state : get_or ws 0 0 ≤ 4
  pub last : get_or ws 1 0 ≤ 4294967296
  pub few : get_or ws 2 0 ≤ most kind
  pub editions : editions_kept kind (editions_in kind ws) ≡ true

front_facts : (kind : Kind) (ws : List ℕ) → front_fits kind ws ≡ true → Front kind ws
front_facts kind ws e =
    let o = both (leb (get_or ws 0 0) 4 && leb (get_or ws 1 0) 4294967296 && leb (get_or ws 2 0) (most kind)) (editions_kept kind (editions_in kind ws)) e in
    let p = both (leb (get_or ws 0 0) 4 && leb (get_or ws 1 0) 4294967296) (leb (get_or ws 2 0) (most kind)) o.0 in
    let q = both (leb (get_or ws 0 0) 4) (leb (get_or ws 1 0) 4294967296) p.0 in
    record {
      state = leb-true (get_or ws 0 0) 4 q.0;
      last = leb-true (get_or ws 1 0) 4294967296 q.1;
      few = leb-true (get_or ws 2 0) (most kind) p.1;
      editions = o.1;
    }

front_few : (kind : Kind) (ws : List ℕ) → front_fits kind ws ≡ true → get_or ws 2 0 ≤ 16
front_few kind ws e = le_trans (front_facts kind ws e).few (most_16 kind)

-- a queue and a name that no sound channel has
too_many : (numbers levels : List ℕ) → length numbers ≡ 16 → length levels ≡ 16
    → 16 < length (list_of (record { numbers = numbers; thresholds = levels; count = 17 }))
unfolding list_of
too_many numbers levels e f =
    let long : length (entries_of numbers levels) ≡ 16 = entries_long numbers levels (f ∙ sym e) ∙ e in
    simp (length-append, length-take, length-replicate, long) (omega arith)

too_long : (bytes : List ℕ) → length bytes ≡ 44 → 44 < length (name_of (record { bytes = bytes; size = 45 }))
unfolding name_of
too_long bytes e = simp (length-append, length-take, length-replicate, e) (omega arith)

module _ {A : Type 0} {fits : Bool} {said : List A} {most : ℕ} {loaded : List A} where
  pub part_fits : fits ≡ true → loaded ≡ said → LoadsPart fits said most loaded
  part_fits f e = record { fit = λ z. e; unfit = λ z. absurd (false≢true (sym z ∙ f)) }

  pub part_unfit : (fits ≡ true → ⊥) → most < length loaded → LoadsPart fits said most loaded
  part_unfit f h = record { fit = λ z. absurd (f z); unfit = λ z. h }

none_some : {A : Type 0} {x : A} → none ≡ some x → ⊥
none_some {A} e = false≢true (ap (λ (o : Option A). elim o [ none ↦ false | some s ↦ true ]) e)

state_within : (n : ℕ) (state : State) → state_at n ≡ some state → n ≤ 4
state_within zero state e = omega arith
state_within (suc zero) state e = omega arith
state_within (suc (suc zero)) state e = omega arith
state_within (suc (suc (suc zero))) state e = omega arith
state_within (suc (suc (suc (suc zero)))) state e = omega arith
state_within (suc (suc (suc (suc (suc n))))) state e = absurd (none_some e)

above_is : (n : ℕ) → first_above (last_at n) ≡ n
above_is zero = refl
above_is (suc n) = refl

small_entries : (l : List ℕ) → Small (ids (map entry_at l)) → all is_entry l ≡ true
small_entries [] h = refl
small_entries (n ∷ l) (h, t) =
    let below : n / 2 < 4294967296 = h in
    rw (lt-ltb n 8589934592 (omega (arith, below)), small_entries l t)

value_byte : (b : ℕ) → is_value b ≡ true → is_byte b ≡ true
value_byte b h =
    ⊎_elim {C = is_byte b ≡ true}
    (λ e. ⊎_elim {C = is_byte b ≡ true}
    (λ f. lt-ltb b 256 (omega (arith, leb-true b 126 (both (leb 32 b) (leb b 126) f).1)))
    (λ f. lt-ltb b 256 (omega (arith, eqb-true b 9 f)))
    (either (within 32 126 b) (eqb b 9) e))
    (λ f. lt-ltb b 256 (omega (arith, leb-true b 255 (both (leb 128 b) (leb b 255) f).1)))
    (either (within 32 126 b || eqb b 9) (within 128 255 b) h)

take_entries : (n : ℕ) (numbers levels : List ℕ) → take n (entries_of numbers levels) ≡ entries_of (take n numbers) (take n levels)
take_entries zero numbers levels = refl
take_entries (suc n) [] levels = refl
take_entries (suc n) (h ∷ numbers) [] = refl
take_entries (suc n) (h ∷ numbers) (m ∷ levels) = ap (λ (l : List Entry). entry_in h m ∷ l) (take_entries n numbers levels)

-- the number of an entry tells it, with no threshold and with its own
entry_told : (n m : ℕ) → is_entry n ≡ true → m ≤ 1000000 → entry_in n m ≡ record { id = n / 2; kill = kill_in n; threshold = m }
entry_told n m t h =
    let small : n < 8589934592 = ltb-true n 8589934592 t in
    let id : n / 2 % 4294967296 ≡ n / 2 = omega (arith, small) in
    λ i. record { id = id i; kill = kill_in n; threshold = level_same m h i }

bare_told : (l : List ℕ) (n : ℕ) → all is_entry l ≡ true → length l ≤ n → entries_of l (take (length l) (replicate n 0)) ≡ map entry_at l
bare_told [] n t h = refl
bare_told (x ∷ l) zero t h = absurd (omega arith)
bare_told (x ∷ l) (suc n) t h =
    let p = both (is_entry x) (all is_entry l) t in
    ap₂ (λ (e : Entry) (r : List Entry). e ∷ r) (entry_told x 0 p.0 (omega arith)) (bare_told l n p.1 (omega arith))

leveled_told : (l m : List ℕ) → all is_entry l ≡ true → all is_level m ≡ true → entries_of l m ≡ leveled (map entry_at l) m
leveled_told [] m t u = refl
leveled_told (x ∷ l) [] t u = refl
leveled_told (x ∷ l) (y ∷ m) t u =
    let p = both (is_entry x) (all is_entry l) t in
    let q = both (is_level y) (all is_level m) u in
    ap₂ (λ (e : Entry) (r : List Entry). e ∷ r) (entry_told x y p.0 (omega (arith, ltb-true y 1000001 q.0))) (leveled_told l m p.1 q.1)

-- the thresholds that are told are levels exactly where their numbers are
levels_told : (l m : List ℕ) → length l ≡ length m → are_levels (leveled (map entry_at l) m) ≡ true → all is_level m ≡ true
levels_told [] [] e h = refl
levels_told [] (y ∷ m) e h = absurd (let z : 0 ≡ suc (length m) = e in omega arith)
levels_told (x ∷ l) [] e h = absurd (let z : suc (length l) ≡ 0 = e in omega arith)
levels_told (x ∷ l) (y ∷ m) e h =
    let p = both (leb y 1000000) (are_levels (leveled (map entry_at l) m)) h in
    rw (lt-ltb y 1000001 (omega (arith, leb-true y 1000000 p.0)), levels_told l m (omega (arith, e)) p.1)

-- the queue that both loops leave
module _ (ws : List ℕ) where
  abbrev count : ℕ
  count = get_or ws 2 0

  queue_fits_lem : (kind : Kind) → entries_fit kind ws ≡ true → are_levels (entries_at kind count ws) ≡ true → queue_fits kind ws ≡ true
  queue_fits_lem Kind.Synthesizer e f = e
  queue_fits_lem Kind.Recognizer e f =
      let size : length (numbers_at 4 count ws) ≡ length (numbers_at 12 count ws) = numbers_count 4 count ws ∙ sym (numbers_count 12 count ws) in
      rw (e, levels_told (numbers_at 4 count ws) (numbers_at 12 count ws) size f)

  fits_entries : (kind : Kind) → queue_fits kind ws ≡ true → (entries_fit kind ws ≡ true) × (levels_fit (threshold_count kind count) ws ≡ true)
  fits_entries Kind.Synthesizer e = (e, refl)
  fits_entries Kind.Recognizer e = both (entries_fit Kind.Recognizer ws) (levels_fit count ws) e

  loaded_entries : (kind : Kind) (numbers levels : List ℕ) → count ≤ 16 → all is_entry (numbers_at 4 count ws) ≡ true
      → take count numbers ≡ map (λ (n : ℕ). n) (numbers_at 4 count ws) → levels_fit (threshold_count kind count) ws ≡ true
      → take (threshold_count kind count) levels ≡ numbers_at 12 (threshold_count kind count) ws
      → (threshold_count kind count ≡ 0 → levels ≡ replicate 16 0) → take count (entries_of numbers levels) ≡ entries_at kind count ws
  loaded_entries Kind.Synthesizer numbers levels few t h u l unset =
      let size : length (numbers_at 4 count ws) ≡ count = numbers_count 4 count ws in
      take_entries count numbers levels
      ∙ ap₂ entries_of (h ∙ map-id (numbers_at 4 count ws)) (ap (take count) (unset refl) ∙ ap (λ (n : ℕ). take n (replicate 16 0)) (sym size))
      ∙ bare_told (numbers_at 4 count ws) 16 t (rw size few)
  loaded_entries Kind.Recognizer numbers levels few t h u l unset =
      take_entries count numbers levels
      ∙ ap₂ entries_of (h ∙ map-id (numbers_at 4 count ws)) l
      ∙ leveled_told (numbers_at 4 count ws) (numbers_at 12 count ws) t u

  queue_unfit : (kind : Kind) → front_fits kind ws ≡ false → queue_fits kind ws ≡ true → ⊥
  queue_unfit kind f e = false≢true (sym f ∙ (both (front_fits kind ws) (all is_entry (numbers_at 4 count ws)) (fits_entries kind e).0).0)

  -- both loops at their ends
  module _ (kind : Kind) {numbers : List ℕ} {bits : ℕ} (e : Gathered 33 (λ (n : ℕ). n) 4 ws numbers bits count) where
    bits_fit : front_fits kind ws ≡ true → bits < 8589934592 → levels_fit (threshold_count kind count) ws ≡ true → queue_fits kind ws ≡ true
    bits_fit f y z = go kind f z
      where
        each : all is_entry (numbers_at 4 count ws) ≡ true
        each = (e.fit y).0

        go : (kind : Kind) → front_fits kind ws ≡ true → levels_fit (threshold_count kind count) ws ≡ true → queue_fits kind ws ≡ true
        go Kind.Synthesizer f t = rw (f, each)
        go Kind.Recognizer f t = rw (f, each, t)

    fit_bits : queue_fits kind ws ≡ true → bits < 8589934592
    fit_bits f = e.below (both (front_fits kind ws) (all is_entry (numbers_at 4 count ws)) (fits_entries kind f).0).1

    queue_listed : {levels : List ℕ} → count ≤ 16 → (threshold_count kind count ≡ 0 → levels ≡ replicate 16 0) → bits < 8589934592
        → levels_fit (threshold_count kind count) ws ≡ true → take (threshold_count kind count) levels ≡ numbers_at 12 (threshold_count kind count) ws
        → list_of (record { numbers = numbers; thresholds = levels; count = count }) ≡ entries_at kind count ws
    queue_listed {levels} few unset y z l =
        within_queue (record { numbers = numbers; thresholds = levels; count = count }) few
        ∙ loaded_entries kind numbers levels few (e.fit y).0 (e.fit y).1 z l unset

  -- what the counts make of it, `fits` being whether the front does
  pub count_most : (kind : Kind) (fits : Bool) → fits ≡ front_fits kind ws → cond fits count 0 ≤ most kind
  count_most kind true e = (front_facts kind ws (sym e)).few
  count_most kind false e = omega arith

  module _ (kind : Kind) (numbers levels : List ℕ) (shown : ℕ) (long : length numbers ≡ 16) (leveled-long : length levels ≡ 16) where
    abbrev QueueLoaded : Type 0
    QueueLoaded = LoadsPart (queue_fits kind ws) (entries_at kind count ws) 16 (list_of (record { numbers = numbers; thresholds = levels; count = shown }))

    queue_past : shown ≡ 17 → (queue_fits kind ws ≡ true → ⊥) → QueueLoaded
    queue_past c unfit = rw c (part_unfit unfit (too_many numbers levels long leveled-long))

    module _ {bits : ℕ} (front : front_fits kind ws ≡ true) (e : Gathered 33 (λ (n : ℕ). n) 4 ws numbers bits count)
        (unset : threshold_count kind count ≡ 0 → levels ≡ replicate 16 0) where
      queue_front : (y : Bool) → ltb bits 8589934592 ≡ y → (z : Bool) → levels_fit (threshold_count kind count) ws ≡ z
          → ((y && z) ≡ true → take (threshold_count kind count) levels ≡ numbers_at 12 (threshold_count kind count) ws)
          → shown ≡ cond (y && z) count 17 → QueueLoaded
      queue_front false p z q l c = queue_past c (λ t. false≢true (sym p ∙ lt-ltb bits 8589934592 (fit_bits kind e t)))
      queue_front true p false q l c = queue_past c (λ t. false≢true (sym q ∙ (fits_entries kind t).1))
      queue_front true p true q l c =
          let y = ltb-true bits 8589934592 p in
          rw c (part_fits (bits_fit kind e front y q) (queue_listed kind e (front_few kind ws front) unset y q (l refl)))

    pub queue_part : (fits : Bool) → fits ≡ front_fits kind ws → {m bits : ℕ} {some_fit all_fit : Bool} → m ≡ cond fits count 0
        → Gathered 33 (λ (n : ℕ). n) 4 ws numbers bits m → Leveled some_fit ws levels all_fit (threshold_count kind m)
        → (threshold_count kind m ≡ 0 → levels ≡ replicate 16 0) → some_fit ≡ (fits && ltb bits 8589934592)
        → shown ≡ cond all_fit m 17 → QueueLoaded
    queue_part false f {m} n e l unset g c =
        queue_past (c ∙ ap (λ (y : Bool). cond y m 17) (l.tested ∙ ap (λ (y : Bool). y && levels_fit (threshold_count kind m) ws) g)) (queue_unfit kind (sym f))
    queue_part true f {m} {bits} n e l unset g c =
        let r = rw (n, g) at l in
        queue_front (sym f) (rw n at e) (rw n at unset) (ltb bits 8589934592) refl (levels_fit (threshold_count kind count) ws) refl
        (λ t. r.stored (r.tested ∙ t)) (c ∙ ap₂ (λ (y : Bool) (k : ℕ). cond y k 17) r.tested n)

  -- the same of the name
  pub size_most : (fits : Bool) → fits ≡ leb (get_or ws 3 0) 44 → cond fits (get_or ws 3 0) 0 ≤ 44
  size_most true e = leb-true (get_or ws 3 0) 44 (sym e)
  size_most false e = omega arith

  abbrev named : List ℕ
  named = name_in ws

  abbrev made : Option (List Edition)
  made = editions_in (kind_by named) ws

  module _ (bytes : List ℕ) (shown : ℕ) (long : length bytes ≡ 44) where
    abbrev NameLoaded : Type 0
    NameLoaded = LoadsPart (name_fits ws) named 44 (name_of (record { bytes = bytes; size = shown }))

    name_past : shown ≡ 45 → (name_fits ws ≡ true → ⊥) → NameLoaded
    name_past c unfit = rw c (part_unfit unfit (too_long bytes long))

    name_front : leb (get_or ws 3 0) 44 ≡ true → {bits : ℕ} → Gathered 8 (λ (n : ℕ). n) 20 ws bytes bits (get_or ws 3 0) → (y : Bool) → ltb bits 256 ≡ y
        → shown ≡ cond y (get_or ws 3 0) 45 → NameLoaded
    name_front f {bits} e false p c =
        name_past c (λ t. false≢true (sym p ∙ lt-ltb bits 256 (e.below (both (leb (get_or ws 3 0) 44) (all is_byte named) t).1)))
    name_front f {bits} e true p c =
        let fit = e.fit (ltb-true bits 256 p) in
        rw c (part_fits (rw (f, fit.0)) (within_name (record { bytes = bytes; size = get_or ws 3 0 }) (leb-true (get_or ws 3 0) 44 f) ∙ fit.1 ∙ map-id named))

    pub name_part : (fits : Bool) → fits ≡ leb (get_or ws 3 0) 44 → {m bits : ℕ} {all_fit : Bool} → m ≡ cond fits (get_or ws 3 0) 0
        → Gathered 8 (λ (n : ℕ). n) 20 ws bytes bits m → all_fit ≡ (fits && ltb bits 256) → shown ≡ cond all_fit m 45 → NameLoaded
    name_part false f {m} n e g c =
        name_past (c ∙ ap (λ (y : Bool). cond y m 45) g) (λ z. false≢true (f ∙ (both (leb (get_or ws 3 0) 44) (all is_byte named) z).0))
    name_part true f {m} {bits} n e g c =
        name_front (sym f) (rw n at e) (ltb bits 256) refl (c ∙ ap₂ (λ (y : Bool) (k : ℕ). cond y k 45) g n)

  -- the numbers of a sound channel fit
  record Fit : Type 0 where
    queue : queue_fits (kind_by named) ws ≡ true
    name : name_fits ws ≡ true

  sound_fits : is_sound (view_of ws) ≡ true → Fit
  unfolding view_of
  sound_fits e = go (state_at (get_or ws 0 0)) refl made refl e
    where
      told : (state : State) (es : List Edition) → get_or ws 0 0 ≤ 4 → made ≡ some es → sound (view_with ws state es) ≡ true → Fit
      told state es within is e =
          let kind : Kind = kind_by named in
          let v : View = view_with ws state es in
          let f = sound_facts v e in
          let range : first_above (last_at (get_or ws 1 0)) ≤ 4294967296 = f.in_range_lem in
          let last : get_or ws 1 0 ≤ 4294967296 = omega (arith, range, above_is (get_or ws 1 0)) in
          let few : count ≤ most kind = rw (entries_count count ws kind) at (sound_few v e) in
          let size : get_or ws 3 0 ≤ 44 = rw (numbers_count 20 (get_or ws 3 0) ws) at (name_fits_lem named f.named) in
          let small : Small (ids (map entry_at (numbers_at 4 count ws))) = rw (entries_ids count ws kind) at (small_by (ids (entries_at kind count ws)) (held_small f)) in
          let entries : all is_entry (numbers_at 4 count ws) ≡ true = small_entries (numbers_at 4 count ws) small in
          let bytes : all is_byte named ≡ true = all_of is_value is_byte value_byte named (S.name_fits_lem named f.named).values in
          let kept : editions_kept kind made ≡ true = ap (editions_kept kind) is ∙ ap (λ (k : Kind). are_editions k es) (sym (named_kind named f.named)) ∙ f.editions_fit in
          record {
            queue = queue_fits_lem kind (rw (le-leb (get_or ws 0 0) 4 within, le-leb (get_or ws 1 0) 4294967296 last, le-leb count (most kind) few, kept, entries)) f.thresholds_fit;
            name = rw (le-leb (get_or ws 3 0) 44 size, bytes);
          }

      go : (o : Option State) → state_at (get_or ws 0 0) ≡ o → (es : Option (List Edition)) → made ≡ es → is_sound (view_at ws o es) ≡ true → Fit
      go none p es q e = absurd (false≢true e)
      go (some state) p none q e = absurd (false≢true e)
      go (some state) p (some es) q e = told state es (state_within (get_or ws 0 0) state p) q e

  told_editions : (o : Option (List Edition)) → editions_kept (kind_by named) o ≡ true
      → (o ≡ some (or_none o)) × (are_editions (kind_by named) (or_none o) ≡ true)
  told_editions none e = absurd (false≢true e)
  told_editions (some es) e = (refl, e)

  -- the parts are those of the channel that the numbers are, or numbers and channel are not sound
  module _ (last : O.Option ℕ) (c : Channel) (set : Edition)
      (n : LoadsPart (name_fits ws) named 44 (name_of c.name))
      (q : LoadsPart (queue_fits (kind_by (name_of c.name)) ws) (entries_at (kind_by (name_of c.name)) count ws) 16 (list_of c.queue))
      (s : get_or ws 0 0 ≤ 4 → state_at (get_or ws 0 0) ≡ some c.state) (l : get_or ws 1 0 ≤ 4294967296 → last ≡ last_at (get_or ws 1 0))
      (m : editions_kept (kind_by (name_of c.name)) (editions_in (kind_by (name_of c.name)) ws) ≡ true
      → newest (or_none (editions_in (kind_by (name_of c.name)) ws)) ≡ set) where
    abbrev Loading : Type 0
    Loading = Loads ws (record { last = last; channel = c; set = set })

    -- whatever the editions are
    neither : (Fit → ⊥) → (shaped (view last c (set ∷ [])) ≡ true → ⊥) → Loading
    neither e f =
        let v : View = view last c (set ∷ []) in
        let none : is_sound (view_of ws) ≡ false = refuted (is_sound (view_of ws)) (λ z. e (sound_fits z)) in
        let un : shaped v ≡ false = refuted (shaped v) f in
        record {
          editions = set ∷ [];
          set = refl;
          fit = unshaped v un ∙ sym un;
          soundness = none ∙ sym (unshaped v un);
          same = λ z. absurd (false≢true (sym none ∙ z));
          stand = λ z. absurd (false≢true (sym none ∙ z));
        }

    -- editions that fit: soundness is the shape
    by_shape : (es : List Edition) → are_editions (kind_by (name_of c.name)) es ≡ true
        → sound (view last c es) ≡ shaped (view last c es)
    by_shape es h = go (shaped (view last c es)) refl
      where
        go : (b : Bool) → shaped (view last c es) ≡ b → sound (view last c es) ≡ shaped (view last c es)
        go false e = unshaped (view last c es) e ∙ sym e
        go true e =
            sym (shaped_sound last c es e)
            ∙ ap (λ (k : Kind). are_editions k es) (named_kind (name_of c.name) (shape_named (view last c es) e)) ∙ h ∙ sym e

    pub loads : Loading
    unfolding view_of
    loads = go (name_fits ws) refl (queue_fits (kind_by named) ws) refl
      where
        go : (a : Bool) → name_fits ws ≡ a → (b : Bool) → queue_fits (kind_by named) ws ≡ b → Loading
        go false f b e = neither (λ z. false≢true (sym f ∙ z.name))
            (λ z. omega (arith, name_fits_lem (name_of c.name) (shape_named (view last c (set ∷ [])) z), n.unfit f))
        go true f false e =
            let many : 16 < length (list_of c.queue) = (rw (n.fit f) at q).unfit e in
            neither (λ z. false≢true (sym e ∙ z.queue))
            (λ z. omega (arith, shape_few (view last c (set ∷ [])) z, most_16 (kind (view last c (set ∷ []))), many))
        go true f true e =
            let p = fits_entries (kind_by named) e in
            let front = front_facts (kind_by named) ws (both (front_fits (kind_by named) ws) (all is_entry (numbers_at 4 count ws)) p.0).0 in
            let listed : list_of c.queue ≡ entries_at (kind_by named) count ws = (rw (n.fit f) at q).fit e in
            let told = told_editions made front.editions in
            let es : List Edition = or_none made in
            let same : view last c es ≡ view_with ws c.state es =
            λ i. record { name = n.fit f i; state = c.state; queue = listed i; last = l front.last i; editions = es } in
            let is : view_of ws ≡ some (view last c es) = ap₂ (view_at ws) (s front.state) told.0 ∙ ap some (sym same) in
            let newest-is : newest es ≡ set = rw (n.fit f) at m front.editions in
            let own : are_editions (kind_by (name_of c.name)) es ≡ true = ap (λ (l : List ℕ). are_editions (kind_by l) es) (n.fit f) ∙ told.1 in
            record {
              editions = es;
              set = newest-is;
              fit = by_shape es own;
              soundness = ap is_sound is;
              same = λ z. is;
              stand = λ z. ap (λ (l : List ℕ). editions_in (kind_by l) ws) (n.fit f) ∙ told.0;
            }
