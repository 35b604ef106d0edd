-- One turn of each loop that saves, and the 89 numbers that they leave. Assumes nothing.
use Prim.Native.Nat.{ℕ, zero, suc, ◌+◌, ◌-◌, ◌*◌, ◌%◌, ◌≤◌, ◌<◌}
use mathlib.Core.Path.{◌≡◌, refl, sym, ap, ap₂, subst, ◌∙◌}
use mathlib.Core.Bool.{Bool, true, false, ◌&&◌, cond}
use mathlib.Core.List.{List, [], ◌∷◌, ◌++◌, map, append_assoc, append-nil}
use native.Mathlib.Nat.{zero-add, add-zero, sub-zero}
use native.Mathlib.Numerals.{add-one}
use native.Mathlib.Omega.{arith}
use lib.Dec.{leb}
use lib.ListN.{length, take, drop, get_or, set, replicate, length-append, length-map, length-replicate, length-set}
use lib.Seq.{paste, paste-zero, paste-suc, take-paste, drop-paste, drop-append-add, take-append-add}
use lib.Seq.{take_all, take_at, take-append-le, drop_at, drop-append-le, drop-drop, length-take-le, set-get_or}
use borrow.Author.Tests.{eqb-true, eqb-false, leb-true}
use mir.Val.{Val}
use denote.Laws.{Is}
use Rattle.std.specs.Prelude.{Option}
use Rattle.lists.specs.Lists.{all}
use Rattle.lists.proofs.Tests.{both}
use Rattle.answer.specs.declared.Kind.{Kind}
use Rattle.synth.specs.Kinds.{most, state_number}
use Rattle.synth.specs.Settings.{unset, is_edition_of}
use Rattle.synth.specs.Channel.{View, first_above, are_editions}
use Rattle.synth.specs.declared.Entry.{Entry}
use Rattle.synth.specs.declared.Edition.{Edition}
use Rattle.synth.proofs.Channels.{most_16}
use Rattle.channelnames.specs.Names.{name_of, kind_by}
use Rattle.channelnames.proofs.Names.{size_is, within as name_within}
use Rattle.queue.specs.Queue.{id_in, kill_in, level_in, entry_in, entries_of, list_of}
use Rattle.queue.proofs.Queues.{entries_in, as_many, count_is, within as queue_within}
use Rattle.channel.specs.Channel.{view}
use Rattle.channel.specs.declared.Channel.{Channel}
use Rattle.channel.specs.contracts.Channel.{the_row}
use Rattle.channelnumbers.specs.Steps.{Stored, stored, threshold_count}
use Rattle.channelnumbers.specs.Numbers.{entry_number, thresholds, padded, queue_numbers, edition_numbers, editions_numbers, editions_part, numbers_of}

number_at : (f : ℕ → ℕ) (numbers : List ℕ) (i : ℕ) → i < length numbers → get_or (map f numbers) i 0 ≡ f (get_or numbers i 0)
number_at f [] i h = absurd (omega arith)
number_at f (n ∷ numbers) zero h = refl
number_at f (n ∷ numbers) (suc i) h = number_at f numbers i (omega arith)

-- an entry's number is that which it is told by
entry_stored : (n m : ℕ) → entry_number (entry_in n m) ≡ stored n
entry_stored n m = go (kill_in n) refl
  where
    go : (b : Bool) → kill_in n ≡ b → id_in n * 2 + cond b 1 0 ≡ stored n
    go true k = omega (arith, eqb-true (n % 2) 1 k)
    go false k = omega (arith, eqb-false (n % 2) 1 k)

-- the numbers and the thresholds of the first n
entry_numbers : (n : ℕ) (numbers levels : List ℕ) → length levels ≡ length numbers
    → map entry_number (take n (entries_of numbers levels)) ≡ take n (map stored numbers)
entry_numbers zero numbers levels e = refl
entry_numbers (suc n) [] levels e = refl
entry_numbers (suc n) (h ∷ numbers) [] e = absurd (let z : 0 ≡ suc (length numbers) = e in omega arith)
entry_numbers (suc n) (h ∷ numbers) (m ∷ levels) e = ap₂ (λ (x : ℕ) (l : List ℕ). x ∷ l) (entry_stored h m) (entry_numbers n numbers levels (omega (arith, e)))

entry_thresholds : (n : ℕ) (numbers levels : List ℕ) → length levels ≡ length numbers
    → thresholds (take n (entries_of numbers levels)) ≡ take n (map level_in levels)
entry_thresholds zero numbers levels e = refl
entry_thresholds (suc n) [] [] e = refl
entry_thresholds (suc n) [] (m ∷ levels) e = absurd (let z : suc (length levels) ≡ 0 = e in omega arith)
entry_thresholds (suc n) (h ∷ numbers) [] e = absurd (let z : 0 ≡ suc (length numbers) = e in omega arith)
entry_thresholds (suc n) (h ∷ numbers) (m ∷ levels) e = ap (λ (l : List ℕ). level_in m ∷ l) (entry_thresholds n numbers levels (omega (arith, e)))

pub stored_none : (w : List ℕ) (at : ℕ) (l : List ℕ) → length w ≡ 89 → Stored w at l 0 w
stored_none w at l h = record { long = h; kept = h; pasted = paste-zero w at l }

-- one number more, in the place behind
pub stored_next : {w l ws : List ℕ} {at i : ℕ} (k x : ℕ) → k ≡ at + i → at + i < 89 → i < length l → Stored w at l i ws
    → x ≡ get_or l i 0 → Stored w at l (i + 1) (set ws k x)
stored_next {w} {l} {ws} {at} {i} k x e h j s f = record {
  long = s.long;
  kept = length-set ws k x ∙ s.kept;
  pasted = rw (s.pasted, f, e, add-one i) (paste-suc w at l i 0 (omega (arith, s.long)) j);
}

-- one number more that stands there already
pub stored_same : {w l ws : List ℕ} {at i : ℕ} (k : ℕ) → k ≡ at + i → at + i < 89 → i < length l → Stored w at l i ws
    → get_or ws k 0 ≡ get_or l i 0 → Stored w at l (i + 1) ws
stored_same {w} {l} {ws} {at} {i} k e h j s f =
    rw (set-get_or ws k 0) at (stored_next k (get_or ws k 0) e h j s f)

-- what a loop stores of each number
pub number_more : {w ws : List ℕ} (f : ℕ → ℕ) (numbers : List ℕ) {at i n : ℕ} → length numbers ≡ n → i < n → at + n ≤ 89
    → Stored w at (map f numbers) i ws → Stored w at (map f numbers) (i + 1) (set ws (at + i) (f (get_or numbers i 0)))
number_more {w} {ws} f numbers {at} {i} {n} m h room s =
    stored_next (at + i) _ refl (omega arith) (rw length-map (omega arith)) s (sym (number_at f numbers i (omega arith)))

pub byte_more : {w ws name : List ℕ} {i : ℕ} → length name ≡ 44 → i < 44 → Stored w 20 name i ws
    → Stored w 20 name (i + 1) (set ws (20 + i) (get_or name i 0))
byte_more {w} {ws} {name} {i} m h s = stored_next (20 + i) _ refl (omega arith) (omega arith) s refl

-- more of them, stored from the place behind on
pub stored_then : {w mid ws l m : List ℕ} {at n k : ℕ} → at ≤ 89 → n ≤ length l → Stored w at l n mid
    → Stored mid (at + n) m k ws → take n l ++ take k m ≡ take (n + k) l → Stored w at l (n + k) ws
stored_then {w} {mid} {ws} {l} {m} {at} {n} {k} h j s t e =
    let room : at ≤ length w = omega (arith, s.long) in
    let next : at + n + k ≡ at + (n + k) = omega arith in
    let front : take (at + n) mid ≡ take at w ++ take n l = ap (take (at + n)) s.pasted ∙ take-paste w at l n room j in
    let behind : drop (at + n + k) mid ≡ drop (at + (n + k)) w =
    sym (drop-drop k (at + n) mid)
    ∙ ap (drop k) (ap (drop (at + n)) s.pasted ∙ drop-paste w at l n room j)
    ∙ drop-drop k (at + n) w
    ∙ ap (λ (p : ℕ). drop p w) next in
    record {
      long = s.long;
      kept = t.kept;
      pasted = t.pasted
          ∙ ap₂ (λ (p q : List ℕ). p ++ take k m ++ q) front behind
          ∙ ap (λ (p : List ℕ). p ++ drop (at + (n + k)) w) (append_assoc (take at w) (take n l) (take k m))
          ∙ ap (λ (p : List ℕ). take at w ++ p ++ drop (at + (n + k)) w) e;
    }

-- six numbers, one behind the other
pub stored_six : (w : List ℕ) (at a b c d e f : ℕ) → length w ≡ 89 → at ≤ 83
    → Stored w at (a ∷ b ∷ c ∷ d ∷ e ∷ f ∷ []) 6
    (set (set (set (set (set (set w at a) (at + 1) b) (at + 2) c) (at + 3) d) (at + 4) e) (at + 5) f)
stored_six w at a b c d e f h room =
    stored_next (at + 5) f refl (omega arith) (omega arith)
    (stored_next (at + 4) e refl (omega arith) (omega arith)
    (stored_next (at + 3) d refl (omega arith) (omega arith)
    (stored_next (at + 2) c refl (omega arith) (omega arith)
    (stored_next (at + 1) b refl (omega arith) (omega arith)
    (stored_next {at = at} at a (sym (add-zero at)) (omega arith) (omega arith)
    (stored_none w at (a ∷ b ∷ c ∷ d ∷ e ∷ f ∷ []) h) refl) refl) refl) refl) refl) refl

-- the numbers of the first editions, and of one more
module _ (kind : Kind) where
  pub edition_six : (e : Edition) → length (edition_numbers kind e) ≡ 6
  edition_six e = go kind
    where
      go : (k : Kind) → length (edition_numbers k e) ≡ 6
      go Kind.Synthesizer = refl
      go Kind.Recognizer = refl

  pub editions_length : (es : List Edition) → length (editions_numbers kind es) ≡ length es * 6
  editions_length [] = refl
  editions_length (e ∷ es) =
      omega (arith, length-append (edition_numbers kind e) (editions_numbers kind es), edition_six e, editions_length es)

  past_one : (e : Edition) (es : List Edition) (n : ℕ)
      → take (suc n * 6) (editions_numbers kind (e ∷ es)) ≡ edition_numbers kind e ++ take (n * 6) (editions_numbers kind es)
  past_one e es n =
      let size = edition_six e in
      let m : suc n * 6 ≡ length (edition_numbers kind e) + n * 6 = omega arith in
      ap (λ (k : ℕ). take k (editions_numbers kind (e ∷ es))) m
      ∙ take-append-add (edition_numbers kind e) (editions_numbers kind es) (n * 6)

  next_edition : (i : ℕ) (es : List Edition) → i < length es
      → take (i * 6) (editions_numbers kind es) ++ edition_numbers kind (get_or es i unset) ≡ take (suc i * 6) (editions_numbers kind es)
  next_edition i [] h = absurd (omega arith)
  next_edition zero (e ∷ es) h = sym (past_one e es zero ∙ append-nil (edition_numbers kind e))
  next_edition (suc i) (e ∷ es) h =
      ap (λ (l : List ℕ). l ++ edition_numbers kind (get_or es i unset)) (past_one e es i)
      ∙ append_assoc (edition_numbers kind e) (take (i * 6) (editions_numbers kind es)) (edition_numbers kind (get_or es i unset))
      ∙ ap (λ (l : List ℕ). edition_numbers kind e ++ l) (next_edition i es (omega arith))
      ∙ sym (past_one e es (suc i))

  -- the same from 65 on
  pub edition_more : {w ws after : List ℕ} (es : List Edition) {i : ℕ} → length es ≤ 4 → i < length es
      → Stored w 65 (editions_numbers kind es) (i * 6) ws
      → Stored ws (65 + i * 6) (edition_numbers kind (get_or es i unset)) 6 after
      → Stored w 65 (editions_numbers kind es) ((i + 1) * 6) after
  edition_more {w} {ws} {after} es {i} m h s t =
      let e : Edition = get_or es i unset in
      let size : i * 6 ≤ length (editions_numbers kind es) = omega (arith, editions_length es) in
      let next : i * 6 + 6 ≡ (i + 1) * 6 = omega arith in
      let behind : suc i * 6 ≡ i * 6 + 6 = omega arith in
      let whole : take 6 (edition_numbers kind e) ≡ edition_numbers kind e =
      take_all 6 (edition_numbers kind e) (omega (arith, edition_six e)) in
      let six : take (i * 6) (editions_numbers kind es) ++ take 6 (edition_numbers kind e) ≡ take (i * 6 + 6) (editions_numbers kind es) =
      ap (λ (l : List ℕ). take (i * 6) (editions_numbers kind es) ++ l) whole
      ∙ next_edition i es h
      ∙ ap (λ (k : ℕ). take k (editions_numbers kind es)) behind in
      rw next at (stored_then (omega arith) size s t six)

abbrev pub zeros : ℕ → List ℕ
zeros n = replicate n 0

drop_zeros : (n k : ℕ) → drop k (zeros n) ≡ zeros (n - k)
drop_zeros n zero = rw (sub-zero n)
drop_zeros zero (suc k) = let e : 0 - suc k ≡ 0 = omega arith in rw e
drop_zeros (suc n) (suc k) = let e : suc n - suc k ≡ n - k = omega arith in rw e (drop_zeros n k)

pub take_zeros : (n k : ℕ) → k ≤ n → take k (zeros n) ≡ zeros k
take_zeros n zero h = refl
take_zeros zero (suc k) h = absurd (omega arith)
take_zeros (suc n) (suc k) h = ap (λ (l : List ℕ). 0 ∷ l) (take_zeros n k (omega arith))

-- past the four in front
past_four : (a b c d m k : ℕ) (l : List ℕ) → m ≡ suc (suc (suc (suc k))) → drop m (a ∷ b ∷ c ∷ d ∷ l) ≡ drop k l
past_four a b c d m k l e = ap (λ (n : ℕ). drop n (a ∷ b ∷ c ∷ d ∷ l)) e

up_to_four : (a b c d m k : ℕ) (l : List ℕ) → m ≡ suc (suc (suc (suc k))) → take m (a ∷ b ∷ c ∷ d ∷ l) ≡ a ∷ b ∷ c ∷ d ∷ take k l
up_to_four a b c d m k l e = ap (λ (n : ℕ). take n (a ∷ b ∷ c ∷ d ∷ l)) e

-- what is pasted into a front leaves what is behind it
paste_front : (x t l : List ℕ) (at k : ℕ) → at + k ≤ length x → paste (x ++ t) at l k ≡ paste x at l k ++ t
paste_front x t l at k h =
    ap₂ (λ (f r : List ℕ). f ++ take k l ++ r) (take-append-le at x t (omega arith)) (drop-append-le (at + k) x t h)
    ∙ sym (append_assoc (take at x ++ take k l) (drop (at + k) x) t)

-- what a loop leaves that stores from m on, behind a list of n and zeros, and in front of what stays
module _ (a b c d : ℕ) (p : List ℕ) (n : ℕ) (e : length p ≡ n) (m : ℕ) (h : n ≤ m) (room : m ≤ 60) (t : List ℕ) where
  front : take m (p ++ zeros (60 - n)) ≡ p ++ zeros (m - n)
  front =
      let k : length p + (m - n) ≡ m = omega arith in
      ap (λ (m : ℕ). take m (p ++ zeros (60 - n))) (sym k)
      ∙ take-append-add p (zeros (60 - n)) (m - n)
      ∙ ap (λ (l : List ℕ). p ++ l) (take_zeros (60 - n) (m - n) (omega arith))

  behind : (k : ℕ) → drop (m + k) (p ++ zeros (60 - n)) ≡ zeros (60 - (m + k))
  behind k =
      let f : length p + (m - n + k) ≡ m + k = omega arith in
      let z : 60 - n - (m - n + k) ≡ 60 - (m + k) = omega arith in
      ap (λ (m : ℕ). drop m (p ++ zeros (60 - n))) (sym f)
      ∙ drop-append-add p (zeros (60 - n)) (m - n + k)
      ∙ drop_zeros (60 - n) (m - n + k)
      ∙ ap zeros z

  long : length (a ∷ b ∷ c ∷ d ∷ p ++ zeros (60 - n)) ≡ 64
  long = simp (length-append, length-replicate) (omega (arith, e, h, room))

  left_by_lem : (l : List ℕ) (k : ℕ) → m + k ≤ 60
      → paste (a ∷ b ∷ c ∷ d ∷ p ++ zeros (60 - n) ++ t) (4 + m) l k
      ≡ a ∷ b ∷ c ∷ d ∷ p ++ zeros (m - n) ++ take k l ++ zeros (60 - (m + k)) ++ t
  left_by_lem l k in-front =
      paste_front (a ∷ b ∷ c ∷ d ∷ p ++ zeros (60 - n)) t l (4 + m) k (omega (arith, long))
      ∙ ap₂ (λ (f r : List ℕ). f ++ take k l ++ r ++ t)
      (up_to_four a b c d (4 + m) m (p ++ zeros (60 - n)) (omega arith) ∙ ap (λ (f : List ℕ). a ∷ b ∷ c ∷ d ∷ f) front)
      (past_four a b c d (4 + m + k) (m + k) (p ++ zeros (60 - n)) (omega arith) ∙ behind k)

-- the four in front of zeros
pub four_zeros : (w l zs : List ℕ) (a b c d n : ℕ) {ws : List ℕ} → zs ≡ zeros 64 ++ drop 64 w
    → Stored (set (set (set (set zs 0 a) 1 b) 2 c) 3 d) 4 l n ws → Stored (a ∷ b ∷ c ∷ d ∷ zeros 60 ++ drop 64 w) 4 l n ws
four_zeros w l zs a b c d n {ws} e t =
    subst (λ (x : List ℕ). Stored (set (set (set (set x 0 a) 1 b) 2 c) 3 d) 4 l n ws) e t

-- what the loop over the entries leaves, and that over the thresholds
module _ (a b c d : ℕ) (queue : List Entry) (numbers levels : List ℕ) (n : ℕ) (is : take n (entries_of numbers levels) ≡ queue)
    (many : length levels ≡ length numbers) (count : length queue ≡ n) (t : List ℕ) where
  numbered : take n (map stored numbers) ≡ map entry_number queue
  numbered = sym (entry_numbers n numbers levels many) ∙ ap (map entry_number) is

  leveled : take n (map level_in levels) ≡ thresholds queue
  leveled = sym (entry_thresholds n numbers levels many) ∙ ap thresholds is

  entries_left : n ≤ 60 → paste (a ∷ b ∷ c ∷ d ∷ zeros 60 ++ t) 4 (map stored numbers) n
      ≡ a ∷ b ∷ c ∷ d ∷ map entry_number queue ++ zeros (60 - n) ++ t
  entries_left room =
      left_by_lem a b c d [] 0 refl 0 (omega arith) (omega arith) t (map stored numbers) n (omega arith)
      ∙ ap₂ (λ (l : List ℕ) (m : ℕ). a ∷ b ∷ c ∷ d ∷ l ++ zeros (60 - m) ++ t) numbered (zero-add n)

  pub queue_saved : (kind : Kind) → n ≤ most kind → {w ws : List ℕ}
      → Stored (a ∷ b ∷ c ∷ d ∷ zeros 60 ++ t) 4 (map stored numbers) n w
      → Stored w 12 (map level_in levels) (threshold_count kind n) ws
      → ws ≡ a ∷ b ∷ c ∷ d ∷ queue_numbers kind queue ++ zeros (60 - length (queue_numbers kind queue)) ++ t
  queue_saved Kind.Synthesizer few {w} {ws} s u =
      u.pasted
      ∙ sym (paste-zero w 12 (map level_in levels))
      ∙ s.pasted
      ∙ entries_left (omega (arith, few))
      ∙ ap (λ (m : ℕ). a ∷ b ∷ c ∷ d ∷ map entry_number queue ++ zeros (60 - m) ++ t) (sym (length-map queue entry_number ∙ count))
  queue_saved Kind.Recognizer few {w} {ws} s u =
      let size : length (map entry_number queue) ≡ n = length-map queue entry_number ∙ count in
      let eight : 8 + n ≡ length (padded 8 (map entry_number queue) ++ thresholds queue) = simp (length-append, length-map, length-replicate) (omega (arith, few, count)) in
      u.pasted
      ∙ ap (λ (w : List ℕ). paste w 12 (map level_in levels) n) (s.pasted ∙ entries_left (omega (arith, few)))
      ∙ left_by_lem a b c d (map entry_number queue) n size 8 few (omega arith) t (map level_in levels) n (omega (arith, few))
      ∙ (λ i. a ∷ b ∷ c ∷ d ∷ map entry_number queue ++ zeros (8 - sym size i) ++ leveled i ++ zeros (60 - eight i) ++ t)

pub queue_16 : (queue : List Entry) (kind : Kind) → length queue ≤ most kind → length (queue_numbers kind queue) ≤ 16
queue_16 queue Kind.Synthesizer few = simp length-map (omega (arith, few))
queue_16 queue Kind.Recognizer few = simp (length-append, length-map, length-replicate) (omega (arith, few))

pub thresholds_16 : (kind : Kind) (n : ℕ) → n ≤ 16 → threshold_count kind n ≤ 16
thresholds_16 Kind.Synthesizer n few = omega arith
thresholds_16 Kind.Recognizer n few = few

pub thresholds_8 : (kind : Kind) (n : ℕ) → n ≤ most kind → threshold_count kind n ≤ 8
thresholds_8 Kind.Synthesizer n few = omega arith
thresholds_8 Kind.Recognizer n few = few

-- what the loop over the name leaves
module _ (a b c d : ℕ) (q name : List ℕ) (k : ℕ) (few : length q ≤ 16) (size : length (take k name) ≡ k) (short : k ≤ 44) where
  pub name_saved : (t : List ℕ) {w ws : List ℕ} → w ≡ a ∷ b ∷ c ∷ d ∷ q ++ zeros (60 - length q) ++ t → Stored w 20 name k ws
      → ws ≡ a ∷ b ∷ c ∷ d ∷ padded 16 q ++ (take k name ++ zeros (44 - k)) ++ t
  name_saved t e s =
      let z : 60 - (16 + k) ≡ 44 - k = omega arith in
      s.pasted
      ∙ ap (λ (w : List ℕ). paste w 20 name k) e
      ∙ left_by_lem a b c d q (length q) refl 16 few (omega arith) t name k (omega arith)
      ∙ (λ i. a ∷ b ∷ c ∷ d ∷ padded 16 q ++ take k name ++ zeros (z i) ++ t)
      ∙ ap (λ (l : List ℕ). a ∷ b ∷ c ∷ d ∷ l ++ t) (append_assoc (padded 16 q) (take k name) (zeros (44 - k)))

-- the first 64 numbers, which are all but the editions'
abbrev pub sixty_four : View → List ℕ
sixty_four v =
    state_number v.state ∷ first_above v.last ∷ length v.queue ∷ length v.name
    ∷ padded 16 (queue_numbers (kind_by v.name) v.queue) ++ padded 44 v.name

module _ (v : View) (few : length v.queue ≤ most (kind_by v.name)) (short : length v.name ≤ 44) where
  places : length (sixty_four v) ≡ 64
  places =
      simp (length-append, length-replicate) (omega (arith, queue_16 v.queue (kind_by v.name) few, short))

  pub first_64 : take 64 (numbers_of v) ≡ sixty_four v
  unfolding numbers_of
  first_64 = take_at (sixty_four v) (editions_part (kind_by v.name) v.editions) 64 places

  pub all_89 : take 64 (numbers_of v) ++ editions_part (kind_by v.name) v.editions ≡ numbers_of v
  unfolding numbers_of
  all_89 = ap (λ (l : List ℕ). l ++ editions_part (kind_by v.name) v.editions) first_64

-- a fresh channel's one edition
pub fresh_part : (kind : Kind) → 1 ∷ zeros 24 ≡ editions_part kind (unset ∷ [])
fresh_part Kind.Synthesizer = refl
fresh_part Kind.Recognizer = refl

pub editions_four : (kind : Kind) (es : List Edition) → are_editions kind es ≡ true → length es ≤ 4
unfolding are_editions
editions_four kind es h =
    let n : ℕ = length es in
    leb-true n 4 (both (leb 1 n) (leb n 4) (both (leb 1 n && leb n 4) (all (is_edition_of kind) es) h).0).1

-- the first 64 saved in front of the editions
module _ (v : View) (few : length v.queue ≤ most (kind_by v.name)) (short : length v.name ≤ 44) where
  abbrev tail : List ℕ
  tail = editions_part (kind_by v.name) v.editions

  pub saved_after : (w : List ℕ) {x ws : List ℕ} → length w ≡ 89 → x ≡ take 64 w ++ tail
      → ws ≡ take 64 (numbers_of v) ++ drop 64 x → ws ≡ numbers_of v
  saved_after w {x} {ws} long is saved =
      let front : length (take 64 w) ≡ 64 = length-take-le 64 w (omega (arith, long)) in
      saved
      ∙ ap (λ (l : List ℕ). take 64 (numbers_of v) ++ l) (ap (drop 64) is ∙ drop_at (take 64 w) tail 64 front)
      ∙ all_89 v few short

-- the numbers of a channel, by its parts
module _ (c : Channel) (vs : List Val) (good : Is the_row c vs) where
  -- owning a channel is owning its parts
  pub counted : length (list_of c.queue) ≡ c.queue.count
  counted = search count_is

  pub sized : length (name_of c.name) ≡ c.name.size
  sized = search size_is

  many : length c.queue.thresholds ≡ length c.queue.numbers
  many = search as_many

  abbrev count : ℕ
  count = c.queue.count

  abbrev size : ℕ
  size = c.name.size

  abbrev ours : Kind
  ours = kind_by (name_of c.name)

  pub saved_numbers : (last : Option ℕ) (es : List Edition) → count ≤ most ours → size ≤ 44 → (t : List ℕ) {a b : ℕ} {w x ws : List ℕ}
      → Stored (a ∷ b ∷ count ∷ size ∷ zeros 60 ++ t) 4 (map stored c.queue.numbers) count w
      → Stored w 12 (map level_in c.queue.thresholds) (threshold_count ours count) x → Stored x 20 c.name.bytes size ws
      → a ≡ state_number c.state → b ≡ first_above last → ws ≡ take 64 (numbers_of (view last c es)) ++ t
  saved_numbers last es few short t {a} {b} p u r s l =
      let within-16 : count ≤ 16 = omega (arith, few, most_16 ours) in
      let is : take count (entries_in c.queue) ≡ list_of c.queue = sym (queue_within c.queue within-16) in
      let queued = queue_saved a b count size (list_of c.queue) c.queue.numbers c.queue.thresholds count is many counted t ours few p u in
      let room = queue_16 (list_of c.queue) ours (rw counted few) in
      let q : List ℕ = queue_numbers ours (list_of c.queue) in
      let long : length (take size c.name.bytes) ≡ size = ap length (sym (name_within c.name short)) ∙ sized in
      name_saved a b count size q c.name.bytes size room long short t queued r
      ∙ (λ i. s i ∷ l i ∷ sym counted i ∷ sym sized i ∷ padded 16 q ++ named_back i ++ t)
      ∙ ap (λ (l : List ℕ). l ++ t) (sym (first_64 (view last c es) (rw counted few) (rw sized short)))
    where
      named_back : take size c.name.bytes ++ zeros (44 - size) ≡ padded 44 (name_of c.name)
      named_back = ap₂ (λ (l : List ℕ) (k : ℕ). l ++ zeros (44 - k)) (sym (name_within c.name short)) (sym sized)
