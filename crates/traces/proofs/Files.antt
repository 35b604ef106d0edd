-- The file of some messages is read as these messages, and what is read is such a file. Assumes nothing.
use Prim.Native.Nat.{ℕ, zero, suc, ◌+◌, ◌-◌, ◌*◌, ◌≤◌, ◌<◌}
use mathlib.Core.Path.{◌≡◌, refl, sym, ap, ap₂, subst, ◌∙◌}
use mathlib.Core.Bool.{true}
use mathlib.Core.Option.{Option, none, some}
use mathlib.Core.List.{List, [], ◌∷◌, ◌++◌, append_assoc, append-nil}
use native.Mathlib.Omega.{arith}
use lib.ListN.{length, take, drop, get_or, length-append, take-append-drop}
use lib.Seq.{take-append_seam, drop-append_seam, drop-append-add, drop-drop, take_at, drop_at, length-take-le}
use borrow.Author.Tests.{eq-eqb, le-leb}
use Rattle.std.proofs.lemmas.Grind.{common_steps}
use Rattle.lists.specs.Lists.{same, All}
use Rattle.lists.proofs.Scans.{same_so}
use Rattle.octets.specs.Octets.{bytes}
use Rattle.octets.proofs.Texts.{same_self}
use Rattle.std.specs.Prelude.{Ok, Err}
use Rattle.traces.specs.declared.Refusal.{Refusal}
use Rattle.traces.specs.Traces.{four, little, number_at, flat, index, trailer, ending, file, OneFrame, IsFile}
use Rattle.traces.specs.Traces.{frames_in, indexed, trailed, begin_of, count_of, trace_of, entry}
use Rattle.traces.proofs.Numbers.{Octets, four_back, four_length, four_at}
use Rattle.traces.proofs.Walking.{Walked, frames_flat, frames_so}

-- the index has four bytes for each
pub index_length : (at : ℕ) (ms : List (List ℕ)) → length (index at ms) ≡ 4 * length ms
index_length at [] = refl
index_length at (m ∷ ms) =
    rw (length-append (four at) (index (at + length m) ms), four_length, index_length (at + length m) ms) (omega arith)

pub trailer_length : (begin count : ℕ) → length (trailer begin count) ≡ 12
unfolding four
trailer_length begin count = refl

pub ending_length : (ms : List (List ℕ)) → length (ending ms) ≡ 4 * length ms + 12
ending_length ms =
    length-append (index 0 ms) (trailer (length (flat ms)) (length ms))
    ∙ ap₂ (λ (a b : ℕ). a + b) (index_length 0 ms) (trailer_length (length (flat ms)) (length ms))

-- what stands behind a in a ++ b
behind : (f a b : List ℕ) (k : ℕ) → f ≡ a ++ b → length a ≡ k → drop k f ≡ b
behind f a b k e l = ap (drop k) e ∙ drop_at a b k l

same_it : (l m : List ℕ) → l ≡ m → same l m ≡ true
same_it l m e = rw e (same_self m)

pub file_length : (ms : List (List ℕ)) → length (file ms) ≡ length (flat ms) + 4 * length ms + 12
unfolding file
file_length ms = length-append (flat ms) (ending ms) ∙ omega (arith, ending_length ms)

-- the file of some messages
module _ (ms : List (List ℕ)) (few : length (file ms) ≤ 65536) where
  abbrev f : List ℕ
  f = file ms

  abbrev begin : ℕ
  begin = length (flat ms)

  abbrev count : ℕ
  count = length ms

  abbrev front : List ℕ
  front = flat ms ++ index 0 ms

  size : length f ≡ begin + 4 * count + 12
  size = file_length ms

  file_parts : f ≡ front ++ trailer begin count
  unfolding file
  file_parts = sym (append_assoc (flat ms) (index 0 ms) (trailer begin count))

  front_length : length front ≡ begin + 4 * count
  front_length = length-append (flat ms) (index 0 ms) ∙ ap (λ n. begin + n) (index_length 0 ms)

  pub at_begin : begin_of f ≡ begin
  unfolding number_at
  at_begin =
      ap (λ l. little (take 4 l))
      (behind f front (trailer begin count) (length f - 12) file_parts (front_length ∙ omega (arith, size)))
      ∙ ap little (take_at (four begin) (four count ++ bytes "MTRC") 4 (four_length begin))
      ∙ four_back begin (omega (arith, size))

  -- past the first four bytes of the trailer
  second_parts : f ≡ (front ++ four begin) ++ (four count ++ bytes "MTRC")
  second_parts = file_parts ∙ sym (append_assoc front (four begin) (four count ++ bytes "MTRC"))

  second_length : length (front ++ four begin) ≡ begin + 4 * count + 4
  second_length = length-append front (four begin) ∙ ap₂ (λ a b. a + b) front_length (four_length begin)

  pub at_count : count_of f ≡ count
  unfolding number_at
  at_count =
      ap (λ l. little (take 4 l))
      (behind f (front ++ four begin) (four count ++ bytes "MTRC") (length f - 8) second_parts
      (second_length ∙ omega (arith, size)))
      ∙ ap little (take_at (four count) (bytes "MTRC") 4 (four_length count))
      ∙ four_back count (omega (arith, size))

  third_length : length ((front ++ four begin) ++ four count) ≡ length f - 4
  third_length =
      length-append (front ++ four begin) (four count)
      ∙ ap₂ (λ a b. a + b) second_length (four_length count)
      ∙ omega (arith, size)

  letters : drop (length f - 4) f ≡ bytes "MTRC"
  letters =
      behind f ((front ++ four begin) ++ four count) (bytes "MTRC") (length f - 4)
      (second_parts ∙ sym (append_assoc (front ++ four begin) (four count) (bytes "MTRC"))) third_length

  pub all_messages : take begin f ≡ flat ms
  unfolding file
  all_messages = take-append_seam (flat ms) (ending ms)

  all_entries : take (4 * count) (drop begin f) ≡ index 0 ms
  unfolding file
  all_entries =
      ap (take (4 * count)) (drop-append_seam (flat ms) (ending ms))
      ∙ take_at (index 0 ms) (trailer begin count) (4 * count) (index_length 0 ms)

  indexed_so : indexed f begin count (some ms) ≡ Ok ms
  indexed_so =
      rw (eq-eqb (length ms) count refl, same_it (take (4 * count) (drop begin f)) (index 0 ms) all_entries, indexed)

  pub file_read : All OneFrame ms → trace_of f ≡ Ok ms
  unfolding trace_of
  file_read w =
      rw (le-leb 12 (length f) (omega (arith, size)), le-leb (length f) 65536 few, trace_of)
      (ap₂ (trailed f) at_begin at_count ∙ trailed_so)
    where
      trailed_so : trailed f begin count ≡ Ok ms
      trailed_so =
          let e = eq-eqb (begin + 4 * count + 12) (length f) (sym size) in
          rw (same_it (drop (length f - 4) f) (bytes "MTRC") letters, e, trailed)
          (ap (indexed f begin count) (ap frames_in all_messages ∙ frames_flat ms w) ∙ indexed_so)

never : {C : Type 0} {r : Refusal} {ms : List (List ℕ)} → Err r ≡ Ok ms → C
never e = let d : ◌≡◌ {A = ℕ} 0 1 = cc in absurd (omega arith)

-- a file that is read as ms
module _ (f : List ℕ) (o : Octets f) (ms : List (List ℕ)) where
  -- the last twelve bytes
  trailer_there : 12 ≤ length f → drop (length f - 4) f ≡ bytes "MTRC"
      → drop (length f - 12) f ≡ trailer (begin_of f) (count_of f)
  trailer_there h e =
      sym (take-append-drop 4 (drop (length f - 12) f))
      ∙ ap₂ (λ x y. x ++ y) (sym (four_at f o (length f - 12) (omega arith))) (further 12 8 (omega arith) (omega arith)
      ∙ sym (take-append-drop 4 (drop (length f - 8) f))
      ∙ ap₂ (λ x y. x ++ y) (sym (four_at f o (length f - 8) (omega arith)))
      (further 8 4 (omega arith) (omega arith) ∙ e))
    where
      further : (i j : ℕ) → i ≤ length f → i ≡ 4 + j → drop 4 (drop (length f - i) f) ≡ drop (length f - j) f
      further i j h e =
          drop-drop 4 (length f - i) f ∙ ap (λ k. drop k f) {x = length f - i + 4} {y = length f - j} (omega arith)

  module _ (least : 12 ≤ length f) (most : length f ≤ 65536) (e : drop (length f - 4) f ≡ bytes "MTRC")
      (begin count : ℕ) (eb : begin_of f ≡ begin) (ec : count_of f ≡ count)
      (n : begin + 4 * count + 12 ≡ length f) where
    made_of : Walked (take begin f) ms → length ms ≡ count → take (4 * count) (drop begin f) ≡ index 0 ms → IsFile f ms
    unfolding file
    made_of w l i =
        let t : drop (4 * count) (drop begin f) ≡ drop (length f - 12) f =
        drop-drop (4 * count) begin f ∙ ap (λ k. drop k f) {x = begin + 4 * count} {y = length f - 12} (omega arith) in
        let q : begin ≡ length (flat ms) = sym (length-take-le begin f (omega arith)) ∙ ap length w.made in
        record {
          made =
              sym (take-append-drop begin f)
              ∙ ap₂ (λ x y. x ++ y) w.made (sym (take-append-drop (4 * count) (drop begin f))
              ∙ ap₂ (λ x y. x ++ y) i (t ∙ trailer_there least e ∙ ap₂ trailer (eb ∙ q) (ec ∙ sym l)));
          whole = w.whole;
          most = most;
        }

    indexed_made : (r : Option (List (List ℕ))) → frames_in (take begin f) ≡ r → indexed f begin count r ≡ Ok ms
        → IsFile f ms
    indexed_made none q g = never g
    indexed_made (some ks) q g =
        let p : ks ≡ ms = grind (arith, common_steps) in
        let size : length ks ≡ count = grind (arith, common_steps) in
        let entries : same (take (4 * count) (drop begin f)) (index 0 ks) ≡ true = grind (arith, common_steps) in
        made_of (subst (Walked (take begin f)) p (frames_so (take begin f) ks q))
        (ap length (sym p) ∙ size) (same_so _ _ entries ∙ ap (index 0) p)

  pub read_file : trace_of f ≡ Ok ms → IsFile f ms
  unfolding trace_of
  read_file g =
      let least : 12 ≤ length f = grind (arith, common_steps) in
      let most : length f ≤ 65536 = grind (arith, common_steps) in
      let letters : same (drop (length f - 4) f) (bytes "MTRC") ≡ true = grind (arith, common_steps) in
      let ends : begin_of f + 4 * count_of f + 12 ≡ length f = grind (arith, common_steps) in
      let i : indexed f (begin_of f) (count_of f) (frames_in (take (begin_of f) f)) ≡ Ok ms =
      grind (arith, common_steps) in
      indexed_made least most (same_so _ _ letters) (begin_of f) (count_of f) refl refl ends
      (frames_in (take (begin_of f) f)) refl i

-- where message k, from 0, begins, by walking
abbrev pub begins : List (List ℕ) → ℕ → ℕ
begins ms k = length (flat (take k ms))

pub begins_within : (ms : List (List ℕ)) (k : ℕ) → begins ms k ≤ length (flat ms)
begins_within ms zero = omega arith
begins_within [] (suc k) = omega arith
begins_within (m ∷ ms) (suc k) =
    omega (arith, length-append m (flat (take k ms)), length-append m (flat ms), begins_within ms k)

pub begins_rise : (ms : List (List ℕ)) (k : ℕ) → begins ms k ≤ begins ms (suc k)
begins_rise [] zero = omega arith
begins_rise [] (suc k) = omega arith
begins_rise (m ∷ ms) zero = omega arith
begins_rise (m ∷ ms) (suc k) =
    omega
    (arith, length-append m (flat (take k ms)), length-append m (flat (take (suc k) ms)), begins_rise ms k)

record Starts (l x : List ℕ) : Type 0 where
  rest : List ℕ
  so : l ≡ x ++ rest

-- entry k of the index; behind the last one stands where the index begins
index_at : (ms : List (List ℕ)) (at k : ℕ) (t r : List ℕ) → k ≤ length ms → t ≡ four (at + length (flat ms)) ++ r
    → Starts (drop (4 * k) (index at ms ++ t)) (four (at + begins ms k))
index_at [] at zero t r h e = record { rest = r; so = e }
index_at [] at (suc k) t r h e = absurd (omega arith)
index_at (m ∷ ms) at zero t r h e = record {
  rest = index (at + length m) ms ++ t;
  so =
      append_assoc (four at) (index (at + length m) ms) t
      ∙ ap (λ n. four n ++ (index (at + length m) ms ++ t)) {x = at} {y = at + 0} (omega arith);
}
index_at (m ∷ ms) at (suc k) t r h e =
    let c : at + length (m ++ flat ms) ≡ at + length m + length (flat ms) =
    rw (length-append m (flat ms)) (omega arith) in
    let s = index_at ms (at + length m) k t r (omega arith) (e ∙ ap (λ n. four n ++ r) c) in
    let d : drop (4 * suc k) ((four at ++ index (at + length m) ms) ++ t)
    ≡ drop (4 * k) (index (at + length m) ms ++ t) =
    ap₂ drop {x = 4 * suc k} {y = length (four at) + 4 * k} (rw (four_length at) (omega arith))
    (append_assoc (four at) (index (at + length m) ms) t)
    ∙ drop-append-add (four at) (index (at + length m) ms ++ t) (4 * k) in
    let b : at + length m + begins ms k ≡ at + length (m ++ flat (take k ms)) =
    rw (length-append m (flat (take k ms))) (omega arith) in
    record { rest = s.rest; so = d ∙ s.so ∙ ap (λ n. four n ++ s.rest) b }

message_there : (ms : List (List ℕ)) (k : ℕ) (rest : List ℕ) → k < length ms
    → take (begins ms (suc k) - begins ms k) (drop (begins ms k) (flat ms ++ rest)) ≡ get_or ms k []
message_there [] k rest h = absurd (omega arith)
message_there (m ∷ ms) zero rest h =
    ap₂ take {x = length (m ++ []) - 0} {y = length m} (rw (append-nil m) (omega arith)) (append_assoc m (flat ms) rest)
    ∙ take-append_seam m (flat ms ++ rest)
message_there (m ∷ ms) (suc k) rest h =
    ap₂ take {x = length (m ++ flat (take (suc k) ms)) - length (m ++ flat (take k ms))}
    {y = begins ms (suc k) - begins ms k}
    (rw (length-append m (flat (take (suc k) ms)), length-append m (flat (take k ms))) (omega arith))
    (ap₂ drop (length-append m (flat (take k ms))) (append_assoc m (flat ms) rest)
    ∙ drop-append-add m (flat ms ++ rest) (begins ms k))
    ∙ message_there ms k rest (omega arith)

-- a message by the index is the one that walking from the start gives
module _ (ms : List (List ℕ)) (few : length (file ms) ≤ 65536) where
  pub entry_is : (k : ℕ) → k ≤ length ms → entry (file ms) k ≡ begins ms k
  unfolding number_at file
  entry_is k h =
      let t = trailer (length (flat ms)) (length ms) in
      let s = index_at ms 0 k t (four (length ms) ++ bytes "MTRC") h
      (ap (λ n. four n ++ (four (length ms) ++ bytes "MTRC")) {x = length (flat ms)} {y = 0 + length (flat ms)}
      (omega arith)) in
      let z : 0 + begins ms k ≡ begins ms k = omega arith in
      ap (λ b. number_at (file ms) (b + 4 * k)) (at_begin ms few)
      ∙ ap (λ l. little (take 4 l)) (drop-append-add (flat ms) (index 0 ms ++ t) (4 * k) ∙ s.so)
      ∙ ap little (take_at (four (0 + begins ms k)) s.rest 4 (four_length (0 + begins ms k)))
      ∙ ap (λ n. little (four n)) z
      ∙ four_back (begins ms k) (omega (arith, begins_within ms k, file_length ms))

  pub message_at : (k : ℕ) → k < length ms
      → take (entry (file ms) (suc k) - entry (file ms) k) (drop (entry (file ms) k) (file ms)) ≡ get_or ms k []
  unfolding file
  message_at k h =
      let a = entry_is k (omega arith) in
      let b = entry_is (suc k) h in
      ap₂ (λ x y. take (y - x) (drop x (file ms))) a b ∙ message_there ms k (ending ms) h
