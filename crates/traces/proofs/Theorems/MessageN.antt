-- Message n of an accepted file is the n-th of its messages, and these are what walking from the start gives; 22 is
-- given exactly where there is no message n. Assumes nothing.
use Prim.Native.Nat.{ℕ, suc, ◌-◌, ◌≤◌, ◌<◌}
use mathlib.Core.Path.{◌≡◌, refl, ap, subst, ◌∙◌}
use mathlib.Core.Bool.{and-false}
use mathlib.Core.Logic.{◌↔◌, ◌⊎◌, inl, inr}
use mathlib.Core.Option.{Option, none, some}
use mathlib.Core.List.{List, []}
use native.Mathlib.Omega.{arith}
use lib.Dec.{leb}
use lib.ListN.{length, take, drop, get_or}
use borrow.Author.Tests.{le-leb, lt-leb}
use Rattle.std.proofs.lemmas.Grind.{common_steps}
use Rattle.lists.specs.Lists.{All}
use Rattle.std.specs.Prelude.{Result, Ok, Err}
use Rattle.message.specs.declared.Span.{Span}
use Rattle.traces.specs.declared.Refusal.{Refusal}
use Rattle.traces.specs.Refusals.{number_of}
use Rattle.traces.specs.Traces.{file, IsFile, frames_in, Trace, indexed}
use Rattle.traces.specs.Traces.{begin_of, count_of, trace_of, entry, handed, message_of, part_of}
use Rattle.traces.proofs.Walking.{frames_flat}
use Rattle.traces.proofs.Files.{file_length, at_begin, all_messages, entry_is, message_at}
use Rattle.traces.proofs.Files.{read_file, begins, begins_within, begins_rise}
use Rattle.traces.proofs.Theorems.ReadsExactly.{is_read}

module _ (f : List ℕ) (ms : List (List ℕ)) (i : IsFile f ms) where
  few : length (file ms) ≤ 65536
  few = subst (λ l. length l ≤ 65536) i.made i.most

  pub walks : frames_in (take (begin_of f) f) ≡ some ms
  walks =
      ap (λ f. frames_in (take (begin_of f) f)) i.made
      ∙ ap (λ k. frames_in (take k (file ms))) (at_begin ms few)
      ∙ ap frames_in (all_messages ms few)
      ∙ frames_flat ms i.whole

  -- where it stands
  abbrev place : ℕ → Result Span Refusal
  place n = Ok (record { start = entry f (n - 1); len = entry f n - entry f (n - 1) })

  pub is_there_lem : (n : ℕ) → 1 ≤ n → n ≤ length ms → message_of f n ≡ place n
  unfolding message_of
  is_there_lem n h l = ap (handed f n) (is_read f ms i) ∙ rw (le-leb 1 n h, le-leb n (length ms) l, handed)

  pub none_there : (n : ℕ) → (n < 1 → message_of f n ≡ Err Refusal.NoSuchMessage)
      × (length ms < n → message_of f n ≡ Err Refusal.NoSuchMessage)
  unfolding message_of
  none_there n = (
    λ h. ap (handed f n) (is_read f ms i) ∙ rw (lt-leb 1 n h, handed),
    λ h. ap (handed f n) (is_read f ms i) ∙ rw (lt-leb n (length ms) h, and-false (leb 1 n), handed),
  )

  -- the entries rise and lie in the file
  pub in_file : (n : ℕ) → 1 ≤ n → n ≤ length ms → (entry f (n - 1) ≤ entry f n) × (entry f n ≤ length f)
  in_file n h l =
      let x : entry f (n - 1) ≡ begins ms (n - 1) =
      ap (λ f. entry f (n - 1)) i.made ∙ entry_is ms few (n - 1) (omega arith) in
      let y : entry f n ≡ begins ms n = ap (λ f. entry f n) i.made ∙ entry_is ms few n l in
      let s : length f ≡ length (file ms) = ap length i.made in
      let z : suc (n - 1) ≡ n = omega arith in
      let r : begins ms (n - 1) ≤ begins ms n =
      subst (λ k. begins ms (n - 1) ≤ begins ms k) z (begins_rise ms (n - 1)) in
      (omega (arith, x, y, r), omega (arith, y, s, begins_within ms n, file_length ms))

  pub nth : (n : ℕ) → 1 ≤ n → n ≤ length ms → part_of (message_of f n) f ≡ get_or ms (n - 1) []
  nth n h l =
      let z : n ≡ suc (n - 1) = omega arith in
      ap (λ x. part_of x f) (is_there_lem n h l)
      ∙ ap (λ k. take (entry f k - entry f (n - 1)) (drop (entry f (n - 1)) f)) z
      ∙ ap (λ f. take (entry f (suc (n - 1)) - entry f (n - 1)) (drop (entry f (n - 1)) f)) i.made
      ∙ message_at ms few (n - 1) (omega arith)

-- of any file that is accepted
module _ (f : List ℕ) (o : All (λ x. x < 256) f) where
  pub from_the_start : (ms : List (List ℕ)) → trace_of f ≡ Ok ms → frames_in (take (begin_of f) f) ≡ some ms
  from_the_start ms e = walks f ms (read_file f o ms e)

  pub message_n : (ms : List (List ℕ)) → trace_of f ≡ Ok ms → (n : ℕ) → 1 ≤ n → n ≤ length ms
      → part_of (message_of f n) f ≡ get_or ms (n - 1) []
  message_n ms e n h l = nth f ms (read_file f o ms e) n h l

  pub lies_within : (ms : List (List ℕ)) → trace_of f ≡ Ok ms → (n : ℕ) → 1 ≤ n → n ≤ length ms
      → (entry f (n - 1) ≤ entry f n) × (entry f n ≤ length f)
  lies_within ms e n h l = in_file f ms (read_file f o ms e) n h l

indexed_14 : (f : List ℕ) (b c : ℕ) (r : Option (List (List ℕ))) (j : Refusal) → indexed f b c r ≡ Err j
    → number_of j ≡ 14
indexed_14 f b c none j e = grind (arith, common_steps)
indexed_14 f b c (some ms) j e = grind (arith, common_steps)

-- 13 and 14 are the only numbers that a file is refused with
pub two_numbers : (f : List ℕ) (j : Refusal) → trace_of f ≡ Err j → (number_of j ≡ 13) ⊎ (number_of j ≡ 14)
unfolding trace_of
two_numbers f j e =
    let i = indexed_14 f (begin_of f) (count_of f) (frames_in (take (begin_of f) f)) j in
    grind (arith, common_steps, i)

-- the file is accepted, and has no message n
pub record NoneSuch (f : List ℕ) (n : ℕ) : Type 0 where
  pub all_of_it : List (List ℕ)
  pub accepted : trace_of f ≡ Ok all_of_it
  pub none_such : (n < 1) ⊎ (length all_of_it < n)

module _ (f : List ℕ) (n : ℕ) where
  handed_22 : (r : Trace) → trace_of f ≡ r → handed f n r ≡ Err Refusal.NoSuchMessage → NoneSuch f n
  handed_22 (Err j) e q = let z = two_numbers f j e in absurd (grind (arith, common_steps))
  handed_22 (Ok ms) e q = record { all_of_it = ms; accepted = e; none_such = grind (arith, common_steps) }

  pub twenty_two : All (λ x. x < 256) f → (message_of f n ≡ Err Refusal.NoSuchMessage) ↔ NoneSuch f n
  unfolding message_of
  twenty_two o = (handed_22 (trace_of f) refl, λ k. back k k.none_such)
    where
      back : (k : NoneSuch f n) → (n < 1) ⊎ (length k.all_of_it < n) → message_of f n ≡ Err Refusal.NoSuchMessage
      back k (inl h) = (none_there f k.all_of_it (read_file f o k.all_of_it k.accepted) n).0 h
      back k (inr h) = (none_there f k.all_of_it (read_file f o k.all_of_it k.accepted) n).1 h
