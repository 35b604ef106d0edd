-- A file judged, and message n of it: one law for each answer of the code. Assumes nothing.
use mathlib.Core.Option.{Option, none, some}
use Rattle.std.proofs.Common.{ℕ, ◌+◌, ◌*◌, ◌-◌, ◌≤◌, ◌≡◌, refl, ap, subst, ◌∙◌, arith, eqb, leb}
use Rattle.std.proofs.Common.{Bool, true, false, ◌&&◌, List, [], ◌∷◌, length, take, drop, Result, Ok, Err}
use Rattle.std.proofs.lemmas.Grind.{common_steps}
use Rattle.std.specs.List.{ends_with}
use Rattle.std.specs.Cmp.Lexicographic.{pointwise}
use native.Mathlib.Nat.{add-zero, zero-add, sub-zero}
use borrow.Author.Tests.{leb-true}
use Rattle.lists.specs.Lists.{same}
use Rattle.octets.specs.Octets.{bytes}
use Rattle.traces.specs.Traces.{index, flat, IsFile, frames_in, Trace}
use Rattle.traces.specs.Traces.{indexed, begin_of, count_of, trace_of, handed, message_of}
use Rattle.traces.specs.declared.Refusal.{Refusal}
use Rattle.tracereader.specs.Steps.{agrees_from, entries_agree, judged, looked_up}
use Rattle.tracereader.specs.declared.Index.{Index}
use Rattle.traces.proofs.Numbers.{Octets}
use Rattle.traces.proofs.Files.{read_file, at_begin, at_count, file_length}
use Rattle.traces.proofs.Theorems.MessageN.{is_there_lem, none_there, in_file}

same_pointwise : (l m : List ℕ) → pointwise eqb m l ≡ same l m
same_pointwise [] [] = refl
same_pointwise [] (y ∷ m) = refl
same_pointwise (x ∷ l) [] = refl
same_pointwise (x ∷ l) (y ∷ m) = grind (arith, common_steps, same_pointwise l m)

-- the letters, as the code finds them
pub letters : (f : List ℕ) → ends_with eqb f (bytes "MTRC") ≡ same (drop (length f - 4) f) (bytes "MTRC")
letters f = same_pointwise (drop (length f - 4) f) (bytes "MTRC")

module _ (f : List ℕ) where
  abbrev pub answer : Bool → Result Index Refusal
  answer t = elim t [ true ↦ Ok (record { begin = begin_of f; count = count_of f }) | false ↦ Err Refusal.Misframed ]

  -- what the entries say
  pub by_entries : judged f (indexed f (begin_of f) (count_of f) (frames_in (take (begin_of f) f)))
      ≡ answer (entries_agree f (begin_of f) (count_of f))
  unfolding entries_agree
  by_entries = go (frames_in (take (begin_of f) f))
    where
      go : (r : Option (List (List ℕ)))
          → judged f (indexed f (begin_of f) (count_of f) r) ≡ answer (agrees_from f (begin_of f) (count_of f) 0 0 r)
      go none = refl
      go (some ms) =
          rw (zero-add (length ms), sub-zero (count_of f), add-zero (begin_of f))
          (chosen (eqb (length ms) (count_of f) && same (take (4 * count_of f) (drop (begin_of f) f)) (index 0 ms)))
        where
          chosen : (t : Bool) → judged f (elim t [ true ↦ Ok ms | false ↦ Err Refusal.Misframed ]) ≡ answer t
          chosen true = refl
          chosen false = refl

-- what judging goes by
pub ruleset judged_so = (letters, by_entries)

-- the messages of a file that is good
pub record Known (f : List ℕ) (x : Index) : Type 0 where
  pub known : List (List ℕ)
  pub is : IsFile f known
  pub begins : x.begin ≡ begin_of f
  pub counts : x.count ≡ length known
  pub size : x.begin + 4 * x.count + 12 ≡ length f

module _ (f : List ℕ) (o : Octets f) where
  file_known : (ms : List (List ℕ)) → trace_of f ≡ Ok ms
      → Known f (record { begin = begin_of f; count = count_of f })
  file_known ms e =
      let i = read_file f o ms e in
      let few = subst (λ l. length l ≤ 65536) i.made i.most in
      let b : begin_of f ≡ length (flat ms) = ap begin_of i.made ∙ at_begin ms few in
      let c : count_of f ≡ length ms = ap count_of i.made ∙ at_count ms few in
      let s : length f ≡ length (flat ms) + 4 * length ms + 12 = ap length i.made ∙ file_length ms in
      record { known = ms; is = i; begins = refl; counts = c; size = omega (arith, b, c, s) }

  known_by : (r : Trace) (x : Index) → trace_of f ≡ r → judged f r ≡ Ok x → Known f x
  known_by (Err j) x e q = let d : ◌≡◌ {A = ℕ} 0 1 = cc in absurd (omega arith)
  known_by (Ok ms) x e q =
      let p : record { begin = begin_of f; count = count_of f } ≡ x = cc in
      subst (Known f) p (file_known ms e)

  pub known_good : (x : Index) → judged f (trace_of f) ≡ Ok x → Known f x
  known_good x q = known_by (trace_of f) x refl q

  -- judged once, looked up as often as wanted
  pub judged_once : (x : Index) → judged f (trace_of f) ≡ Ok x
      → (n : ℕ) → looked_up f x.begin x.count n ≡ message_of f n
  unfolding looked_up
  judged_once x good n = within (leb 1 n) (leb n x.count) refl refl
    where
      k : Known f x
      k = known_good x good

      within : (t u : Bool) → leb 1 n ≡ t → leb n x.count ≡ u → looked_up f x.begin x.count n ≡ message_of f n
      within false u p q = grind (arith, common_steps, (none_there f k.known k.is n).0)
      within true false p q = grind (arith, common_steps, (none_there f k.known k.is n).1, k.counts)
      within true true p q =
          let first : 1 ≤ n = leb-true 1 n p in
          let last : n ≤ length k.known = omega (arith, k.counts, leb-true n x.count q) in
          let here = is_there_lem f k.known k.is n first last in
          grind (arith, common_steps, in_file f k.known k.is n first last, here, k.begins, k.size)

-- what a file is refused with, its messages are
pub message_refused : (f : List ℕ) (n : ℕ) (j : Refusal) → judged f (trace_of f) ≡ Err j → message_of f n ≡ Err j
unfolding message_of
message_refused f n j = by (trace_of f)
  where
    by : (r : Trace) → judged f r ≡ Err j → handed f n r ≡ Err j
    by (Err m) e = let q : m ≡ j = cc in ap Err q
    by (Ok ms) e = let d : ◌≡◌ {A = ℕ} 0 1 = cc in absurd (omega arith)
