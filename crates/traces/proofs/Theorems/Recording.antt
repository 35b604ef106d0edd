-- 13 is given exactly for an unfinished trace that recording can't have left in that output, so never for one that it
-- left; and a refused call changes nothing. Assumes nothing.
use Prim.Native.Nat.{ℕ, ◌+◌, ◌*◌, ◌≤◌, min}
use mathlib.Core.Path.{◌≡◌, refl, sym, ap, subst, ◌∙◌}
use mathlib.Core.Bool.{true}
use mathlib.Core.Logic.{◌↔◌, ◌⊎◌, inl, inr}
use mathlib.Core.List.{List, [], ◌∷◌, ◌++◌, append_assoc, append-nil}
use native.Mathlib.Omega.{arith}
use lib.ListN.{length, drop, length-append, take-append-drop}
use Rattle.lists.specs.Lists.{All}
use Rattle.writers.specs.Buffer.{put}
use Rattle.traces.specs.Traces.{flat, OneFrame, can_be_left, recorded, with_message, finished}
use Rattle.traces.specs.Traces.{with_ending, Records, nothing, onward}
use Rattle.traces.specs.declared.Refusal.{Refusal}
use Rattle.traces.specs.Refusals.{number_of}
use Rattle.std.specs.Prelude.{Err}
use Rattle.std.proofs.lemmas.Grind.{common_steps}
use Rattle.traces.proofs.Unfinished.{Holds, holds_can, can_holds, so_fit, one_is, holds_more, flat_more}
use Rattle.traces.proofs.Unfinished.{put_there, goes, goes_on}

-- whatever recording left are its messages end to end, counted, with room for what ends the file
pub left_so : (ms : List (List ℕ)) (out : List ℕ) (used count : ℕ) → Records ms out used count → Holds ms out used count
left_so ms x u c (nothing out) =
    record { whole = tt; made = refl; sized = refl; as_many = refl; room = inl (refl, refl) }
left_so ns x u c (onward ms out used count l m after u' c' e p) =
    subst (λ (o : List ℕ). Holds (ms ++ m ∷ []) o u' c') (sym p)
    (holds_more ms out used count m u' c' (left_so ms out used count l) (goes out used count m u' c' e))

-- and such bytes can be left: record what stands there, message by message
module _ (out : List ℕ) where
  record On (pre ms : List (List ℕ)) (rest : List ℕ) : Type 0 where
    made : out ≡ flat pre ++ (flat ms ++ rest)
    whole : All OneFrame ms
    left : Records pre out (length (flat pre)) (length pre)
    fit : length (flat pre) + length (flat ms) + 4 * (length pre + length ms) + 12 ≤ min (length out) 65536

  one_on : (pre ms : List (List ℕ)) (m rest : List ℕ) → On pre (m ∷ ms) rest → On (pre ++ m ∷ []) ms rest
  one_on pre ms m rest o =
      let f = flat_more pre m in
      let n : length (flat (pre ++ m ∷ [])) ≡ length (flat pre) + length m = ap length f ∙ length-append (flat pre) m in
      let k : length (pre ++ m ∷ []) ≡ length pre + 1 = length-append pre (m ∷ []) in
      let l : length (m ++ flat ms) ≡ length m + length (flat ms) = length-append m (flat ms) in
      let held = left_so pre out (length (flat pre)) (length pre) o.left in
      let can = holds_can out (length (flat pre)) (length pre) pre held in
      let step = goes_on out (length (flat pre)) (length pre) m can (one_is m o.whole.0)
      (so_fit (length out) (length (flat pre) + length m) (length pre + 1) (omega (arith, o.fit, l))) in
      let out-is : out ≡ flat pre ++ (m ++ (flat ms ++ rest)) =
      o.made ∙ ap (λ l. flat pre ++ l) (append_assoc m (flat ms) rest) in
      let same : out ≡ put out (length (flat pre)) m =
      out-is ∙ sym (put_there (flat pre) m (flat ms ++ rest)) ∙ ap (λ x. put x (length (flat pre)) m) (sym out-is) in
      let next = onward pre out (length (flat pre)) (length pre) o.left m out (length (flat pre) + length m)
      (length pre + 1) step same in
      record {
        made = out-is ∙ sym (append_assoc (flat pre) m (flat ms ++ rest)) ∙ ap (λ l. l ++ (flat ms ++ rest)) (sym f);
        whole = o.whole.1;
        left = subst (λ u. Records (pre ++ m ∷ []) out u (length (pre ++ m ∷ []))) (sym n)
            (subst (λ c. Records (pre ++ m ∷ []) out (length (flat pre) + length m) c) (sym k) next);
        fit = omega (arith, o.fit, n, k, l);
      }

  all_on : (ms pre : List (List ℕ)) (rest : List ℕ) → On pre ms rest
      → Records (pre ++ ms) out (length (flat (pre ++ ms))) (length (pre ++ ms))
  all_on [] pre rest o = subst (λ l. Records l out (length (flat l)) (length l)) (sym (append-nil pre)) o.left
  all_on (m ∷ ms) pre rest o =
      subst (λ l. Records l out (length (flat l)) (length l)) (append_assoc pre (m ∷ []) ms)
      (all_on ms (pre ++ m ∷ []) rest (one_on pre ms m rest o))

  so_left : (ms : List (List ℕ)) (used count : ℕ) → Holds ms out used count → Records ms out used count
  so_left ms used count h = go h.room
    where
      at_the_end : Records ms out (length (flat ms)) (length ms) → Records ms out used count
      at_the_end l =
          subst (λ u. Records ms out u count) h.sized
          (subst (λ c. Records ms out (length (flat ms)) c) h.as_many l)

      none_yet : (ks : List (List ℕ)) → length ks ≡ 0 → Records ks out (length (flat ks)) (length ks)
      none_yet [] e = nothing out
      none_yet (k ∷ ks) e = absurd (omega arith)

      go : ((used ≡ 0) × (count ≡ 0)) ⊎ (used + 4 * count + 12 ≤ min (length out) 65536) → Records ms out used count
      go (inl (a, b)) = at_the_end (none_yet ms (h.as_many ∙ b))
      go (inr r) = at_the_end (all_on ms [] (drop used out) (record {
        made = sym (take-append-drop used out) ∙ ap (λ l. l ++ drop used out) h.made;
        whole = h.whole;
        left = nothing out;
        fit = omega (arith, h.sized, h.as_many);
      }))

pub thirteen : (out : List ℕ) (used count : ℕ)
    → (can_be_left out used count ≡ true) ↔ ((ms : List (List ℕ)) × Records ms out used count)
thirteen out used count = (
  λ e. let (ms, h) = can_holds out used count e in (ms, so_left out ms used count h),
  λ (ms, l). holds_can out used count ms (left_so ms out used count l),
)

-- what recording left is not refused with 13
module _ (ms : List (List ℕ)) (out : List ℕ) (used count : ℕ) (l : Records ms out used count) where
  can : can_be_left out used count ≡ true
  can = (thirteen out used count).1 (ms, l)

  pub never_13 : (m : List ℕ) → recorded out used count m ≡ Err Refusal.NoTrace → ⊥
  unfolding recorded
  never_13 m e = grind (arith, common_steps, can)

  pub finishes : finished out used count ≡ Err Refusal.NoTrace → ⊥
  unfolding finished
  finishes e = grind (arith, common_steps, can)

-- the numbers of refusals are none of them 0
some_number : (r : Refusal) → 1 ≤ number_of r
some_number Refusal.NoRoom = omega arith
some_number Refusal.NoTrace = omega arith
some_number Refusal.Misframed = omega arith
some_number Refusal.NoSuchMessage = omega arith

module _ (out : List ℕ) (used count : ℕ) where
  pub record_numbers : (m : List ℕ) (r : Refusal) → recorded out used count m ≡ Err r → 1 ≤ number_of r
  record_numbers m r e = some_number r

  pub finish_numbers : (r : Refusal) → finished out used count ≡ Err r → 1 ≤ number_of r
  finish_numbers r e = some_number r

-- a refused call changes nothing
module _ (out : List ℕ) (used count : ℕ) (r : Refusal) where
  pub record_unchanged : (m : List ℕ) → recorded out used count m ≡ Err r
      → with_message out used m (recorded out used count m) ≡ out
  record_unchanged m e = ap (with_message out used m) e

  pub finish_unchanged : finished out used count ≡ Err r
      → with_ending out used (finished out used count) ≡ out
  finish_unchanged e = ap (with_ending out used) e
