-- What recording and finishing wrote, reading gives back: message n of the finished file is the n-th recorded. Where
-- finishing refuses with 7, nothing was recorded and the output is under 12 bytes. Assumes nothing.
use Prim.Native.Nat.{ℕ, ◌+◌, ◌-◌, ◌*◌, ◌≤◌, ◌<◌, min}
use mathlib.Core.Path.{◌≡◌, refl, sym, ap, ap₂, subst, ◌∙◌}
use mathlib.Core.Bool.{true}
use mathlib.Core.Logic.{◌⊎◌, inl, inr}
use mathlib.Core.List.{List, [], ◌∷◌, ◌++◌}
use native.Mathlib.Omega.{arith}
use lib.ListN.{length, take, get_or}
use Rattle.writers.specs.Buffer.{put}
use Rattle.traces.specs.Traces.{ending, file, IsFile, frames_in, trace_of, message_of, part_of}
use Rattle.traces.specs.Traces.{can_be_left, finished, messages_in, with_ending, Records}
use Rattle.std.specs.Prelude.{Ok, Err}
use Rattle.std.proofs.lemmas.Grind.{common_steps}
use Rattle.traces.specs.declared.Refusal.{Refusal}
use Rattle.traces.proofs.Walking.{frames_flat}
use Rattle.traces.proofs.Files.{ending_length, file_length}
use Rattle.traces.proofs.Unfinished.{Holds, put_behind}
use Rattle.traces.proofs.Theorems.ReadsExactly.{is_read}
use Rattle.traces.proofs.Theorems.MessageN.{nth}
use Rattle.traces.proofs.Theorems.Recording.{left_so, thirteen}

module _ (ms : List (List ℕ)) (out : List ℕ) (used count : ℕ) (l : Records ms out used count) where
  h : Holds ms out used count
  h = left_so ms out used count l

  can : can_be_left out used count ≡ true
  can = (thirteen out used count).1 (ms, l)

  -- the bytes that finishing leaves
  abbrev then : List ℕ
  then = with_ending out used (finished out used count)

  fitting : (n : ℕ) → finished out used count ≡ Ok n
      → (n ≡ used + 4 * count + 12) × (used + 4 * count + 12 ≤ min (length out) 65536)
  unfolding finished
  fitting n e = grind (arith, common_steps, can)

  ended : (n : ℕ) → finished out used count ≡ Ok n → then ≡ put out used (ending ms)
  ended n e =
      ap (with_ending out used) e
      ∙ ap (λ r. put out used (ending (messages_in r))) (ap frames_in h.made ∙ frames_flat ms h.whole)

  pub is_file : (n : ℕ) → finished out used count ≡ Ok n → IsFile (take n then) ms
  unfolding file
  is_file n e =
      let (p, q) = fitting n e in
      let size : used + length (ending ms) ≡ n = omega (arith, p, ending_length ms, h.as_many) in
      let made : take n then ≡ file ms =
      ap₂ take (sym size) (ended n e)
      ∙ put_behind out (ending ms) used (omega (arith, q))
      ∙ ap (λ s. s ++ ending ms) h.made in
      record {
        made = made;
        whole = h.whole;
        most = subst (λ f. length f ≤ 65536) (sym made) (omega (arith, q, file_length ms, h.sized, h.as_many));
      }

  pub given_back : (n : ℕ) → finished out used count ≡ Ok n → trace_of (take n then) ≡ Ok ms
  given_back n e = is_read (take n then) ms (is_file n e)

  pub nth_recorded : (n : ℕ) → finished out used count ≡ Ok n → (k : ℕ) → 1 ≤ k → k ≤ length ms
      → part_of (message_of (take n then) k) (take n then) ≡ get_or ms (k - 1) []
  nth_recorded n e k a b = nth (take n then) ms (is_file n e) k a b

  pub seven_only : finished out used count ≡ Err Refusal.NoRoom → (ms ≡ []) × (length out < 12)
  unfolding finished
  seven_only e = go h.room
    where
      none_yet : (ks : List (List ℕ)) → length ks ≡ 0 → ks ≡ []
      none_yet [] z = refl
      none_yet (k ∷ ks) z = absurd (omega arith)

      short : min (length out) 65536 < used + 4 * count + 12
      short = grind (arith, common_steps, can)

      go : ((used ≡ 0) × (count ≡ 0)) ⊎ (used + 4 * count + 12 ≤ min (length out) 65536)
          → (ms ≡ []) × (length out < 12)
      go (inl (a, b)) =
          (none_yet ms (h.as_many ∙ b), omega (arith, short, a, b))
      go (inr r) = absurd (omega (arith, short))
