-- Frames walked, and the index beside them: one law for each way that a turn of the loop can go. Assumes nothing.
use mathlib.Core.Option.{Option, none, some}
use mathlib.Core.Bool.{and-false}
use native.Mathlib.Nat.{add-zero}
use lib.Seq.{take-add}
use Rattle.std.proofs.Common.{ℕ, suc, ◌+◌, ◌*◌, ◌-◌, ◌≤◌, ◌<◌, ◌≡◌, ◌⊎◌, refl, sym, ap, ◌∙◌, inl, inr, arith, Fits, w8}
use Rattle.std.proofs.Common.{Bool, true, false, ◌&&◌, eqb, List, [], ◌∷◌, ◌++◌}
use Rattle.std.proofs.Common.{length, take, drop, get_or, length-drop, Ok, Err}
use Rattle.std.proofs.Math.Seq.{drop-drop, length-take-le}
use borrow.Author.Tests.{eq-eqb, ne_eqb, eqb-true}
use Rattle.lists.specs.Lists.{same}
use Rattle.framing.specs.Framing.{framing}
use Rattle.framing.specs.declared.Framed.{Framed}
use Rattle.framing.specs.declared.NoFrame.{NoFrame}
use Rattle.traces.specs.Traces.{number_at, four, index, ahead, frames_in}
use Rattle.tracereader.specs.Steps.{agrees_from, entries_agree}
use Rattle.traces.proofs.Numbers.{Octets, all_bytes, taken_length, entry_yes, entry_no, same_append}
use Rattle.traces.proofs.Walking.{frames_empty}
use Rattle.traces.proofs.Fronts.{FrontFrame, front_frame, no_front, none_left}

-- a file that index and trailer end exactly
pub record Ended (f : List ℕ) (begin count : ℕ) : Type 0 where
  pub ends : begin + 4 * count + 12 ≡ length f
  pub most : length f ≤ 65536
  pub octets : Octets f

pub ended : {f : List ℕ} {begin count : ℕ} → (begin + 4 * count + 12 ≡ length f) × (length f ≤ 65536)
    → ((k : ℕ) → Fits w8 (get_or f k 0)) → Ended f begin count
ended {f} r o = record { ends = r.0; most = r.1; octets = all_bytes f (λ k. omega (arith, o k)) }

module _ {f : List ℕ} {begin count : ℕ} (e : Ended f begin count) where
  -- what is left after k messages of i bytes
  abbrev pub left : ℕ → ℕ → Bool
  left k i = agrees_from f begin count k i (frames_in (drop i (take begin f)))

  pub left_start : entries_agree f begin count ≡ left 0 0
  unfolding entries_agree
  left_start = refl

  module _ (k i : ℕ) where
    abbrev l : List ℕ
    l = drop i (take begin f)

    rest_length : length l ≡ begin - i
    rest_length =
        length-drop i (take begin f) ∙ ap (λ (n : ℕ). n - i) (length-take-le begin f (omega (arith, e.ends)))

    -- nothing is left, and so many messages were walked
    nothing_left : l ≡ [] → left k i ≡ eqb k count
    nothing_left h =
        ap (λ l. agrees_from f begin count k i (frames_in l)) h ∙ rw frames_empty (go (eqb (k + 0) count) refl)
      where
        go : (b : Bool) → eqb (k + 0) count ≡ b
            → eqb (k + 0) count && same (take (4 * (count - k)) (drop (begin + 4 * k) f)) [] ≡ eqb k count
        go true e =
            let q : k ≡ count = sym (add-zero k) ∙ eqb-true (k + 0) count e in
            let z : 4 * (count - k) ≡ 0 = omega arith in
            rw (e, z, eq-eqb k count q)
        go false e = rw e (sym (rw (add-zero k) at e))

    pub left_end : begin ≤ i → left k i ≡ eqb k count
    left_end h = nothing_left (empty l (omega (arith, rest_length)))
      where
        empty : (l : List ℕ) → length l ≡ 0 → l ≡ []
        empty [] z = refl
        empty (x ∷ l) z = absurd (omega arith)

    -- bytes are left, and no entry
    pub left_over : count ≤ k → i < begin → left k i ≡ false
    left_over h more = go (frames_in l) refl
      where
        go : (r : Option (List (List ℕ))) → frames_in l ≡ r → agrees_from f begin count k i r ≡ false
        go none q = refl
        go (some []) q = let z = ap length (none_left l q) in absurd (omega (arith, rest_length, z))
        go (some (m ∷ ms)) q =
            rw (ne_eqb (k + suc (length ms)) count (λ e. let z : k + suc (length ms) ≡ count = e in omega arith))

    module _ (less : k < count) where
      abbrev p : ℕ
      p = begin + 4 * k

      nothing_more : eqb (k + 0) count ≡ false
      nothing_more = ne_eqb (k + 0) count (λ e. let z : k + 0 ≡ count = e in omega arith)

      split : take (4 * (count - k)) (drop p f)
          ≡ take 4 (drop p f) ++ take (4 * (count - (k + 1))) (drop (begin + 4 * (k + 1)) f)
      split =
          ap (λ (n : ℕ). take n (drop p f)) {x = 4 * (count - k)} {y = 4 + 4 * (count - (k + 1))} (omega arith)
          ∙ take-add 4 (4 * (count - (k + 1))) (drop p f)
          ∙ ap (λ l. take 4 (drop p f) ++ take (4 * (count - (k + 1))) l)
          (drop-drop 4 p f ∙ ap (λ (n : ℕ). drop n f) {x = p + 4} {y = begin + 4 * (k + 1)} (omega arith))

      at_p : p + 4 ≤ length f
      at_p = omega (arith, e.ends)

      apart : (t : List ℕ) → same (take (4 * (count - k)) (drop p f)) (four i ++ t)
          ≡ same (take 4 (drop p f)) (four i) && same (take (4 * (count - (k + 1))) (drop (begin + 4 * (k + 1)) f)) t
      unfolding four
      apart t =
          rw split
          (same_append (take 4 (drop p f)) (take (4 * (count - (k + 1))) (drop (begin + 4 * (k + 1)) f)) (four i) t
          (taken_length f e.octets p at_p))

      -- the entry is another
      pub left_other : i ≤ begin → (number_at f p ≡ i → ⊥) → left k i ≡ false
      left_other here h = go (frames_in l)
        where
          go : (r : Option (List (List ℕ))) → agrees_from f begin count k i r ≡ false
          go none = refl
          go (some []) = rw nothing_more
          go (some (m ∷ ms)) =
              rw (
                apart (index (i + length m) ms),
                entry_no f e.octets p at_p i (omega (arith, e.ends, e.most)) h,
                and-false (eqb (k + suc (length ms)) count),
              )

      -- no frame stands where it says
      pub left_unframed : (why : NoFrame) → framing l ≡ Err why → left k i ≡ false
      left_unframed why h = go (no_front l why h)
        where
          go : (l ≡ []) ⊎ (frames_in l ≡ none) → left k i ≡ false
          go (inl z) = nothing_left z ∙ ne_eqb k count (λ e. omega arith)
          go (inr z) = ap (agrees_from f begin count k i) z

      module _ (x : Framed) (is : framing l ≡ Ok x) where
        abbrev n : ℕ
        n = x.length

        ff : FrontFrame l n
        ff = front_frame l x is

        pub left_within : i + n ≤ begin
        left_within = omega (arith, ff.there, ff.some_bytes, rest_length)

        pub left_on : number_at f p ≡ i → left k i ≡ left (k + 1) (i + n)
        left_on h =
            ap (agrees_from f begin count k i) ff.opened
            ∙ last (frames_in (drop n l)) (length-take-le n l ff.there)
            ∙ ap (λ r. agrees_from f begin count (k + 1) (i + n) (frames_in r)) (drop-drop n i (take begin f))
          where
            last : (r : Option (List (List ℕ))) → length (take n l) ≡ n
                → agrees_from f begin count k i (ahead (take n l) r) ≡ agrees_from f begin count (k + 1) (i + n) r
            last none q = refl
            last (some ms) q =
                let c : k + suc (length ms) ≡ k + 1 + length ms = omega arith in
                rw (apart (index (i + length (take n l)) ms), entry_yes f e.octets p at_p i h, c, q)
