-- What the calls from C recorded and finished, they give back: message k of the file is the k-th that a call recorded,
-- whatever calls were refused between. Assumes nothing.
use Prim.Native.Nat.{ℕ, zero, suc, ◌-◌, ◌≤◌}
use mathlib.Core.Path.{◌≡◌, refl, sym, ap, subst, ◌∙◌}
use mathlib.Core.List.{List, [], ◌∷◌}
use native.Mathlib.Omega.{arith}
use lib.ListN.{length, take, get_or}
use Rattle.writers.specs.Buffer.{put}
use Rattle.traces.specs.Traces.{IsFile, entry, part_of, recorded, finished, with_ending, Records, nothing, onward}
use Rattle.traces.specs.declared.Recorded.{Recorded}
use Rattle.std.specs.Prelude.{Result, Ok, Err}
use Rattle.traces.specs.declared.Refusal.{Refusal}
use Rattle.traces.specs.Refusals.{number_of}
use Rattle.traces.proofs.Theorems.MessageN.{is_there_lem, nth}
use Rattle.traces.proofs.Theorems.Recording.{record_numbers, finish_numbers}
use Rattle.traces.proofs.Theorems.GivenBack.{is_file}
use Rattle.recorder.specs.Face.{entry_as, message_face, RecordCall, recorded_in, record_face, FinishCall}
use Rattle.recorder.specs.Face.{finished_as, finish_face, joins, Calls, begun, called, Told}

-- the trace has two numbers, and recording left them
record Keeps (ms : List (List ℕ)) (out trace : List ℕ) : Type 0 where
  used : ℕ
  count : ℕ
  is : trace ≡ used ∷ count ∷ []
  left : Records ms out used count

-- one call more
module _ (ms : List (List ℕ)) (out m : List ℕ) (used count : ℕ) (l : Records ms out used count) where
  abbrev After : RecordCall → Type 0
  After c = Keeps (joins c.number m ms) c.out c.trace

  step : (r : Result Recorded Refusal) → recorded out used count m ≡ r
      → After (recorded_in (used ∷ count ∷ []) out used m r)
  step (Err r) e = record {
    used = used;
    count = count;
    is = refl;
    left = joins_none (number_of r) (record_numbers out used count m r e);
  }
    where
      joins_none : (n : ℕ) → 1 ≤ n → Records (joins n m ms) out used count
      joins_none zero h = absurd (omega (arith, h))
      joins_none (suc n) h = l
  step (Ok t) e = record {
    used = t.used;
    count = t.count;
    is = refl;
    left = onward ms out used count l m (put out used m) t.used t.count e refl;
  }

  stepped : After (record_face out (used ∷ count ∷ []) m)
  unfolding record_face
  stepped = step (recorded out used count m) refl

keeps : (ms : List (List ℕ)) (out trace : List ℕ) → Calls ms out trace → Keeps ms out trace
keeps ms x t (begun out) = record { used = 0; count = 0; is = refl; left = nothing out }
keeps ns x t (called ms out trace l m c e) =
    let k = keeps ms out trace l in
    let s = stepped ms out m k.used k.count k.left in
    let f : record_face out (k.used ∷ k.count ∷ []) m ≡ c = ap (λ t. record_face out t m) (sym k.is) ∙ sym e in
    subst (λ c. Keeps (joins c.number m ms) c.out c.trace) f s

told : (f : List ℕ) (ms : List (List ℕ)) → IsFile f ms → (k : ℕ) → 1 ≤ k → k ≤ length ms
    → Told f k (get_or ms (k - 1) [])
unfolding message_face
told f ms i k a b = record {
  start = entry f (k - 1);
  len = entry f k - entry f (k - 1);
  says = λ place. ap (entry_as place) (is_there_lem f ms i k a b);
  there = sym (ap (λ x. part_of x f) (is_there_lem f ms i k a b)) ∙ nth f ms i k a b;
}

module _ (ms : List (List ℕ)) (out : List ℕ) (used count : ℕ) (l : Records ms out used count) (p n : ℕ) where
  finish_by : (r : Result ℕ Refusal) → finished out used count ≡ r → (c : FinishCall)
      → c ≡ finished_as (p ∷ []) (with_ending out used r) r → c.number ≡ 0 → c.length ≡ n ∷ []
      → IsFile (take n c.out) ms
  finish_by (Err r) e c q z s =
      let y : number_of r ≡ 0 = sym (ap (λ (c : FinishCall). c.number) q) ∙ z in
      absurd (omega (arith, finish_numbers out used count r e))
  finish_by (Ok k) e c q z s =
      let y : k ∷ [] ≡ n ∷ [] = sym (ap (λ (c : FinishCall). c.length) q) ∙ s in
      let x : k ≡ n = cc in
      let o : c.out ≡ with_ending out used (finished out used count) =
      ap (λ (c : FinishCall). c.out) q ∙ ap (with_ending out used) (sym e) in
      subst (λ o. IsFile (take n o) ms) (sym o) (is_file ms out used count l n (e ∙ ap Ok x))

pub given_back : (ms : List (List ℕ)) (out : List ℕ) (used count : ℕ) → Calls ms out (used ∷ count ∷ [])
    → (p n : ℕ) (c : FinishCall) → c ≡ finish_face out used count (p ∷ []) → c.number ≡ 0 → c.length ≡ n ∷ []
    → (k : ℕ) → 1 ≤ k → k ≤ length ms → Told (take n c.out) k (get_or ms (k - 1) [])
unfolding finish_face
given_back ms out used count l p n c e z s k a b =
    let h = keeps ms out (used ∷ count ∷ []) l in
    let u : h.used ≡ used = cc in
    let v : h.count ≡ count = cc in
    let r = subst (λ x. Records ms out x count) u (subst (λ y. Records ms out h.used y) v h.left) in
    told (take n c.out) ms (finish_by ms out used count r p n (finished out used count) refl c e z s) k a b
