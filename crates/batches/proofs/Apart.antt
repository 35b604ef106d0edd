-- The calls of a batch, with their replies, are told by the input, the count handled and the bytes written: each took
-- one frame and wrote one frame. Assumes nothing.
use Prim.Native.Nat.{ℕ, zero, suc, ◌-◌}
use mathlib.Core.Path.{◌≡◌, refl, sym, ap, ap₂, ◌∙◌}
use mathlib.Core.Bool.{Bool, true, false}
use mathlib.Core.List.{List, ◌∷◌, ◌++◌}
use native.Mathlib.Omega.{arith}
use lib.ListN.{length, take, drop, length-append}
use lib.Seq.{take_at, drop_at, drop-drop}
use borrow.Author.Tests.{eqb-true}
use Rattle.framing.specs.Framing.{framing, frame_length}
use Rattle.ledger.specs.Ledger.{Exchange, trace}
use Rattle.synth.specs.Channel.{View}
use Rattle.synth.specs.Calls.{Call, Reply, call}
use Rattle.synth.proofs.ReadFrames.{bytes_framed}
use Rattle.synth.proofs.Theorems.HandledCalls.{lending, request_handled}
use Rattle.synth.proofs.Theorems.OneResponse.{request_writes}
use Rattle.batches.specs.Batches.{Stand, next_call, tried, onward, calls_from, apart}
use Rattle.batches.proofs.Walking.{written_by, goes_on_lem, calls_on, calls_off}

-- what a handled request consumed is its frame, and what it wrote is one frame, whatever stands behind it
record Frames (s : List ℕ) (r : Reply) : Type 0 where
  number : r.number ≡ 0
  asked : r.consumed ≡ frame_length (framing s)
  answered : (rest : List ℕ) → frame_length (framing (r.written ++ rest)) ≡ length r.written

frames : (v : View) (s : List ℕ) (room : ℕ) → (call v (lending s room)).reply.number ≡ 0
    → Frames s (call v (lending s room)).reply
frames v s room z =
    let h = request_handled v s room z in
    let w = request_writes h in
    record {
      number = z;
      asked = h.delivers.consumes ∙ sym (ap frame_length h.framed.frame);
      answered = λ rest. ap frame_length (bytes_framed _ _ _ _ (w.reads_back rest)).frame;
    }

module _ (s rest : List ℕ) (room k : ℕ) (r : Reply) (f : Frames s r) where
  first_apart : (xs : List (Exchange Call Reply))
      → apart k (drop r.consumed s) rest (room - length r.written) ≡ xs
      → apart (suc k) s (r.written ++ rest) room ≡ record { call = lending s room; reply = r } ∷ xs
  unfolding apart
  first_apart xs e =
      let n = f.answered rest in
      let front : take (frame_length (framing (r.written ++ rest))) (r.written ++ rest) ≡ r.written =
      ap (λ k. take k (r.written ++ rest)) n ∙ take_at r.written rest (length r.written) refl in
      let behind : drop (frame_length (framing (r.written ++ rest))) (r.written ++ rest) ≡ rest =
      ap (λ k. drop k (r.written ++ rest)) n ∙ drop_at r.written rest (length r.written) refl in
      ap₂ ◌∷◌
      (λ i. record {
        call = lending s room;
        reply = record { number = sym f.number i; consumed = sym f.asked i; written = front i };
      })
      ((λ i. apart k (drop (sym f.asked i) s) (behind i) (room - n i)) ∙ e)

-- what is told of the calls from b on
abbrev Told : List ℕ → ℕ → Stand → List Call → Type 0
Told s room b cs =
    let xs : List (Exchange Call Reply) = trace call b.channel cs in
    apart (length cs) (drop b.consumed s) (written_by xs) (room - length b.written) ≡ xs

module _ (s : List ℕ) (room n : ℕ) (b : Stand) where
  next_told : (tried s room b).reply.number ≡ 0 → (cs : List Call) → Told s room (onward b (tried s room b)) cs
      → Told s room b (next_call s room b ∷ cs)
  next_told z cs h =
      let r = (tried s room b).reply in
      let rest : List ℕ = written_by (trace call (tried s room b).next cs) in
      let left : room - length b.written - length r.written ≡ room - length (b.written ++ r.written) =
      omega (arith, length-append b.written r.written) in
      first_apart (drop b.consumed s) rest (room - length b.written) (length cs) r (frames b.channel _ _ z) _
      (ap₂ (λ u m. apart (length cs) u rest m) (drop-drop r.consumed b.consumed s) left ∙ h)

  told_step : ((c : Stand) → Told s room c (calls_from n s room c)) → (test : Bool) → goes_on_lem s room b ≡ test
      → Told s room b (calls_from (suc n) s room b)
  unfolding apart
  told_step ih true e =
      let c = onward b (tried s room b) in
      rw (calls_on s room n b e) (next_told (eqb-true _ 0 e) (calls_from n s room c) (ih c))
  told_step ih false e = rw (calls_off s room n b e)

pub told_apart : (n : ℕ) (s : List ℕ) (room : ℕ) (b : Stand) → Told s room b (calls_from n s room b)
unfolding calls_from apart
told_apart zero s room b = refl
told_apart (suc n) s room b = told_step s room n b (told_apart n s room) (goes_on_lem s room b) refl
