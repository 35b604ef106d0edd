-- A BUFFER FULL OF MESSAGES. It leaves the channel, and writes the bytes, of one call for each message that it handled,
-- each on the rest of the input with the output left over; at most 64, and each of those calls returned 0. It ends
-- after 64 with 0, or at the first refusal with that one's number and what it consumed; where the input is used up
-- before, with 1. It keeps to what is lent. Those calls with their replies can be told from the input, the count
-- handled and the bytes written alone. A sound channel stays sound, and one that is not gives 21. Assumes nothing.
use Prim.Native.Nat.{ℕ, ◌+◌, ◌-◌, ◌≤◌, ◌<◌, zero-le}
use mathlib.Core.Path.{◌≡◌, refl, ap, ◌∙◌}
use mathlib.Core.Bool.{true, false}
use mathlib.Core.List.{List, []}
use mathlib.Core.Logic.{⊎_elim}
use native.Mathlib.Omega.{arith}
use lib.Dec.{eqb}
use lib.ListN.{length, drop, drop_of_length-le}
use borrow.Author.Tests.{eqb-true, eqb-false, ne_eqb}
use Rattle.lists.specs.Lists.{All}
use Rattle.lists.proofs.Tests.{choose}
use Rattle.ledger.specs.Ledger.{Exchange, Turn, after, trace}
use Rattle.synth.specs.Channel.{View, sound}
use Rattle.synth.specs.Calls.{Call, Reply, refuse, call}
use Rattle.synth.proofs.Theorems.HandledCalls.{lending}
use Rattle.synth.proofs.Theorems.Soundness.{call_sound}
use Rattle.batches.specs.Batches.{Stand, begun, next_call, tried, stand}
use Rattle.batches.specs.Batches.{Batch, stopping, ended, batch, calls_of, apart}
use Rattle.batches.proofs.Walking.{written_by, consumed_by, Walked, walked, walk_off, walk_keeps}
use Rattle.batches.proofs.Bounds.{Lies, next_lies, walk_lies, waits}
use Rattle.batches.proofs.Apart.{told_apart}

-- these calls, and no more
pub record AsCalls (v : View) (t : Turn View Batch) (cs : List Call) : Type 0 where
  pub leaves : t.next ≡ after call v cs
  pub writes : t.reply.written ≡ written_by (trace call v cs)
  pub counts : t.reply.handled ≡ length cs
  pub handles : All (λ (x : Exchange Call Reply). x.reply.number ≡ 0) (trace call v cs)
  pub few : t.reply.handled ≤ 64

-- after 64 messages, which consumed so much; or before the message that would be next, whose call was refused
pub data Stops (passed : ℕ) (next : Reply) (r : Batch) : Type 0 where
  full : r.handled ≡ 64 → r.number ≡ 0 → r.consumed ≡ passed → Stops passed next r
  refused : r.handled < 64 → (r.number ≡ 0 → ⊥) → r.number ≡ next.number → r.consumed ≡ passed + next.consumed
      → Stops passed next r

module _ (v : View) (s : List ℕ) (room : ℕ) where
  abbrev b : Stand
  b = stand v s room

  abbrev cs : List Call
  cs = calls_of v s room

  steps : Walked 64 s room (begun v) b cs
  steps = walked 64 s room (begun v)

  abbrev next : Reply
  next = (tried s room b).reply

  -- whichever way it ended, what was handled stands
  either : (P : Turn View Batch → Type 0) → (eqb b.handled 64 ≡ true → P (stopping b 0 0))
      → (eqb b.handled 64 ≡ false → P (stopping b next.number next.consumed)) → P (batch v s room)
  unfolding batch
  either P = choose P (eqb b.handled 64)

  handled_stand : (batch v s room).reply.handled ≡ b.handled
  handled_stand = either (λ t. t.reply.handled ≡ b.handled) (λ _. refl) (λ _. refl)

  written_stand : (batch v s room).reply.written ≡ b.written
  written_stand = either (λ t. t.reply.written ≡ b.written) (λ _. refl) (λ _. refl)

  left_stand : (batch v s room).next ≡ b.channel
  left_stand = either (λ t. t.next ≡ b.channel) (λ _. refl) (λ _. refl)

  pub as_calls_lem : AsCalls v (batch v s room) cs
  as_calls_lem = record {
    leaves = left_stand ∙ steps.leaves;
    writes = written_stand ∙ steps.writes;
    counts = handled_stand ∙ steps.counts ∙ omega arith;
    handles = steps.handles;
    few = omega (arith, handled_stand, steps.counts, steps.few);
  }

  -- before 64 messages the next one is refused
  pub next_refused : eqb b.handled 64 ≡ false → eqb next.number 0 ≡ false
  next_refused e =
      ⊎_elim {C = eqb next.number 0 ≡ false}
      (λ f. absurd (eqb-false b.handled 64 e (omega (arith, f, steps.counts)))) (λ f. f) steps.stops

  pub stops : Stops (consumed_by (trace call v cs)) next (batch v s room).reply
  stops =
      let passed : b.consumed ≡ consumed_by (trace call v cs) = steps.consumes ∙ omega arith in
      either (λ t. Stops (consumed_by (trace call v cs)) next t.reply)
      (λ e. full (eqb-true b.handled 64 e) refl (omega (arith, passed)))
      (λ e. refused (omega (arith, steps.counts, steps.few, eqb-false b.handled 64 e))
      (eqb-false next.number 0 (next_refused e)) refl (ap (λ n. n + next.consumed) passed))

  lies : Lies s room b
  lies = walk_lies s room 64 (begun v) (record { consumed_there = zero-le; written_fits = zero-le })

  pub consumes_lent : (batch v s room).reply.consumed ≤ length s
  consumes_lent =
      either (λ t. t.reply.consumed ≤ length s) (λ _. omega (arith, lies.consumed_there))
      (λ _. omega (arith, (next_lies s room b lies).consumes, lies.consumed_there))

  pub writes_fit : length (batch v s room).reply.written ≤ room
  writes_fit = rw written_stand lies.written_fits

  pub from_outside : apart (batch v s room).reply.handled s (batch v s room).reply.written room ≡ trace call v cs
  from_outside =
      (λ i. apart (as_calls_lem.counts i) s (as_calls_lem.writes i) room)
      ∙ ap (apart (length cs) s (written_by (trace call v cs))) (omega arith)
      ∙ told_apart 64 s room (begun v)

  -- the first message is refused
  abbrev pub none_handled : ℕ → Turn View Batch
  none_handled n = record { reply = record { number = n; handled = 0; consumed = 0; written = [] }; next = v }

  none_handled_lem : (n : ℕ) → (n ≡ 0 → ⊥) → call v (lending s room) ≡ refuse v n 0
      → batch v s room ≡ none_handled n
  unfolding batch
  none_handled_lem n not_0 e =
      let first : tried s room (begun v) ≡ refuse v n 0 = ap (λ m. call v (lending s m)) (omega arith) ∙ e in
      let not_on = ap (λ (t : Turn View Reply). eqb t.reply.number 0) first ∙ ne_eqb n 0 not_0 in
      ap (ended s room) (walk_off s room 63 (begun v) not_on)
      ∙ ap (λ (t : Turn View Reply). stopping (begun v) t.reply.number t.reply.consumed) first

  -- a channel that is not sound
  pub unsound : sound v ≡ false → batch v s room ≡ none_handled 21
  unfolding call
  unsound e = none_handled_lem 21 (λ z. omega arith) (rw (e, call))

  module _ (e : sound v ≡ true) where
    pub still_sound : sound b.channel ≡ true
    still_sound =
        walk_keeps s room (λ c. sound c.channel ≡ true) (λ c _. call_sound c.channel (next_call s room c))
        64 (begun v) e

    pub stays_sound : sound (batch v s room).next ≡ true
    stays_sound = rw left_stand still_sound

    -- the input is used up before 64 messages, or nothing was lent
    pub used_up : (batch v s room).reply.handled < 64 → length s ≤ consumed_by (trace call v cs)
        → (batch v s room).reply.number ≡ 1
    used_up few all =
        let end : drop b.consumed s ≡ [] = drop_of_length-le s {i = b.consumed} (omega (arith, steps.consumes)) in
        let more : tried s room b ≡ refuse b.channel 1 0 =
        ap (λ l. call b.channel (lending l (room - length b.written))) end ∙ waits b.channel _ still_sound in
        either (λ t. t.reply.handled < 64 → t.reply.number ≡ 1)
        (λ f h. absurd (omega (arith, h, eqb-true b.handled 64 f)))
        (λ _ _. ap (λ (t : Turn View Reply). t.reply.number) more) few

    pub nothing_lent : s ≡ [] → batch v s room ≡ none_handled 1
    nothing_lent none = none_handled_lem 1 (λ z. omega arith) (ap (λ l. call v (lending l room)) none ∙ waits v room e)
