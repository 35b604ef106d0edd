-- A client message consumes no more than is lent and writes no more than there is room for; where nothing is lent a
-- sound channel waits for more. So a batch keeps to what is lent to it. Assumes nothing.
use Prim.Native.Nat.{ℕ, ◌-◌, ◌≤◌, zero-le}
use mathlib.Core.Path.{◌≡◌, refl, ap}
use mathlib.Core.Bool.{true}
use mathlib.Core.List.{List, []}
use native.Mathlib.Omega.{arith}
use lib.Dec.{ltb}
use lib.ListN.{length, take, drop, length-append, length-drop}
use borrow.Author.Tests.{ltb-false}
use Rattle.lists.proofs.Tests.{choose}
use Rattle.std.specs.Prelude.{Ok, Err}
use Rattle.framing.specs.Framing.{Framing, opening, framing, frame_length}
use Rattle.framing.specs.declared.NoFrame.TheVariants.{More, NoMessage, TooLong, TooShort}
use Rattle.framing.proofs.Frames.{length_there}
use Rattle.message.specs.Message.{request, response, event, Head, Reading, refused, message, part, on_reading}
use Rattle.message.specs.StartLines.{Started, started, start_line}
use Rattle.message.specs.Reading.{read_from, read_framed, reading, read_bytes}
use Rattle.answer.specs.Written.{written_all}
use Rattle.ledger.specs.Ledger.{Turn}
use Rattle.synth.specs.Channel.{View, kind, sound}
use Rattle.synth.specs.Request.{request_of}
use Rattle.synth.specs.States.{Outcome, judge}
use Rattle.synth.specs.Calls.{Reply, refuse, deliver, answer, call}
use Rattle.synth.proofs.Theorems.HandledCalls.{lending}
use Rattle.batches.specs.Batches.{Stand, tried, onward, walk}
use Rattle.batches.proofs.Walking.{walk_keeps}

-- so many bytes consumed at most, and so many written
pub record Within (lent room : ℕ) (t : Turn View Reply) : Type 0 where
  pub consumes : t.reply.consumed ≤ lent
  pub writes : length t.reply.written ≤ room

module _ (v : View) (lent room : ℕ) where
  refused_within : (n k : ℕ) → k ≤ lent → Within lent room (refuse v n k)
  refused_within n k h = record { consumes = h; writes = zero-le }

  delivered_within : (k : ℕ) (o : Outcome) → k ≤ lent → Within lent room (deliver v k room o)
  unfolding deliver
  delivered_within k o h =
      choose (Within lent room) (ltb room (length (written_all o.says))) (λ _. refused_within 7 0 zero-le)
      (λ e. record { consumes = h; writes = ltb-false room (length (written_all o.says)) e })

-- what reading says was consumed is there
abbrev Read : ℕ → Reading (List ℕ) → Type 0
Read lent (refused n k) = k ≤ lent
Read lent (message h st fs) = h.stated ≤ lent

read_there : (s : List ℕ) → Read (length s) (read_bytes s)
unfolding read_bytes reading
read_there s = by_framing (framing s) (length_there s)
  where
    by_line_lem : (h : Head) (f : List ℕ) → h.stated ≤ length s → (x : Started)
        → Read (length s) (on_reading (part s) (read_from h f x))
    by_line_lem h f there Started.malformed = there
    by_line_lem h f there (started st at) = there

    by_framing : (x : Framing) → frame_length x ≤ length s → Read (length s) (on_reading (part s) (read_framed s x))
    by_framing (Err More) there = zero-le
    by_framing (Err NoMessage) there = zero-le
    by_framing (Err TooLong) there = zero-le
    by_framing (Err TooShort) there = zero-le
    by_framing (Ok f) there = by_line_lem _ (take f.length s) there (start_line f.opening (take f.length s))

module _ (v : View) (s : List ℕ) (room : ℕ) where
  answer_within : (m : Reading (List ℕ)) → Read (length s) m → Within (length s) room (answer v room m)
  answer_within (refused n k) h = refused_within v (length s) room n k h
  answer_within (message x (request name id) fs) h =
      delivered_within v (length s) room x.stated (judge v (request_of (kind v) x name id fs)) h
  answer_within (message x (response id status state) fs) h = refused_within v (length s) room 6 x.stated h
  answer_within (message x (event name id state) fs) h = refused_within v (length s) room 6 x.stated h

  pub message_within : Within (length s) room (call v (lending s room))
  unfolding call
  message_within =
      choose (Within (length s) room) (sound v) (λ _. answer_within (read_bytes s) (read_there s))
      (λ _. refused_within v (length s) room 21 0 zero-le)

-- nothing lent: more is needed
none_read : read_bytes [] ≡ refused 1 0
none_read = unfold read_bytes reading framing opening in refl

pub waits : (v : View) (room : ℕ) → sound v ≡ true → call v (lending [] room) ≡ refuse v 1 0
unfolding call
waits v room e = rw (e, call) (ap (answer v room) none_read)

-- a batch that stands within what is lent
pub record Lies (s : List ℕ) (room : ℕ) (b : Stand) : Type 0 where
  pub consumed_there : b.consumed ≤ length s
  pub written_fits : length b.written ≤ room

module _ (s : List ℕ) (room : ℕ) where
  -- the call for its next message keeps to what is left
  pub next_lies : (b : Stand) → Lies s room b
      → Within (length s - b.consumed) (room - length b.written) (tried s room b)
  next_lies b h =
      let w = message_within b.channel (drop b.consumed s) (room - length b.written) in
      record { consumes = omega (arith, w.consumes, length-drop b.consumed s); writes = w.writes }

  pub onward_lies : (b : Stand) → Lies s room b → Lies s room (onward b (tried s room b))
  onward_lies b h =
      let w = next_lies b h in
      record {
        consumed_there = omega (arith, w.consumes, h.consumed_there);
        written_fits =
            omega (arith, w.writes, h.written_fits, length-append b.written (tried s room b).reply.written);
      }

  pub walk_lies : (n : ℕ) (b : Stand) → Lies s room b → Lies s room (walk n s room b)
  walk_lies = walk_keeps s room (Lies s room) (λ b _. onward_lies b)
