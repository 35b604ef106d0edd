-- A buffer full of messages: document 02, K6.
use Rattle.std.specs.Prelude.{ℕ, zero, suc, ◌+◌, ◌-◌, true, false, eqb, List, [], ◌∷◌, ◌++◌, length, take, drop}
use Rattle.framing.specs.Framing.{framing, frame_length}
use Rattle.ledger.specs.Ledger.{Exchange, Turn}
use Rattle.synth.specs.Channel.{View}
use Rattle.synth.specs.Calls.{input, Call, Reply, call}

-- the most messages of one call
abbrev pub most : ℕ
most = 64

-- where it stands: the channel, how many messages were handled, and what they consumed and wrote
pub record Stand : Type 0 where
  pub channel : View
  pub handled : ℕ
  pub consumed : ℕ
  pub written : List ℕ

abbrev pub begun : View → Stand
begun v = record { channel = v; handled = 0; consumed = 0; written = [] }

-- the call for the next message: the input that is left, with the output left over
abbrev pub next_call : List ℕ → ℕ → Stand → Call
next_call s room b = record { lent = input (drop b.consumed s); room = room - length b.written }

abbrev pub tried : List ℕ → ℕ → Stand → Turn View Reply
tried s room b = call b.channel (next_call s room b)

-- one message more is handled
abbrev pub onward : Stand → Turn View Reply → Stand
onward b t = record {
  channel = t.next;
  handled = suc b.handled;
  consumed = b.consumed + t.reply.consumed;
  written = b.written ++ t.reply.written;
}

-- so many messages at most, and none behind the first refusal
unfoldable pub walk : ℕ → List ℕ → ℕ → Stand → Stand
walk zero s room b = b
walk (suc n) s room b = elim (eqb (tried s room b).reply.number 0) [
  | true ↦ walk n s room (onward b (tried s room b))
  | false ↦ b
]

-- where the call stops
abbrev pub stand : View → List ℕ → ℕ → Stand
stand v s room = walk most s room (begun v)

-- what comes back: the number, how many were handled, and over all of them the count consumed and the bytes written
pub record Batch : Type 0 where
  pub number : ℕ
  pub handled : ℕ
  pub consumed : ℕ
  pub written : List ℕ

-- the number at which it stopped, and what that refusal consumed
abbrev pub stopping : Stand → ℕ → ℕ → Turn View Batch
stopping b number consumed = record {
  reply = record { number = number; handled = b.handled; consumed = b.consumed + consumed; written = b.written };
  next = b.channel;
}

-- after the most the number is 0, and no more input is looked at
abbrev pub ended : List ℕ → ℕ → Stand → Turn View Batch
ended s room b = elim (eqb b.handled most) [
  | true ↦ stopping b 0 0
  | false ↦ stopping b (tried s room b).reply.number (tried s room b).reply.consumed
]

-- all messages in the lent input, up to 64
unfoldable pub batch : View → List ℕ → ℕ → Turn View Batch
batch v s room = ended s room (stand v s room)

-- those calls, one for each message that was handled
unfoldable pub calls_from : ℕ → List ℕ → ℕ → Stand → List Call
calls_from zero s room b = []
calls_from (suc n) s room b = elim (eqb (tried s room b).reply.number 0) [
  | true ↦ next_call s room b ∷ calls_from n s room (onward b (tried s room b))
  | false ↦ []
]

abbrev pub calls_of : View → List ℕ → ℕ → List Call
calls_of v s room = calls_from most s room (begun v)

-- The same calls with their replies, as they are seen from outside: told from the input, the count handled and the
-- bytes written alone. Each takes one frame of the input and wrote one frame.
unfoldable pub apart : ℕ → List ℕ → List ℕ → ℕ → List (Exchange Call Reply)
apart zero s w room = []
apart (suc k) s w room =
    record {
      call = record { lent = input s; room = room };
      reply = record { number = 0; consumed = frame_length (framing s); written = take (frame_length (framing w)) w };
    }
    ∷ apart k (drop (frame_length (framing s)) s) (drop (frame_length (framing w)) w) (room - frame_length (framing w))

-- an act of demand 3: one call, or a buffer full of messages
pub data Act : Type 0 where
  one : Call → Act
  many : List ℕ → ℕ → Act

-- its calls
abbrev pub calls_in : View → Act → List Call
calls_in v (one c) = c ∷ []
calls_in v (many s room) = calls_of v s room

-- the channel after it
abbrev pub act_on : View → Act → View
act_on v (one c) = (call v c).next
act_on v (many s room) = (batch v s room).next

abbrev pub after_all : View → List Act → View
after_all v [] = v
after_all v (a ∷ xs) = after_all (act_on v a) xs

-- all acts as calls
abbrev pub as_calls : View → List Act → List Call
as_calls v [] = []
as_calls v (a ∷ xs) = calls_in v a ++ as_calls (act_on v a) xs
