-- What every call on a channel promises: document 01, "Refusal numbers" and "How tight the promises are".
use Rattle.std.specs.Prelude.{ℕ, ◌≡◌, List, ◌++◌, length, drop, Option, None, Result, Ok, Err}
use Rattle.ledger.specs.Ledger.{Turn}
use Rattle.synth.specs.Channel.{View}
use Rattle.synth.specs.Calls.{Lent, Reply, call}
use Rattle.synth.specs.declared.Edition.{Edition}
use Rattle.settings.specs.Kept.{further_on}
use Rattle.channelnames.specs.Names.{name_of}
use Rattle.channel.specs.Channel.{view}
use Rattle.channel.specs.declared.Channel.{Channel}
use Rattle.calls.specs.Refusals.{number_of}
use Rattle.calls.specs.declared.Refused.{Refused}
use Rattle.calls.specs.declared.Handled.{Handled}

-- a call's number, the counts consumed and written, the channel and the lent output, as it leaves them
pub record Left : Type 0 where
  pub number : ℕ
  pub consumed : ℕ
  pub written : ℕ
  pub channel : View
  pub out : List ℕ

-- what a turn leaves: the bytes written stand at the front of the output, and beyond that count it is untouched
abbrev pub left_by : Turn View Reply → List ℕ → Left
left_by t out = record {
  number = t.reply.number;
  consumed = t.reply.consumed;
  written = length t.reply.written;
  channel = t.next;
  out = t.reply.written ++ drop (length t.reply.written) out;
}

-- what a call returns: its number, the counts consumed and written, the last id seen, the channel, and the edition
-- that it makes
pub record Returned : Type 0 where
  pub number : ℕ
  pub consumed : ℕ
  pub written : ℕ
  pub last : Option ℕ
  pub channel : Channel
  pub further : Option Edition

-- a refused call leaves last id and channel, handed in by value, as they were
abbrev pub refusing : Option ℕ → Channel → ℕ → ℕ → Returned
refusing last c number consumed =
    record { number = number; consumed = consumed; written = 0; last = last; channel = c; further = None }

abbrev pub returned : Option ℕ → Channel → Result Handled Refused → Returned
returned last c (Ok h) = record {
  number = 0;
  consumed = h.consumed;
  written = h.written;
  last = h.last;
  channel = h.channel;
  further = h.further;
}
returned last c (Err e) = refusing last c (number_of e.refusal) e.consumed

-- what is left, from what the code returns and the output afterwards
abbrev pub left_in : Option ℕ → Channel → List Edition → Result Handled Refused → List ℕ → Left
left_in last c es r out =
    let came : Returned = returned last c r in
    record {
      number = came.number;
      consumed = came.consumed;
      written = came.written;
      channel = view came.last came.channel (further_on came.further es);
      out = out;
    }

-- a call on the channel c with these editions leaves what the turn t says, under the same name; a refused call gives
-- back the very channel handed in
pub record Leaves (last : Option ℕ) (c : Channel) (es : List Edition) (t : Turn View Reply) (out : List ℕ)
    (r : Result Handled Refused) (after : List ℕ) : Type 0 where
  pub same : left_in last c es r after ≡ left_by t out
  pub named : name_of (returned last c r).channel.name ≡ name_of c.name
  pub kept : ((returned last c r).number ≡ 0 → ⊥)
      → ((returned last c r).last ≡ last) × ((returned last c r).channel ≡ c) × ((returned last c r).further ≡ None)

-- the promise of `handle`, `report` and `go_back`: of any channel, any input, cause or number, and any output
abbrev pub Promise : Option ℕ → Channel → List Edition → Lent → List ℕ → Result Handled Refused → List ℕ → Type 0
Promise last c es lent out r after = Leaves last c es (call (view last c es) (record { lent = lent; room = length out })) out r after
