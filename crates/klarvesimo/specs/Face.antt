-- The calls of the C face on a channel that the caller keeps as 89 numbers. The layout is that of include/klarvesimo.h.
use Rattle.std.specs.Prelude.{ℕ, zero, suc, true, false, List, [], ◌++◌, ltb, length, drop, set, Result, Ok, Err}
use Rattle.std.proofs.Math.Option.{Option, none, some}
use Rattle.ledger.specs.Ledger.{Turn}
use Rattle.synth.specs.Channel.{View, held, sound}
use Rattle.synth.specs.Calls.{Lent, back, Reply, call, open_channel}
use Rattle.calls.specs.Refusals.{number_of}
use Rattle.calls.specs.declared.Refusal.{Refusal}
use Rattle.channelnumbers.specs.Numbers.{numbers_of, view_of}

-- an opening's number, and the channel's numbers
pub record OpenFace : Type 0 where
  pub number : ℕ
  pub channel : List ℕ

unfoldable pub open_face : List ℕ → OpenFace
open_face name = record { number = (open_channel name).number; channel = numbers_of (open_channel name).channel }

-- a call's number, the channel's numbers, the counts consumed and written, and the lent output, as it leaves them
pub record CallFace : Type 0 where
  pub number : ℕ
  pub channel : List ℕ
  pub consumed : ℕ
  pub written : ℕ
  pub out : List ℕ

-- a refused call leaves the channel's numbers as they were; a handled one gives them anew
abbrev pub keeping : ℕ → List ℕ → View → List ℕ
keeping zero ws next = numbers_of next
keeping (suc n) ws next = ws

abbrev pub turn_face : Turn View Reply → List ℕ → List ℕ → CallFace
turn_face t ws out = record {
  number = t.reply.number;
  channel = keeping t.reply.number ws t.next;
  consumed = t.reply.consumed;
  written = length t.reply.written;
  out = t.reply.written ++ drop (length t.reply.written) out;
}

-- 21 where the numbers are no channel, and where they are one that is not sound
abbrev pub call_on : Option View → List ℕ → Lent → List ℕ → CallFace
call_on none ws lent out = record { number = 21; channel = ws; consumed = 0; written = 0; out = out }
call_on (some v) ws lent out = turn_face (call v (record { lent = lent; room = length out })) ws out

-- a client message, an engine report or a going back
unfoldable pub call_face : List ℕ → Lent → List ℕ → CallFace
call_face ws lent out = call_on (view_of ws) ws lent out

-- the same with the places lent for the counts consumed and written
pub record HandleCall : Type 0 where
  pub number : ℕ
  pub channel : List ℕ
  pub counts : List ℕ
  pub out : List ℕ

abbrev pub counted : List ℕ → CallFace → HandleCall
counted counts f = record {
  number = f.number;
  channel = f.channel;
  counts = set (set counts 0 f.consumed) 1 f.written;
  out = f.out;
}

-- and with a place for the count written alone
pub record ReportCall : Type 0 where
  pub number : ℕ
  pub channel : List ℕ
  pub written : List ℕ
  pub out : List ℕ

abbrev pub reported : List ℕ → CallFace → ReportCall
reported written f = record {
  number = f.number;
  channel = f.channel;
  written = set written 0 f.written;
  out = f.out;
}

-- a going back: no output and no place for a count is lent
pub record BackFace : Type 0 where
  pub number : ℕ
  pub channel : List ℕ

abbrev pub gone : CallFace → BackFace
gone f = record { number = f.number; channel = f.channel }

unfoldable pub back_face : List ℕ → ℕ → BackFace
back_face ws number = gone (call_face ws (back number) [])

-- the number, how many ids are held, and the lent numbers with the ids at their front
pub record HeldFace : Type 0 where
  pub number : ℕ
  pub count : ℕ
  pub ids : List ℕ

-- 7 where they are more than the lent numbers
abbrev pub fitting : List ℕ → List ℕ → HeldFace
fitting ids out = elim (ltb (length out) (length ids)) [
  | true ↦ record { number = 7; count = 0; ids = out }
  | false ↦ record { number = 0; count = length ids; ids = ids ++ drop (length ids) out }
]

abbrev pub held_on : Option View → List ℕ → HeldFace
held_on none out = record { number = 21; count = 0; ids = out }
held_on (some v) out = elim (sound v) [
  | true ↦ fitting (held v) out
  | false ↦ record { number = 21; count = 0; ids = out }
]

unfoldable pub held_face : List ℕ → List ℕ → HeldFace
held_face ws out = held_on (view_of ws) out

-- the same from what the code returns: how many, or why none are listed
abbrev pub listing : Result ℕ Refusal → List ℕ → HeldFace
listing (Ok count) ids = record { number = 0; count = count; ids = ids }
listing (Err refusal) ids = record { number = number_of refusal; count = 0; ids = ids }

pub record HeldCall : Type 0 where
  pub number : ℕ
  pub count : List ℕ
  pub ids : List ℕ

abbrev pub listed : List ℕ → HeldFace → HeldCall
listed count f = record { number = f.number; count = set count 0 f.count; ids = f.ids }
