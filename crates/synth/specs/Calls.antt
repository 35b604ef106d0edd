-- Opening, client message, engine report and going back: document 01, "Refusal numbers", and document 02, K1 and K5.
use Rattle.std.specs.Prelude.{ℕ, Bool, true, false, ◌||◌, List, [], ◌∷◌, leb, ltb, Float, length}
use Rattle.std.proofs.Math.Option.{Option, none, some}
use Rattle.std.specs.Float.Ieee.{is_nan}
use Rattle.message.specs.Message.{Reading, refused, message, request, response, event}
use Rattle.message.specs.Reading.{read_bytes}
use Rattle.answer.specs.Written.{written_all}
use Rattle.answer.specs.Answers.{cause_names}
use Rattle.answer.specs.declared.Kind.{Kind}
use Rattle.ledger.specs.Ledger.{Turn}
use Rattle.synth.specs.Settings.{edition_at}
use Rattle.synth.specs.Channel.{View, kind, is, with_edition, fresh, well_named, sound}
use Rattle.synth.specs.Request.{request_of}
use Rattle.synth.specs.States.{Outcome, judge, completed}
use Rattle.synth.specs.declared.State.{State}
use Rattle.synth.specs.declared.State.TheVariants.{Speaking, Recognizing}
use Rattle.synth.specs.declared.Entry.{Entry}
use Rattle.synth.specs.declared.Edition.{Edition}

-- what is handed in: the lent input, the report's cause and score, or the number of the edition to go back to
pub data Lent : Type 0 where
  input : List ℕ → Lent
  report : ℕ → Float → Lent
  back : ℕ → Lent

-- a call, with the length of its lent output
pub record Call : Type 0 where
  pub lent : Lent
  pub room : ℕ

-- what comes back: the number, the count consumed, and the bytes written, which are as many as the count written
pub record Reply : Type 0 where
  pub number : ℕ
  pub consumed : ℕ
  pub written : List ℕ

-- a refusal returns its number and consumed count, writes no byte and keeps the channel as it was
abbrev pub refuse : View → ℕ → ℕ → Turn View Reply
refuse v number consumed = record { reply = record { number = number; consumed = consumed; written = [] }; next = v }

-- 7: the exact answer is longer than the lent output. A handled call returns 0
unfoldable pub deliver : View → ℕ → ℕ → Outcome → Turn View Reply
deliver v consumed room o = elim (ltb room (length (written_all o.says))) [
  | true ↦ refuse v 7 0
  | false ↦ record { reply = record { number = 0; consumed = consumed; written = written_all o.says }; next = o.next }
]

-- 1 to 5 as reading gives them; 6: framed, a response or event, no request
abbrev pub answer : View → ℕ → Reading (List ℕ) → Turn View Reply
answer v room (refused number consumed) = refuse v number consumed
answer v room (message h (request name id) fs) = deliver v h.stated room (judge v (request_of (kind v) h name id fs))
answer v room (message h (response id status state) fs) = refuse v 6 h.stated
answer v room (message h (event name id state) fs) = refuse v 6 h.stated

-- 8: engine report while nothing is speaking, or being recognized
abbrev pub awaits : State → Bool
awaits s = is s Speaking || is s Recognizing

-- 11: a score that is no number; a synthesizer's is not judged
abbrev pub is_no_score : Kind → Float → Bool
is_no_score Kind.Synthesizer score = false
is_no_score Kind.Recognizer score = is_nan score

-- 9: engine cause above the kind's last one
abbrev pub is_no_cause : Kind → ℕ → Bool
is_no_cause kind cause = leb (length (cause_names kind)) cause

-- the active one ends
abbrev pub ending : List Entry → View → ℕ → Float → ℕ → Turn View Reply
ending [] v cause score room = refuse v 8 0
ending (e ∷ queue) v cause score room = deliver v 0 room (completed (kind v) e queue v cause score)

-- 9, then 11, then 8, then 7
unfoldable pub reported : View → ℕ → Float → ℕ → Turn View Reply
reported v cause score room = elim (is_no_cause (kind v) cause) [
  | true ↦ refuse v 9 0
  | false ↦ elim (is_no_score (kind v) score) [
    | true ↦ refuse v 11 0
    | false ↦ elim (awaits v.state) [ true ↦ ending v.queue v cause score room | false ↦ refuse v 8 0 ]
  ]
]

-- 12: a number not kept; else a further edition equal to that one, and nothing is written
abbrev pub going_back : Option Edition → View → Turn View Reply
going_back none v = refuse v 12 0
going_back (some e) v = record { reply = record { number = 0; consumed = 0; written = [] }; next = with_edition e v }

unfoldable pub gone_back : View → ℕ → Turn View Reply
gone_back v n = going_back (edition_at n v.editions) v

abbrev pub on_sound : Lent → View → ℕ → Turn View Reply
on_sound (input s) v room = answer v room (read_bytes s)
on_sound (report cause score) v room = reported v cause score room
on_sound (back n) v room = gone_back v n

-- so many bytes of output never meet refusal 7
abbrev pub enough : Kind → Lent → ℕ
enough kind (input s) = 305
enough Kind.Synthesizer (report cause score) = 305
enough Kind.Recognizer (report cause score) = 1250
enough kind (back n) = 0

-- a client message, an engine report or a going back on a channel; 21 before all
unfoldable pub call : View → Call → Turn View Reply
call v c = elim (sound v) [ true ↦ on_sound c.lent v c.room | false ↦ refuse v 21 0 ]

-- an opening's number and channel; a refused opening gives such a channel with an empty name
pub record Opened : Type 0 where
  pub number : ℕ
  pub channel : View

unfoldable pub open_channel : List ℕ → Opened
open_channel name = elim (well_named name) [
  | true ↦ record { number = 0; channel = fresh name }
  | false ↦ record { number = 10; channel = fresh [] }
]
