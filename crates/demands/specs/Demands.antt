-- Demands 1 and 3 of the code, over the clause that the contracts of `handle`, `report` and `go_back` promise: document
-- 01, "Refusal numbers" and "How tight the promises are", and document 02, K1 and K5. The editions stand beside the
-- channel: those that no channel of its kind has are the caller's to refuse, and FromC.antt says that they are.
use Rattle.std.specs.Prelude as P
use Rattle.std.specs.Prelude.{ℕ, ◌≡◌, Bool, true, false, not, List, [], ◌∷◌, ◌++◌, eqb, ltb, Float, length, take, drop, Result, Ok, Err}
use Rattle.std.proofs.Math.Option.{Option, none, some}
use Rattle.lists.specs.Lists.{All}
use Rattle.framing.specs.Framing.{Framing, framing, refusal, frame_length}
use Rattle.message.specs.Message.{Reading, refused, message, request, response, event}
use Rattle.message.specs.StartLines.{Started, started, start_line}
use Rattle.message.specs.Reading.{read_bytes}
use Rattle.answer.specs.Written.{written_all}
use Rattle.ledger.specs.Ledger.{Exchange, Balanced, Run}
use Rattle.synth.specs.Settings.{unset, edition_at}
use Rattle.synth.specs.Channel.{View, kind, with_edition, held, sound}
use Rattle.synth.specs.Channel.{shaped}
use Rattle.synth.specs.Request.{request_of}
use Rattle.synth.specs.States.{Outcome, judge, completed}
use Rattle.synth.specs.Calls.{Lent, input, report, back, Call, Reply, awaits, is_no_score, is_no_cause, open_channel}
use Rattle.synth.specs.Demand3.{accepts, closes}
use Rattle.synth.specs.declared.State.{State}
use Rattle.synth.specs.declared.Entry.{Entry}
use Rattle.synth.specs.declared.Edition.{Edition}
use Rattle.settings.specs.Kept.{further_on}
use Rattle.channel.specs.Channel.{view, opened}
use Rattle.channel.specs.declared.Channel.{Channel}
use Rattle.channel.specs.declared.Opened.{Opened}
use Rattle.calls.specs.Promise.{Promise, Returned, returned, left_in, refusing}
use Rattle.calls.specs.declared.Refused.{Refused}
use Rattle.calls.specs.declared.Handled.{Handled}

-- a line of the table of refusals, by the paper's columns: its number, given exactly when it is due, and the input consumed
pub record Line : Type 0 where
  pub number : ℕ
  pub due : Bool
  pub consumed : ℕ

-- a line, written as a row
abbrev pub given : ℕ → Bool → ℕ → Line
given number due consumed = record { number = number; due = due; consumed = consumed }

-- the start line is of none of the three kinds
abbrev pub is_malformed : Started → Bool
is_malformed Started.malformed = true
is_malformed (started start at) = false

-- 5: framed, start line malformed
abbrev pub malformed_in : List ℕ → Framing → Bool
malformed_in s (Err why) = false
malformed_in s (Ok f) = is_malformed (start_line f.opening (take f.length s))

-- 6: framed, a response or event, no request
abbrev pub no_request : Reading (List ℕ) → Bool
no_request (refused number consumed) = false
no_request (message h (request name id) fs) = false
no_request (message h (response id status state) fs) = true
no_request (message h (event name id state) fs) = true

-- 8: nothing is speaking, or being recognized
abbrev pub is_silent : State → Bool
is_silent s = not (awaits s)

-- 12: a number not kept
abbrev pub is_not_kept : Option Edition → Bool
is_not_kept none = true
is_not_kept (some e) = false

-- nothing is said, and the channel stays as it was
abbrev pub nothing : View → Outcome
nothing v = record { says = []; next = v }

-- what is said to a request, and the channel afterwards
abbrev pub answering : View → Reading (List ℕ) → Outcome
answering v (refused number consumed) = nothing v
answering v (message h (request name id) fs) = judge v (request_of (kind v) h name id fs)
answering v (message h (response id status state) fs) = nothing v
answering v (message h (event name id state) fs) = nothing v

-- the same of a report, which ends the active one
abbrev pub ending : View → List Entry → ℕ → Float → Outcome
ending v [] cause score = nothing v
ending v (e ∷ queue) cause score = completed (kind v) e queue v cause score

-- going back to an edition makes a further one equal to it
abbrev pub gone_to : Option Edition → View → View
gone_to none v = v
gone_to (some e) v = with_edition e v

-- what a call that no line refuses says, and the channel afterwards; a going back says nothing
abbrev pub outcome : View → Lent → Outcome
outcome v (input s) = answering v (read_bytes s)
outcome v (report cause score) = ending v v.queue cause score
outcome v (back n) = record { says = []; next = gone_to (edition_at n v.editions) v }

-- the exact answer
abbrev pub exact : View → Lent → List ℕ
exact v lent = written_all (outcome v lent).says

-- the stated length; a report, a going back: none
abbrev pub stated : Lent → ℕ
stated (input s) = frame_length (framing s)
stated (report cause score) = 0
stated (back n) = 0

-- the refusals of a message, of a report and of a going back, in the order in which they go before each other, where
-- `room` bytes of output are lent
unfoldable pub table : View → Lent → ℕ → List Line
table v (input s) room =
    given 21 (not (sound v)) 0  -- the channel handed in is not sound
    ∷ given 1 (eqb (refusal (framing s)) 1) 0  -- more bytes needed
    ∷ given 2 (eqb (refusal (framing s)) 2) 0  -- the bytes can't begin a message
    ∷ given 3 (eqb (refusal (framing s)) 3) 0  -- stated length above 16,384
    ∷ given 4 (eqb (refusal (framing s)) 4) 0  -- stated length below the opening's own length
    ∷ given 5 (malformed_in s (framing s)) (stated (input s))  -- framed, start line malformed
    ∷ given 6 (no_request (read_bytes s)) (stated (input s))  -- framed, a response or event, no request
    ∷ given 7 (ltb room (length (exact v (input s)))) 0  -- the exact answer is longer than the lent output
    ∷ []
table v (report cause score) room =
    given 21 (not (sound v)) 0
    ∷ given 9 (is_no_cause (kind v) cause) 0  -- engine cause above 7, on a recognizer above 15
    ∷ given 11 (is_no_score (kind v) score) 0  -- on a recognizer, a score that is no number
    ∷ given 8 (is_silent v.state) 0  -- engine report while nothing is speaking, or being recognized
    ∷ given 7 (ltb room (length (exact v (report cause score)))) 0
    ∷ []
table v (back n) room =
    given 21 (not (sound v)) 0
    ∷ given 12 (is_not_kept (edition_at n v.editions)) 0  -- a number not kept
    ∷ []

-- the first line that is due, if any is
abbrev pub first_due : List Line → Option Line
first_due [] = none
first_due (l ∷ ls) = elim l.due [ true ↦ some l | false ↦ first_due ls ]

-- A line that is due: its number and count, no byte written, the very channel, the output as it was. None due: 0, the stated length as
-- consumed, the exact answer at the front of the output, its rest as it was, and the channel of the outcome.
abbrev pub ByTable : Option Line → P.Option ℕ → Channel → List Edition → Lent → List ℕ → Result Handled Refused → List ℕ → Type 0
ByTable (some l) last c es lent out r after =
    (returned last c r ≡ refusing last c l.number l.consumed) × (after ≡ out)
ByTable none last c es lent out r after =
    let answer : List ℕ = exact (view last c es) lent in
    left_in last c es r after ≡ record {
      number = 0;
      consumed = stated lent;
      written = length answer;
      channel = (outcome (view last c es) lent).next;
      out = answer ++ drop (length answer) out;
    }

-- Demand 1: whatever `handle`, `report` and `go_back` promise is what the first line of the table that is due says, and
-- a sound channel stays sound
abbrev pub Demand1OfTheCode : Type 0
Demand1OfTheCode = (last : P.Option ℕ) (c : Channel) (es : List Edition) (lent : Lent) (out : List ℕ)
    (r : Result Handled Refused) (after : List ℕ) → Promise last c es lent out r after
    → ByTable (first_due (table (view last c es) lent (length out))) last c es lent out r after
    × (let came : Returned = returned last c r in
    sound (view last c es) ≡ true → sound (view came.last came.channel (further_on came.further es)) ≡ true)

-- what a caller keeps from call to call: the last id seen, the channel, and the editions of its settings
pub record Kept : Type 0 where
  pub last : P.Option ℕ
  pub channel : Channel
  pub editions : List Edition

abbrev pub viewed : Kept → View
viewed k = view k.last k.channel k.editions

-- one call of the code on what is kept, and what is seen of it from outside; it is promised of editions that are a
-- channel's, and of a channel that has not its shape
pub record Called (kept : Kept) (k : Call) (r : Reply) (next : Kept) : Type 0 where
  pub out : List ℕ
  pub after : List ℕ
  pub handled : Result Handled Refused
  pub room : k.room ≡ length out
  pub promised : sound (viewed kept) ≡ shaped (viewed kept)
      → Promise kept.last kept.channel kept.editions k.lent out handled after
  pub seen : let came : Returned = returned kept.last kept.channel handled in
      r ≡ record { number = came.number; consumed = came.consumed; written = take came.written after }
  pub left : let came : Returned = returned kept.last kept.channel handled in
      next ≡ record { last = came.last; channel = came.channel; editions = further_on came.further kept.editions }

-- as `open_channel` returned it: its one edition has every setting unset
abbrev pub opening : Opened → Kept
opening o = record { last = P.None; channel = o.channel; editions = unset ∷ [] }

-- Demand 3: for every list of calls on a channel as `open_channel` returned it, with any outputs
abbrev pub Demand3OfTheCode : Type 0
Demand3OfTheCode = (name : List ℕ) (o : Opened) (calls : List (Exchange Call Reply)) (end : Kept)
    → opened o ≡ open_channel name → Run Called (opening o) calls end → Balanced accepts closes calls (held (viewed end))

-- every list of calls on a channel that was opened with number 0 leaves a sound channel, and none of them is refused with 21
abbrev pub SoundOfTheCode : Type 0
SoundOfTheCode = (name : List ℕ) (o : Opened) (calls : List (Exchange Call Reply)) (end : Kept)
    → opened o ≡ open_channel name → o.number ≡ 0 → Run Called (opening o) calls end
    → (sound (viewed end) ≡ true) × All (λ (x : Exchange Call Reply). x.reply.number ≡ 21 → ⊥) calls
