-- Demands 1 to 3 as C sees them: over what each function of include/klarvesimo.h returns, and leaves in every array
-- lent to it. Document 01, "Refusal numbers" and "How tight the promises are", and document 02, K1, K3 and K5.
use Rattle.std.specs.Prelude.{ℕ, ◌≤◌, ◌≡◌, true, not, List, [], ◌∷◌, ◌++◌, eqb, ltb, Float, length, take, drop, get_or, Ok, Err}
use Rattle.std.proofs.Math.Option.{Option, none, some}
use Rattle.lists.specs.Lists.{All, minus}
use Rattle.framing.specs.Framing.{Framing, framing, refusal}
use Rattle.message.specs.Message.{Reading, refused, message}
use Rattle.message.specs.Reading.{reading, messages_in}
use Rattle.message.specs.declared.Span.{Span}
use Rattle.whose.specs.Whose as F
use Rattle.whose.specs.Whose.{Whose, whose, Told, whose_face}
use Rattle.messagenumbers.specs.Layout.{Face, message_numbers}
use Rattle.firmware.specs.Face.{frame_face, read_face, ReadCall, called}
use Rattle.ledger.specs.Ledger.{Exchange, Balanced, Run, Turn, after, trace, accepted, closed}
use Rattle.synth.specs.Channel.{View, fresh, well_named, sound, held}
use Rattle.synth.specs.Calls.{Lent, input, report, back, Call, Reply}
use Rattle.synth.specs.Demand3.{accepts, closes}
use Rattle.channelnumbers.specs.Numbers.{numbers_of, view_of}
use Rattle.klarvesimo.specs.Face.{OpenFace, open_face, call_face, BackFace, back_face, held_face}
use Rattle.klarvesimo.specs.Face.{HandleCall, counted, ReportCall, reported, HeldCall, listed}
use Rattle.demands.specs.Demands.{Line, given, malformed_in, table, first_due, outcome, exact, stated}

-- the functions that get a channel's 89 numbers, with all else that is lent to them
pub data OnChannel : Type 0 where
  handles : (s out counts : List ℕ) → OnChannel  -- klarvesimo_handle
  reports : (cause : ℕ) (score : Float) (out written : List ℕ) → OnChannel  -- klarvesimo_report
  goes : (number : ℕ) → OnChannel  -- klarvesimo_back
  lists : (ids count : List ℕ) → OnChannel  -- klarvesimo_held

-- a call of the C face, with all that is lent to it; klarvesimo_open does not look at the numbers that it sets
pub data FromC : Type 0 where
  opens : (name : List ℕ) → FromC  -- klarvesimo_open
  frames : (s out : List ℕ) → FromC  -- klarvesimo_frame
  reads : (s out consumed : List ℕ) → FromC  -- klarvesimo_read
  asks : (s id : List ℕ) → FromC  -- klarvesimo_whose
  on : (ws : List ℕ) → OnChannel → FromC

-- as many places for counts and for an id as include/klarvesimo.h asks for
abbrev pub Places : FromC → Type 0
Places (opens name) = Unit {0}
Places (frames s out) = Unit {0}
Places (reads s out consumed) = length consumed ≡ 1
Places (asks s id) = length id ≡ 1
Places (on ws (handles s out counts)) = length counts ≡ 2
Places (on ws (reports cause score out written)) = length written ≡ 1
Places (on ws (goes number)) = Unit {0}
Places (on ws (lists ids count)) = length count ≡ 1

-- the number returned, and each lent array that can change
abbrev pub Returned : FromC → Type 0
Returned (opens name) = OpenFace
Returned (frames s out) = Face
Returned (reads s out consumed) = ReadCall
Returned (asks s id) = Told
Returned (on ws (handles s out counts)) = HandleCall
Returned (on ws (reports cause score out written)) = ReportCall
Returned (on ws (goes number)) = BackFace
Returned (on ws (lists ids count)) = HeldCall

-- what the contract of each function says that it returns and leaves: the right side of its `ensures`
abbrev pub returned : (c : FromC) → Returned c
returned (opens name) = open_face name
returned (frames s out) = frame_face s out
returned (reads s out consumed) = called consumed (read_face s out)
returned (asks s id) = whose_face s id
returned (on ws (handles s out counts)) = counted counts (call_face ws (input s) out)
returned (on ws (reports cause score out written)) = reported written (call_face ws (report cause score) out)
returned (on ws (goes number)) = back_face ws number
returned (on ws (lists ids count)) = listed count (held_face ws ids)

abbrev pub seen_as : Option View → View
seen_as none = fresh []
seen_as (some v) = v

-- the channel that the numbers are; where they are none, one without a name, which is not sound
abbrev pub channel_in : List ℕ → View
channel_in ws = seen_as (view_of ws)

-- the numbers of a frame: version, and the lengths of the opening and of the frame
abbrev pub frame_numbers : Framing → List ℕ
frame_numbers (Err why) = []
frame_numbers (Ok f) = f.major ∷ f.minor ∷ f.opening ∷ f.length ∷ []

-- the numbers of a message that is read
abbrev pub numbers_in : List ℕ → Reading Span → List ℕ
numbers_in s (refused number consumed) = []
numbers_in s (message h st fs) = message_numbers (take h.stated s) h st fs

-- the request-id that is told
abbrev pub id_numbers : Whose → List ℕ
id_numbers (Err why) = []
id_numbers (Ok i) = i ∷ []

-- The table of refusals of the whole C face: the lines of each function, in the order in which they go before each
-- other.
unfoldable pub refusals : FromC → List Line
refusals (opens name) =
    given 10 (not (well_named name)) 0  -- channel name malformed at opening
    ∷ []
refusals (frames s out) =
    given 1 (eqb (refusal (framing s)) 1) 0
    ∷ given 2 (eqb (refusal (framing s)) 2) 0
    ∷ given 3 (eqb (refusal (framing s)) 3) 0
    ∷ given 4 (eqb (refusal (framing s)) 4) 0
    ∷ given 7 (ltb (length out) (length (frame_numbers (framing s)))) 0
    ∷ []
refusals (reads s out consumed) =
    given 1 (eqb (refusal (framing s)) 1) 0
    ∷ given 2 (eqb (refusal (framing s)) 2) 0
    ∷ given 3 (eqb (refusal (framing s)) 3) 0
    ∷ given 4 (eqb (refusal (framing s)) 4) 0
    ∷ given 5 (malformed_in s (framing s)) (stated (input s))
    ∷ given 7 (ltb (length out) (length (numbers_in s (reading s)))) 0
    ∷ []
refusals (asks s id) =
    given 2 (eqb (F.refusal (whose s)) 2) 0
    ∷ given 4 (eqb (F.refusal (whose s)) 4) 0
    ∷ given 1 (eqb (F.refusal (whose s)) 1) 0
    ∷ given 5 (eqb (F.refusal (whose s)) 5) 0
    ∷ []
refusals (on ws (handles s out counts)) = table (channel_in ws) (input s) (length out)  -- 21, 1 to 6, 7
refusals (on ws (reports cause score out written)) = table (channel_in ws) (report cause score) (length out)  -- 21, 9, 11, 8, 7
refusals (on ws (goes number)) = table (channel_in ws) (back number) 0  -- 21, 12
refusals (on ws (lists ids count)) =
    given 21 (not (sound (channel_in ws))) 0
    ∷ given 7 (ltb (length ids) (length (held (channel_in ws)))) 0
    ∷ []

-- xs at the front of what is lent, the rest as it was
abbrev pub at_front : List ℕ → List ℕ → List ℕ
at_front xs out = xs ++ drop (length xs) out

-- A line that is due: its number, its count as consumed, nothing as written, and all else that was lent as it was. An
-- opening alone sets the channel's numbers: to those of one without a name.
abbrev pub refused_by : Line → (c : FromC) → Returned c
refused_by l (opens name) = record { number = l.number; channel = numbers_of (fresh []) }
refused_by l (frames s out) = record { number = l.number; out = out }
refused_by l (reads s out consumed) = record { number = l.number; consumed = l.consumed ∷ []; out = out }
refused_by l (asks s id) = record { number = l.number; id = id }
refused_by l (on ws (handles s out counts)) =
    record { number = l.number; channel = ws; counts = l.consumed ∷ 0 ∷ []; out = out }
refused_by l (on ws (reports cause score out written)) = record { number = l.number; channel = ws; written = 0 ∷ []; out = out }
refused_by l (on ws (goes number)) = record { number = l.number; channel = ws }
refused_by l (on ws (lists ids count)) = record { number = l.number; count = 0 ∷ []; ids = ids }

-- None due: 0, the stated length as consumed, the length of the exact answer as written, the answer at the front of the
-- output, its rest as it was, and the numbers of the outcome's channel.
abbrev pub answered : (c : FromC) → Returned c
answered (opens name) = record { number = 0; channel = numbers_of (fresh name) }
answered (frames s out) = record { number = 0; out = at_front (frame_numbers (framing s)) out }
answered (reads s out consumed) =
    record { number = 0; consumed = stated (input s) ∷ []; out = at_front (numbers_in s (reading s)) out }
answered (asks s id) = record { number = 0; id = id_numbers (whose s) }
answered (on ws (handles s out counts)) =
    let v : View = channel_in ws in
    record {
      number = 0;
      channel = numbers_of (outcome v (input s)).next;
      counts = stated (input s) ∷ length (exact v (input s)) ∷ [];
      out = at_front (exact v (input s)) out;
    }
answered (on ws (reports cause score out written)) =
    let v : View = channel_in ws in
    record {
      number = 0;
      channel = numbers_of (outcome v (report cause score)).next;
      written = length (exact v (report cause score)) ∷ [];
      out = at_front (exact v (report cause score)) out;
    }
answered (on ws (goes number)) =
    record { number = 0; channel = numbers_of (outcome (channel_in ws) (back number)).next }
answered (on ws (lists ids count)) =
    let v : View = channel_in ws in
    record { number = 0; count = length (held v) ∷ []; ids = at_front (held v) ids }

abbrev pub by_line : Option Line → (c : FromC) → Returned c
by_line (some l) c = refused_by l c
by_line none c = answered c

-- Demand 1 as C sees it: whatever is handed in, each function returns and leaves what the first line of the table that
-- is due says
abbrev pub Demand1OfTheFace : Type 0
Demand1OfTheFace = (c : FromC) → Places c → returned c ≡ by_line (first_due (refusals c)) c

-- a message is handed in by klarvesimo_handle, a report's cause and score by klarvesimo_report, an edition's number by
-- klarvesimo_back
abbrev pub handing : Lent → List ℕ → List ℕ → OnChannel
handing (input s) out counts = handles s out counts
handing (report cause score) out written = reports cause score out written
handing (back number) out counts = goes number

-- klarvesimo_back is lent no output
abbrev pub Lending : Lent → List ℕ → Type 0
Lending (input s) out = Unit {0}
Lending (report cause score) out = Unit {0}
Lending (back number) out = out ≡ []

-- What C sees of such a call: the number, the count consumed (of a report and a going back: none), and of the output as
-- many bytes as the count written says (of a going back: none).
abbrev pub seen : List ℕ → Lent → List ℕ → List ℕ → Reply
seen ws (input s) out counts =
    let f : HandleCall = returned (on ws (handles s out counts)) in
    record { number = f.number; consumed = get_or f.counts 0 0; written = take (get_or f.counts 1 0) f.out }
seen ws (report cause score) out written =
    let f : ReportCall = returned (on ws (reports cause score out written)) in
    record { number = f.number; consumed = 0; written = take (get_or f.written 0 0) f.out }
seen ws (back number) out counts =
    let f : BackFace = returned (on ws (goes number)) in record { number = f.number; consumed = 0; written = [] }

-- the number that a call on the channel's numbers ws returns, and the numbers that it leaves
abbrev pub stepped : List ℕ → OnChannel → Turn (List ℕ) ℕ
stepped ws (handles s out counts) =
    let f : HandleCall = returned (on ws (handles s out counts)) in record { reply = f.number; next = f.channel }
stepped ws (reports cause score out written) =
    let f : ReportCall = returned (on ws (reports cause score out written)) in record { reply = f.number; next = f.channel }
stepped ws (goes number) =
    let f : BackFace = returned (on ws (goes number)) in record { reply = f.number; next = f.channel }
stepped ws (lists ids count) =
    let f : HeldCall = returned (on ws (lists ids count)) in record { reply = f.number; next = ws }

-- one call of klarvesimo_handle, klarvesimo_report or klarvesimo_back on the numbers ws: what is seen of it, and the
-- numbers it leaves
pub record CalledFromC (ws : List ℕ) (k : Call) (r : Reply) (next : List ℕ) : Type 0 where
  pub out : List ℕ
  pub counts : List ℕ
  pub room : k.room ≡ length out
  pub lends : Lending k.lent out
  pub places : Places (on ws (handing k.lent out counts))
  pub saw : r ≡ seen ws k.lent out counts
  pub left : next ≡ (stepped ws (handing k.lent out counts)).next

-- Demand 2, its last sentence, as C sees it: what a call that returned 0 wrote is read as the very messages that were
-- to be said, and nothing else stands there
abbrev pub ReadBackOfTheFace : Type 0
ReadBackOfTheFace = (ws : List ℕ) (k : Call) (r : Reply) (next : List ℕ) → CalledFromC ws k r next → r.number ≡ 0
    → messages_in (length r.written) r.written ≡ (outcome (channel_in ws) k.lent).says

-- Demand 3 as C sees it: for every list of calls on the numbers that klarvesimo_open gave, each getting those that the
-- last one left
abbrev pub Demand3OfTheFace : Type 0
Demand3OfTheFace = (name : List ℕ) (calls : List (Exchange Call Reply)) (last : List ℕ)
    → Run CalledFromC (open_face name).channel calls last → Balanced accepts closes calls (held (channel_in last))

-- Whatever calls came on a channel that klarvesimo_open opened, klarvesimo_held, lent 16 numbers or more, gives the ids
-- that were accepted and not closed, in order of acceptance, and how many they are.
abbrev pub HeldOfTheFace : Type 0
HeldOfTheFace = (name : List ℕ) (calls : List (Exchange Call Reply)) (last out count : List ℕ)
    → (open_face name).number ≡ 0 → Run CalledFromC (open_face name).channel calls last
    → 16 ≤ length out → length count ≡ 1
    → (let ids : List ℕ = minus (accepted accepts closes calls) (closed accepts closes calls) in
    returned (on last (lists out count)) ≡ record { number = 0; count = length ids ∷ []; ids = at_front ids out })

-- Soundness as C sees it: every list of calls on the numbers of a channel that was opened with number 0 leaves a sound
-- channel, and none of them returns 21
abbrev pub SoundOfTheFace : Type 0
SoundOfTheFace = (name : List ℕ) (calls : List OnChannel) → (open_face name).number ≡ 0
    → (let ws : List ℕ = (open_face name).channel in
    (sound (channel_in (after stepped ws calls)) ≡ true)
    × All (λ (x : Exchange OnChannel ℕ). x.reply ≡ 21 → ⊥) (trace stepped ws calls))
