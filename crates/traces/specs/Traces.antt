-- The trace file: document 02, K7.
use mathlib.Core.Option.{Option, none, some}
use Rattle.std.specs.Prelude.{ℕ, zero, suc, ◌+◌, ◌-◌, ◌*◌, ◌/◌, ◌%◌, ◌≤◌, ◌≡◌, min, eqb, leb}
use Rattle.std.specs.Prelude.{Bool, true, false, ◌&&◌, ◌||◌, List, [], ◌∷◌, ◌++◌, length, take, drop}
use Rattle.std.specs.Prelude.{Result, Ok, Err}
use Rattle.lists.specs.Lists.{same, is_empty, All}
use Rattle.octets.specs.Octets.{bytes}
use Rattle.writers.specs.Buffer.{put}
use Rattle.framing.specs.Framing.{Framing, Frame, framing, refusal, frame_length}
use Rattle.message.specs.Message.{part}
use Rattle.message.specs.declared.Span.{Span}
use Rattle.traces.specs.declared.Refusal.{Refusal}
use Rattle.traces.specs.declared.Recorded.{Recorded}

-- The form of a file.

-- a number as k bytes, the least first
abbrev pub in_bytes : ℕ → ℕ → List ℕ
in_bytes zero n = []
in_bytes (suc k) n = n % 256 ∷ in_bytes k (n / 256)

-- 4 little-endian bytes
unfoldable pub four : ℕ → List ℕ
four n = in_bytes 4 n

-- messages end to end
abbrev pub flat : List (List ℕ) → List ℕ
flat [] = []
flat (m ∷ ms) = m ++ flat ms

-- one offset per message: the first is `at`, each other the end of the message before
abbrev pub index : ℕ → List (List ℕ) → List ℕ
index at [] = []
index at (m ∷ ms) = four at ++ index (at + length m) ms

-- where the index begins, how many entries, and the letters
abbrev pub trailer : ℕ → ℕ → List ℕ
trailer begin count = four begin ++ (four count ++ bytes "MTRC")

-- what stands behind the messages
abbrev pub ending : List (List ℕ) → List ℕ
ending ms = index 0 ms ++ trailer (length (flat ms)) (length ms)

unfoldable pub file : List (List ℕ) → List ℕ
file ms = flat ms ++ ending ms

-- exactly one frame
pub record OneFrame (m : List ℕ) : Type 0 where
  pub major : ℕ
  pub minor : ℕ
  pub opens : ℕ
  pub frame : framing m ≡ Frame major minor opens (length m)

-- f is the trace file of these messages
pub record IsFile (f : List ℕ) (ms : List (List ℕ)) : Type 0 where
  pub made : f ≡ file ms
  pub whole : All OneFrame ms
  pub most : length f ≤ 65536

-- Reading.

-- the number that bytes write, the least first
abbrev pub little : List ℕ → ℕ
little [] = 0
little (x ∷ l) = x + 256 * little l

-- the number that the four bytes at a place write
unfoldable pub number_at : List ℕ → ℕ → ℕ
number_at f at = little (take 4 (drop at f))

abbrev pub ahead : List ℕ → Option (List (List ℕ)) → Option (List (List ℕ))
ahead m none = none
ahead m (some ms) = some (m ∷ ms)

-- the frame at the front of s, and then what is made of the rest
abbrev pub frames_on : List ℕ → Framing → (List ℕ → Option (List (List ℕ))) → Option (List (List ℕ))
frames_on s (Err why) on = none
frames_on s (Ok f) on = ahead (take f.length s) (on (drop f.length s))

-- frames end to end, for a fuel of at least as many as there are bytes
unfoldable pub walk : ℕ → List ℕ → Option (List (List ℕ))
walk zero s = elim (is_empty s) [ true ↦ some [] | false ↦ none ]
walk (suc fuel) s = elim (is_empty s) [ true ↦ some [] | false ↦ frames_on s (framing s) (walk fuel) ]

-- walking from the start: the frames that these bytes are end to end; none where they are not
abbrev pub frames_in : List ℕ → Option (List (List ℕ))
frames_in s = walk (length s) s

-- what a file is: its messages, or why it is refused
abbrev pub Trace : Type 0
Trace = Result (List (List ℕ)) Refusal

-- 14 if an entry or a frame is wrong or bytes are left before the index
abbrev pub indexed : List ℕ → ℕ → ℕ → Option (List (List ℕ)) → Trace
indexed f begin count none = Err Refusal.Misframed
indexed f begin count (some ms) = elim (eqb (length ms) count && same (take (4 * count) (drop begin f)) (index 0 ms)) [
  | true ↦ Ok ms
  | false ↦ Err Refusal.Misframed
]

-- 13 if the letters are wrong, or index and trailer do not end the file exactly
abbrev pub trailed : List ℕ → ℕ → ℕ → Trace
trailed f begin count = elim (same (drop (length f - 4) f) (bytes "MTRC") && eqb (begin + 4 * count + 12) (length f)) [
  | true ↦ indexed f begin count (frames_in (take begin f))
  | false ↦ Err Refusal.NoTrace
]

-- where the index begins, and how many entries, as the trailer says
abbrev pub begin_of : List ℕ → ℕ
begin_of f = number_at f (length f - 12)

abbrev pub count_of : List ℕ → ℕ
count_of f = number_at f (length f - 8)

-- 13 if the file is under 12 or over 65,536 bytes
unfoldable pub trace_of : List ℕ → Trace
trace_of f = elim (leb 12 (length f) && leb (length f) 65536) [
  | true ↦ trailed f (begin_of f) (count_of f)
  | false ↦ Err Refusal.NoTrace
]

-- entry k, from 0; behind the last one stands where the index begins
abbrev pub entry : List ℕ → ℕ → ℕ
entry f k = number_at f (begin_of f + 4 * k)

-- message n, from 1, as a part of the file: from its entry to the next; 22 if there is no message n
abbrev pub handed : List ℕ → ℕ → Trace → Result Span Refusal
handed f n (Err r) = Err r
handed f n (Ok ms) = elim (leb 1 n && leb n (length ms)) [
  | true ↦ Ok (record { start = entry f (n - 1); len = entry f n - entry f (n - 1) })
  | false ↦ Err Refusal.NoSuchMessage
]

unfoldable pub message_of : List ℕ → ℕ → Result Span Refusal
message_of f n = handed f n (trace_of f)

-- the bytes at that part; none where it is refused
abbrev pub part_of : Result Span Refusal → List ℕ → List ℕ
part_of (Err r) f = []
part_of (Ok p) f = part f p

-- Writing. An unfinished trace is the first `used` bytes of an output, said to be `count` messages.

-- the finished file fits the output and 65,536
abbrev pub fits : ℕ → ℕ → ℕ → Bool
fits room used count = leb (used + 4 * count + 12) (min room 65536)

-- frames end to end, and so many
abbrev pub so_many : ℕ → Option (List (List ℕ)) → Bool
so_many count none = false
so_many count (some ms) = eqb (length ms) count

-- recording can have left it in that output: nothing yet, or so many frames end to end, with room for what ends a file
unfoldable pub can_be_left : List ℕ → ℕ → ℕ → Bool
can_be_left out used count =
    (eqb used 0 && eqb count 0) || (fits (length out) used count && so_many count (frames_in (take used out)))

-- of `lent` bytes, framed so: they are exactly one frame
abbrev pub is_one : ℕ → Framing → Bool
is_one lent x = eqb (refusal x) 0 && eqb (frame_length x) lent

-- 13 what recording can't have left there, then 14 what is not exactly one frame, then 7 what makes the finished file
-- outgrow the output or 65,536
unfoldable pub recorded : List ℕ → ℕ → ℕ → List ℕ → Result Recorded Refusal
recorded out used count m = elim (can_be_left out used count) [
  | false ↦ Err Refusal.NoTrace
  | true ↦ elim (is_one (length m) (framing m)) [
    | false ↦ Err Refusal.Misframed
    | true ↦ elim (fits (length out) (used + length m) (count + 1)) [
      | false ↦ Err Refusal.NoRoom
      | true ↦ Ok (record { used = used + length m; count = count + 1 })
    ]
  ]
]

-- the output then: the message behind what was used; a refusal changes nothing
abbrev pub with_message : List ℕ → ℕ → List ℕ → Result Recorded Refusal → List ℕ
with_message out used m (Err r) = out
with_message out used m (Ok t) = put out used m

-- 13 as above, then 7; else how long the file is
unfoldable pub finished : List ℕ → ℕ → ℕ → Result ℕ Refusal
finished out used count = elim (can_be_left out used count) [
  | false ↦ Err Refusal.NoTrace
  | true ↦ elim (fits (length out) used count) [
    | false ↦ Err Refusal.NoRoom
    | true ↦ Ok (used + 4 * count + 12)
  ]
]

-- the messages of an unfinished trace
abbrev pub messages_in : Option (List (List ℕ)) → List (List ℕ)
messages_in none = []
messages_in (some ms) = ms

-- the output then: what ends the file behind what was used; a refusal changes nothing
abbrev pub with_ending : List ℕ → ℕ → Result ℕ Refusal → List ℕ
with_ending out used (Err r) = out
with_ending out used (Ok n) = put out used (ending (messages_in (frames_in (take used out))))

-- recording these messages, one after the other, leaves `used` bytes and `count` messages in `out`
pub data Records : List (List ℕ) → List ℕ → ℕ → ℕ → Type 0 where
  nothing : (out : List ℕ) → Records [] out 0 0
  onward : (ms : List (List ℕ)) (out : List ℕ) (used count : ℕ) → Records ms out used count
      → (m after : List ℕ) (u c : ℕ) → recorded out used count m ≡ Ok (record { used = u; count = c })
      → after ≡ put out used m → Records (ms ++ m ∷ []) after u c
