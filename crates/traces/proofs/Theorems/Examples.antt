-- Small files and traces, computed: each refusal, and what is given back. Assumes nothing.
use Prim.Native.Nat.{ℕ}
use mathlib.Core.Path.{◌≡◌, refl}
use mathlib.Core.List.{List, [], ◌∷◌, ◌++◌, map}
use lib.ListN.{replicate}
use Rattle.octets.specs.Octets.{bytes}
use Rattle.writers.specs.Buffer.{put}
use Rattle.framing.specs.Framing.{framing, opening}
use Rattle.traces.specs.Traces.{four, number_at, flat, file, walk, trace_of, message_of}
use Rattle.traces.specs.Traces.{can_be_left, recorded, finished, with_ending}
use Rattle.std.specs.Prelude.{Ok, Err}
use Rattle.traces.specs.declared.Refusal.{Refusal}
use Rattle.traces.specs.Refusals.{number_of}

-- two frames, of 12 and of 14 bytes: openings, and no start line behind them
abbrev one : List ℕ
one = bytes "MRCP/2.0 12 "

abbrev other : List ℕ
other = bytes "MRCP/2.0 14 \r\n"

abbrev two : List (List ℕ)
two = one ∷ other ∷ []

-- bytes with a trailer that says where their index begins, and how many entries it has
abbrev ended : List ℕ → ℕ → ℕ → List ℕ
ended s begin count = s ++ (four begin ++ (four count ++ bytes "MTRC"))

pub accepted : map trace_of (file [] ∷ file two ∷ []) ≡ Ok [] ∷ Ok two ∷ []
unfolding trace_of file four number_at walk framing opening
accepted = refl

-- with these letters
abbrev lettered : List ℕ → List ℕ
lettered letters = four 0 ++ (four 0 ++ letters)

-- a byte too few, other letters, an entry too many and one too few, and 2 to the 30 entries: four times as many, and
-- twelve, are 12 modulo 2 to the 32
pub thirteens : map trace_of
    (bytes "0000000MTRC" ∷ lettered (bytes "MTRD") ∷ ended (four 0) 0 0 ∷ ended [] 0 1 ∷ ended [] 0 1073741824 ∷ [])
    ≡ Err Refusal.NoTrace ∷ Err Refusal.NoTrace ∷ Err Refusal.NoTrace ∷ Err Refusal.NoTrace ∷ Err Refusal.NoTrace ∷ []
unfolding trace_of four number_at
thirteens = refl

-- bytes left before the index, no frame, entries that are the ends, an entry for nothing
pub fourteens : map trace_of
    (ended one 12 0 ∷ ended (bytes "MRCP/2.0 13 " ++ four 0) 12 1 ∷ ended (flat two ++ (four 12 ++ four 26)) 26 2
    ∷ ended (four 0) 0 1 ∷ [])
    ≡ Err Refusal.Misframed ∷ Err Refusal.Misframed ∷ Err Refusal.Misframed ∷ Err Refusal.Misframed ∷ []
unfolding trace_of four number_at walk framing opening
fourteens = refl

pub places : map (message_of (file two)) (0 ∷ 1 ∷ 2 ∷ 3 ∷ [])
    ≡ Err Refusal.NoSuchMessage ∷ Ok (record { start = 0; len = 12 }) ∷ Ok (record { start = 12; len = 14 })
    ∷ Err Refusal.NoSuchMessage ∷ []
unfolding message_of trace_of file four number_at walk framing opening
places = refl

-- an output of n zeros
abbrev zeros : ℕ → List ℕ
zeros n = replicate n 0

-- what can't have been left, before what is no frame; then that; then what leaves no room for the end
pub recordings : recorded (zeros 50) 0 1 [] ∷ recorded (zeros 50) 12 1 one ∷ recorded (zeros 50) 0 0 []
    ∷ recorded (zeros 50) 0 0 (flat two) ∷ recorded (zeros 27) 0 0 one ∷ recorded (zeros 28) 0 0 one
    ∷ recorded (one ++ zeros 34) 12 1 other ∷ []
    ≡ Err Refusal.NoTrace ∷ Err Refusal.NoTrace ∷ Err Refusal.Misframed ∷ Err Refusal.Misframed ∷ Err Refusal.NoRoom
    ∷ Ok (record { used = 12; count = 1 }) ∷ Ok (record { used = 26; count = 2 }) ∷ []
unfolding recorded can_be_left walk framing opening
recordings = refl

pub finishings : finished (zeros 11) 0 0 ∷ finished (zeros 12) 0 0 ∷ finished (flat two ++ zeros 20) 26 2
    ∷ finished (flat two ++ zeros 19) 26 2 ∷ finished (flat two ++ zeros 20) 26 1
    ∷ finished (flat two ++ zeros 20) 27 2 ∷ []
    ≡ Err Refusal.NoRoom ∷ Ok 12 ∷ Ok 46 ∷ Err Refusal.NoTrace ∷ Err Refusal.NoTrace
    ∷ Err Refusal.NoTrace ∷ []
unfolding finished can_be_left walk framing opening
finishings = refl

pub written : with_ending (flat two ++ zeros 21) 26 (Ok 46) ≡ file two ++ zeros 1
unfolding file put four walk framing opening
written = refl

-- the paper's number of each refusal
pub numbers : map number_of (Refusal.NoRoom ∷ Refusal.NoTrace ∷ Refusal.Misframed ∷ Refusal.NoSuchMessage ∷ [])
    ≡ 7 ∷ 13 ∷ 14 ∷ 22 ∷ []
numbers = refl
