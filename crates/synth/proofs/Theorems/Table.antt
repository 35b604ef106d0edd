-- T1 to T14 of document 01, as one table under a single statement about the definitions. Assumes nothing.
use Prim.Native.Nat.{ℕ, zero, suc, ◌+◌}
use Prim.Native.String.{String}
use mathlib.Core.Path.{◌≡◌, refl}
use mathlib.Core.List.{List, [], ◌∷◌, ◌++◌, map}
use lib.Dec.{eqb}
use lib.ListN.{length, drop}
use Rattle.std.specs.Prelude.{Some}
use Rattle.lists.specs.Lists.{run, keep}
use Rattle.octets.specs.Octets.{bytes, is_digit}
use Rattle.writers.specs.Decimal.{digits, digits_within, width}
use Rattle.synth.specs.Channel.{View}
use Rattle.synth.specs.Calls.{Reply}
use Rattle.synth.specs.declared.State.TheVariants.{Speaking}
use Rattle.synth.proofs.Computed.{opened, channel, killed, lends, reports, replies}

-- a line of the table. What a call gives: the number returned, the counts consumed and written, the text written. Of an answer: its size
-- without its length digits, and the lengths that fit it
pub data Row : Type 0 where
  gave : ℕ → ℕ → ℕ → List ℕ → Row
  fits : ℕ → List ℕ → Row

pub row_of : Reply → Row
row_of r = gave r.number r.consumed (length r.written) r.written

pub gives : ℕ → ℕ → ℕ → String → Row
gives number consumed count text = gave number consumed count (bytes text)

-- the size of written bytes without their length digits, which stand behind `MRCP/2.0 `
pub without : List ℕ → ℕ
without w =
    let front : ℕ = length (bytes "MRCP/2.0 ") in
    let behind : List ℕ = drop front w in
    front + length (drop (run is_digit behind) behind)

pub below : ℕ → List ℕ
below zero = []
below (suc n) = below n ++ n ∷ []

-- of the lengths up to that of the longest answer, those that equal the size with their own digits in it
pub fitting : ℕ → List ℕ
fitting base = keep (λ n. eqb n (base + width n)) (below 306)

pub fit_of : Reply → Row
fit_of r = fits (without r.written) (fitting (without r.written))

-- `7f3a@speechsynth` as opened
pub fresh : View
fresh = opened "7f3a@speechsynth"

-- the same channel, holding 1, 2, 3 and 4
pub holding : View
holding = channel "7f3a@speechsynth" Speaking (map killed (1 ∷ 2 ∷ 3 ∷ 4 ∷ [])) (Some 4)

-- one call on an opened channel
pub alone : String → List Row
alone text = map row_of (replies fresh (lends text ∷ []))

-- one call on the channel that holds four, and the lengths of its answer
pub measured : String → List Row
measured text = let rs : List Reply = replies holding (lends text ∷ []) in map row_of rs ++ map fit_of rs

pub table :
    alone ""  -- T1
    ++ alone "MRCP/2.x"  -- T2
    ++ alone "MRCP/2.0 0 "  -- T3
    ++ alone "MRCP/2.0 10 "  -- T4
    ++ alone "MRCP/2.0 11 "  -- its opening is 12 bytes: 11 is below them
    ++ alone "MRCP/2.0 12 "  -- and 12 is not
    ++ alone "MRCP/2.0 16384 "  -- T5
    ++ alone "MRCP/2.0 16385 "  -- T6
    ++ alone "MRCP/2.0 12345678901234567890"  -- T7
    ++ map row_of
    (replies fresh
    (lends "MRCP/2.0 106 SPEAK 7\r\nChannel-Identifier:7f3a@speechsynth\r\nContent-Type:text/plain\r\nContent-Length:2\r\n\r\nHi"  -- T8
    ∷ lends "MRCP/2.0 106 SPEAK 7\r\nChannel-Identifier:7f3a@speechsynth\r\nContent-Type:text/plain\r\nContent-Length:2\r\n\r\nHi"  -- T9
    ∷ lends "MRCP/2.0 106 SPEAK 8\r\nChannel-Identifier:7f3a@speechsynth\r\nContent-Type:text/plain\r\nContent-Length:2\r\n\r\nHi"  -- T10
    ∷ lends "MRCP/2.0 72 BARGE-IN-OCCURRED 9\r\nChannel-Identifier:7f3a@speechsynth\r\n\r\n"  -- T11
    ∷ []))
    ++ measured "MRCP/2.0 59 STOP 9\r\nChannel-Identifier:7f3a@speechsynth\r\n\r\n"  -- T12
    ++ measured "MRCP/2.0 60 STOP 10\r\nChannel-Identifier:7f3a@speechsynth\r\n\r\n"  -- T13
    ++ alone "MRCP/2.0 69 SPEAK 4294967296\r\nChannel-Identifier:7f3a@speechsynth\r\n\r\n"  -- T14
    ++ map row_of
    (replies fresh
    (lends "MRCP/2.0 106 SPEAK 7\r\nChannel-Identifier:7f3a@speechsynth\r\nContent-Type:text/plain\r\nContent-Length:2\r\n\r\nHi"
    ∷ reports 0 0  -- the engine's normal end
    ∷ []))
    ≡ gives 1 0 0 ""
    ∷ gives 2 0 0 ""
    ∷ gives 4 0 0 ""
    ∷ gives 4 0 0 ""
    ∷ gives 4 0 0 ""
    ∷ gives 5 12 0 ""
    ∷ gives 1 0 0 ""
    ∷ gives 3 0 0 ""
    ∷ gives 2 0 0 ""
    ∷ gives 0 106 70 "MRCP/2.0 70 7 200 IN-PROGRESS\r\nChannel-Identifier:7f3a@speechsynth\r\n\r\n"
    ∷ gives 0 106 67 "MRCP/2.0 67 7 410 COMPLETE\r\nChannel-Identifier:7f3a@speechsynth\r\n\r\n"
    ∷ gives 0 106 66 "MRCP/2.0 66 8 200 PENDING\r\nChannel-Identifier:7f3a@speechsynth\r\n\r\n"
    ∷ gives 0 72 95 "MRCP/2.0 95 9 200 COMPLETE\r\nChannel-Identifier:7f3a@speechsynth\r\nActive-Request-Id-List:7,8\r\n\r\n"
    ∷ gives 0 59 99 "MRCP/2.0 99 9 200 COMPLETE\r\nChannel-Identifier:7f3a@speechsynth\r\nActive-Request-Id-List:1,2,3,4\r\n\r\n"
    ∷ fits 97 (99 ∷ 100 ∷ [])  -- 97 bytes without its length digits, so 99; 100 would fit too
    ∷ gives 0 60 101 "MRCP/2.0 101 10 200 COMPLETE\r\nChannel-Identifier:7f3a@speechsynth\r\nActive-Request-Id-List:1,2,3,4\r\n\r\n"
    ∷ fits 98 (101 ∷ [])  -- 98 without, so 101
    ∷ gives 5 69 0 ""
    ∷ gives 0 106 70 "MRCP/2.0 70 7 200 IN-PROGRESS\r\nChannel-Identifier:7f3a@speechsynth\r\n\r\n"
    ∷ gives 0 0 108 "MRCP/2.0 108 SPEAK-COMPLETE 7 COMPLETE\r\nChannel-Identifier:7f3a@speechsynth\r\nCompletion-Cause:000 normal\r\n\r\n"
    ∷ []
unfolding row_of gives without below fitting fit_of fresh holding alone measured opened replies digits digits_within
table = refl
