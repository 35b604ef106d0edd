-- The readings of document 01 that docs/DECISIONS.md records by number, and each judgement, computed: the number with which a call is refused, else
-- the status that it answers. Assumes nothing.
use Prim.Native.Nat.{ℕ, zero, suc}
use Prim.Native.String.{String}
use mathlib.Core.Path.{◌≡◌, refl}
use mathlib.Core.List.{List, [], ◌∷◌, map}
use Rattle.std.specs.Prelude.{Some}
use Rattle.message.specs.Message.{Reading, refused, message}
use Rattle.synth.specs.Channel.{View}
use Rattle.synth.specs.Calls.{Reply}
use Rattle.synth.specs.declared.State.{State}
use Rattle.synth.specs.declared.State.TheVariants.{Speaking, Paused}
use Rattle.synth.proofs.Computed.{opened, channel, killed, status_of, lends, replies, leaves, hears_bytes}

-- a channel that holds these ids, the last of them the last seen
abbrev pub holding : State → List ℕ → ℕ → View
holding state ids last = channel "7f3a@speechsynth" state (map killed ids) (Some last)

pub fresh : View
fresh = opened "7f3a@speechsynth"

pub speaking : View
speaking = holding Speaking (7 ∷ 8 ∷ []) 8

pub paused : View
paused = holding Paused (1 ∷ 2 ∷ 3 ∷ []) 3

pub full : View
full = holding Speaking (1 ∷ 2 ∷ 3 ∷ 4 ∷ 5 ∷ 6 ∷ 7 ∷ 8 ∷ 9 ∷ 10 ∷ 11 ∷ 12 ∷ 13 ∷ 14 ∷ 15 ∷ 16 ∷ []) 16

abbrev pub status_in : Reading (List ℕ) → ℕ
status_in (refused n k) = 0
status_in (message h start fs) = status_of start

abbrev pub number_or_status : List Reply → ℕ
number_or_status [] = 0
number_or_status (r ∷ rs) = elim r.number [ zero ↦ status_in (hears_bytes r.written) | suc n ↦ suc n ]

unfoldable pub at : View → String → ℕ
at v text = number_or_status (replies v (lends text ∷ []))

pub readings :
    at fresh "MRCP/2.0 9999999999999999999"  -- 1: only the closing space makes an opening
    ∷ at fresh "MRCP/2.0 99999999999999999990"  -- 1: a 20th digit
    ∷ at fresh "\r\nMRCP/2.0 "  -- 2: nothing is skipped in front
    ∷ at fresh "mrcp/2.0"  -- 2: capitals are capitals
    ∷ at fresh "MRCP/2.0  "  -- 2: two spaces after the version
    ∷ at fresh "MRCP/2.0 60  STOP 9\r\nChannel-Identifier:7f3a@speechsynth\r\n\r\n"  -- 2: two spaces after the length
    ∷ at fresh "MRCP/2.0 0000000000000000020 "  -- 3: zeros and the last space count
    ∷ at fresh "MRCP/2.0 12 "  -- 3: a frame of its opening alone
    ∷ at fresh "MRCP/2.0 20 STOP 9\r\n"  -- 4: the frame ends with the start line's CRLF
    ∷ at fresh "MRCP/2.0 19 STOP 9\r\n"  -- 4: it ends between CR and LF
    ∷ at fresh "MRCP/3.0 60 STOP  9\r\nChannel-Identifier:7f3a@speechsynth\r\n\r\n"  -- 5: a malformed line, whatever the version
    ∷ at fresh "MRCP/2.0 35 9 200 COMPLETE\r\nbad\r\n\r\n"  -- 5: a response, whatever its fields
    ∷ at fresh "MRCP/2.0 87 AAAAAAAAAAAAAAAAAAAAAAAAAAAAAAAA 9\r\nChannel-Identifier:7f3a@speechsynth\r\n\r\n"  -- 6: a name of 32 bytes
    ∷ at fresh "MRCP/2.0 88 AAAAAAAAAAAAAAAAAAAAAAAAAAAAAAAAA 9\r\nChannel-Identifier:7f3a@speechsynth\r\n\r\n"  -- 6: a name of 33 bytes
    ∷ at fresh "MRCP/2.0 60 STOP 9 \r\nChannel-Identifier:7f3a@speechsynth\r\n\r\n"  -- 6: a space at the end
    ∷ at fresh "MRCP/2.0 57 A- 9\r\nChannel-Identifier:7f3a@speechsynth\r\n\r\n"  -- 6: A- is a name
    ∷ at fresh "MRCP/2.0 68 STOP 0000000007\r\nChannel-Identifier:7f3a@speechsynth\r\n\r\n"  -- 6: ten digits with zeros
    ∷ at fresh "MRCP/2.0 69 STOP 00000000007\r\nChannel-Identifier:7f3a@speechsynth\r\n\r\n"  -- 6: eleven digits
    ∷ at fresh "MRCP/02.00 61 STOP 9\r\nChannel-Identifier:7f3a@speechsynth\r\n\r\n"  -- 6: versions as numbers
    ∷ at fresh "MRCP/2.0 63 STOP 9\r\nChannel-Identifier:7f3a@speechsynth\r\n \t\r\n\r\n"  -- 7, replaced by K2: a line of blanks goes on
    ∷ at fresh "MRCP/2.0 70 STOP 9\r\nChannel-Identifier:7f3a@speechsynth\r\nVendor:a\u{1}\r\n\r\n"  -- 8: an ignored value's bytes are judged
    ∷ at fresh "MRCP/2.0 89 STOP 9\r\nChannel-Identifier:7f3a@speechsynth\r\nLogging-Tag:a\r\nlogging-tag:b\r\n\r\n"  -- 9: a known name twice, whatever it does there
    ∷ at fresh "MRCP/2.0 79 STOP 9\r\nChannel-Identifier:7f3a@speechsynth\r\nVendor:a\r\nVendor:b\r\n\r\n"  -- 9: an unknown name twice
    ∷ at fresh "MRCP/2.0 84 STOP 9\r\nChannel-Identifier:7f3a@speechsynth\r\nContent-Type:text/plain\r\n\r\n"  -- 10: STOP with Content-Type
    ∷ at fresh "MRCP/2.0 79 STOP 9\r\nChannel-Identifier:7f3a@speechsynth\r\nContent-Length:2\r\n\r\nHi"  -- 10: a body where none is used
    ∷ at fresh "MRCP/2.0 43 STOP 9\r\nChannel-Identifier:\r\n\r\n"  -- 11: an empty Channel-Identifier
    ∷ at fresh "MRCP/2.0 76 STOP 9\r\nChannel-Identifier:7f3a@speechsynth\r\nContent-Length:\r\n\r\n"  -- 11: an empty Content-Length
    ∷ at fresh "MRCP/2.0 95 SPEAK 9\r\nChannel-Identifier:7f3a@speechsynth\r\nContent-Type:\r\nContent-Length:2\r\n\r\nHi"  -- 11: an empty Content-Type in SPEAK
    ∷ at fresh "MRCP/2.0 125 SPEAK 9\r\nChannel-Identifier:7f3a@speechsynth\r\nContent-Type:text/plain\r\nContent-Length:2\r\nKill-On-Barge-In:\r\n\r\nHi"  -- 11: an empty Kill-On-Barge-In in SPEAK
    ∷ at fresh "MRCP/2.0 84 STOP 9\r\nChannel-Identifier:7f3a@speechsynth\r\nActive-Request-Id-List:\r\n\r\n"  -- 11: an empty list in STOP
    ∷ at fresh "MRCP/2.0 62 STOP 9\r\nChannel-Identifier: \t7f3a@speechsynth \r\n\r\n"  -- 11: blanks are dropped before a comparison
    ∷ at fresh "MRCP/2.0 96 STOP 9\r\nChannel-Identifier:7f3a@speechsynth\r\nContent-Length:00000000000000000000\r\n\r\n"  -- 12: Content-Length of 20 digits
    ∷ at fresh "MRCP/2.0 106 SPEAK 9\r\nChannel-Identifier:7f3a@speechsynth\r\nContent-Type:text/plain\r\nContent-Length:3\r\n\r\nHi"  -- wrong turn: Content-Length above the body
    ∷ at fresh "MRCP/2.0 106 SPEAK 9\r\nChannel-Identifier:7f3a@speechsynth\r\nContent-Type:text/plain\r\nContent-Length:1\r\n\r\nHi"  -- wrong turn: Content-Length below the body
    ∷ at fresh "MRCP/2.0 81 LISTEN 9\r\nChannel-Identifier:7f3a@speechsynth\r\nKill-On-Barge-In:x\r\n\r\n"  -- 13: with an unknown method nothing else acts
    ∷ at fresh "MRCP/2.0 59 STOP 0\r\nChannel-Identifier:7f3a@speechsynth\r\n\r\n"  -- 15: id 0 on a fresh channel
    ∷ at fresh "MRCP/2.0 87 SPEAK 9\r\nChannel-Identifier:7f3a@speechsynth\r\nContent-Type:text/plain\r\n\r\nHi"  -- 16: a body without Content-Length
    ∷ at fresh "MRCP/2.0 85 SPEAK 9\r\nChannel-Identifier:7f3a@speechsynth\r\nContent-Type:text/plain\r\n\r\n"  -- 16: neither body nor Content-Length
    ∷ at fresh "MRCP/2.0 78 SPEAK 9\r\nChannel-Identifier:7f3a@speechsynth\r\nContent-Length:0\r\n\r\n"  -- 16: no type and an empty body
    ∷ at fresh "MRCP/2.0 97 SPEAK 9\r\nChannel-Identifier:7f3a@speechsynth\r\nContent-Type:text\r\nContent-Length:0\r\n\r\n"  -- 16: a bad type and an empty body
    ∷ at full "MRCP/2.0 101 SPEAK 20\r\nChannel-Identifier:7f3a@speechsynth\r\nContent-Type:text\r\nContent-Length:2\r\n\r\nHi"  -- 16: a bad type with 16 outstanding
    ∷ at fresh "MRCP/2.1 106 SPEAK 9\r\nChannel-Identifier:7f3a@speechsynth\r\nContent-Type:text/plain\r\nContent-Length:2\r\n\r\nHi"  -- judgement 1
    ∷ at fresh "MRCP/2.0 22 STOP 9\r\n\r\n"  -- judgement 3
    ∷ at fresh "MRCP/2.0 59 STOP 9\r\nChannel-Identifier:7f3b@speechsynth\r\n\r\n"  -- judgement 4
    ∷ at speaking "MRCP/2.0 59 STOP 7\r\nChannel-Identifier:7f3a@speechsynth\r\n\r\n"  -- judgement 5
    ∷ at fresh "MRCP/2.0 60 PAUSE 9\r\nChannel-Identifier:7f3a@speechsynth\r\n\r\n"  -- judgement 8
    ∷ at fresh "MRCP/2.0 61 RESUME 9\r\nChannel-Identifier:7f3a@speechsynth\r\n\r\n"  -- judgement 8
    ∷ at fresh "MRCP/2.0 62 CONTROL 9\r\nChannel-Identifier:7f3a@speechsynth\r\n\r\n"  -- judgement 8
    ∷ at full "MRCP/2.0 107 SPEAK 20\r\nChannel-Identifier:7f3a@speechsynth\r\nContent-Type:text/plain\r\nContent-Length:2\r\n\r\nHi"  -- judgement 10
    ∷ at speaking "MRCP/2.0 103 STOP 9\r\nChannel-Identifier:7f3a@speechsynth\r\nActive-Request-Id-List:9,007,7,4294967295\r\n\r\n"  -- 17: ids twice, unknown, and its own
    ∷ at speaking "MRCP/2.0 94 STOP 9\r\nChannel-Identifier:7f3a@speechsynth\r\nActive-Request-Id-List:4294967296\r\n\r\n"  -- 17: an id out of range
    ∷ at speaking "MRCP/2.0 88 STOP 9\r\nChannel-Identifier:7f3a@speechsynth\r\nActive-Request-Id-List:7,,8\r\n\r\n"  -- 17: two commas
    ∷ at paused "MRCP/2.0 60 PAUSE 9\r\nChannel-Identifier:7f3a@speechsynth\r\n\r\n"  -- 19: PAUSE while paused
    ∷ at fresh "MRCP/2.0 59 STOP 9\r\nChannel-Identifier:7f3a@speechsynth\r\n\r\n"  -- 19: STOP while idle
    ∷ []
    ≡ 1 ∷ 2 ∷ 2 ∷ 2 ∷ 2 ∷ 5 ∷ 4 ∷ 5 ∷ 404 ∷ 5 ∷ 5 ∷ 6 ∷ 401 ∷ 5
    ∷ 5 ∷ 401 ∷ 200 ∷ 5 ∷ 200 ∷ 200 ∷ 404 ∷ 404 ∷ 201 ∷ 201 ∷ 200 ∷ 405 ∷ 404 ∷ 409
    ∷ 404 ∷ 404 ∷ 200 ∷ 404 ∷ 404 ∷ 404 ∷ 401 ∷ 200 ∷ 404 ∷ 406 ∷ 406 ∷ 408 ∷ 409 ∷ 502
    ∷ 406 ∷ 405 ∷ 410 ∷ 402 ∷ 402 ∷ 402 ∷ 407 ∷ 200 ∷ 404 ∷ 404 ∷ 200 ∷ 200
    ∷ []
unfolding at fresh speaking paused full opened replies hears_bytes
readings = refl

-- 19, and the wrong turn of starting the next SPEAK after the active one was stopped while paused: 3 is active, and paused
pub still_paused :
    leaves paused (lends "MRCP/2.0 87 STOP 9\r\nChannel-Identifier:7f3a@speechsynth\r\nActive-Request-Id-List:2,1\r\n\r\n" ∷ [])
    ≡ holding Paused (3 ∷ []) 9
unfolding paused leaves
still_paused = refl
