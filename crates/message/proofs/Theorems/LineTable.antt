-- Start lines, field lines and known names by table: what each line is read as. Assumes nothing.
use Prim.Native.Nat.{ℕ}
use Prim.Native.String.{String}
use mathlib.Core.Path.{◌≡◌, refl}
use mathlib.Core.List.{[], ◌∷◌}
use Rattle.octets.specs.Octets.{bytes}
use Rattle.message.specs.Message.{request, response, event}
use Rattle.message.specs.StartLines.{Started, started, start_line}
use Rattle.message.specs.Folds.{raw, joined}
use Rattle.message.specs.Fields.{Line, empty, field, field_line}
use Rattle.message.specs.Known.{known_of}
use Rattle.message.specs.declared.RequestState.{RequestState}
use Rattle.message.specs.declared.RequestState.TheVariants.{Pending, InProgress, Complete}
use Rattle.message.specs.declared.Known.{Known}
use Rattle.message.specs.declared.Known.TheVariants.{ChannelIdentifier, ContentLength, ContentType, ActiveRequestIdList, KillOnBargeIn, ProxySyncId, LoggingTag, Unknown}

pub started_by : String → Started
started_by text = start_line 0 (bytes text)

-- a request with a name of so many bytes at the front, its id, and where the next line begins
pub asks : ℕ → ℕ → ℕ → Started
asks length id next = started (request (record { start = 0; len = length }) id) next

pub answers : ℕ → ℕ → RequestState → ℕ → Started
answers id status state next = started (response id status state) next

pub tells : ℕ → ℕ → RequestState → ℕ → Started
tells length id state next = started (event (record { start = 0; len = length }) id state) next

pub start_lines :
    started_by "STOP 9\r\nX"
    ∷ started_by "9 200 PENDING\r\n"
    ∷ started_by "9 200 IN-PROGRESS\r\n"
    ∷ started_by "9 000 COMPLETE\r\n"
    ∷ started_by "SPEAK-COMPLETE 9 COMPLETE\r\n"
    ∷ started_by "A- 9\r\n"
    ∷ started_by "AAAAAAAAAAAAAAAAAAAAAAAAAAAAAAAA 9\r\n"
    ∷ started_by "STOP 0000000007\r\n"
    ∷ started_by "STOP 4294967295\r\n"
    ∷ started_by "AAAAAAAAAAAAAAAAAAAAAAAAAAAAAAAAA 9\r\n"  -- a name of 33 bytes
    ∷ started_by "-A 9\r\n"  -- a name begins with a capital
    ∷ started_by "Stop 9\r\n"  -- and has no small letter
    ∷ started_by "STOP 00000000007\r\n"  -- eleven digits
    ∷ started_by "STOP 4294967296\r\n"  -- out of range
    ∷ started_by "STOP  9\r\n"  -- two spaces
    ∷ started_by "STOP 9 \r\n"  -- a space at the end
    ∷ started_by "STOP\r\n"  -- one word
    ∷ started_by "STOP 9 COMPLETE 9\r\n"  -- four words
    ∷ started_by "9 20 COMPLETE\r\n"  -- two digits
    ∷ started_by "9 200 IN_PROGRESS\r\n"  -- no state
    ∷ started_by "STOP 9"  -- no CRLF
    ∷ started_by "STOP 9\n"  -- a bare LF
    ∷ []
    ≡ asks 4 9 8
    ∷ answers 9 200 Pending 15
    ∷ answers 9 200 InProgress 19
    ∷ answers 9 0 Complete 16
    ∷ tells 14 9 Complete 27
    ∷ asks 2 9 6
    ∷ asks 32 9 36
    ∷ asks 4 7 17
    ∷ asks 4 4294967295 17
    ∷ Started.malformed
    ∷ Started.malformed
    ∷ Started.malformed
    ∷ Started.malformed
    ∷ Started.malformed
    ∷ Started.malformed
    ∷ Started.malformed
    ∷ Started.malformed
    ∷ Started.malformed
    ∷ Started.malformed
    ∷ Started.malformed
    ∷ Started.malformed
    ∷ Started.malformed
    ∷ []
unfolding started_by asks answers tells start_line
start_lines = refl

unfoldable pub line_of : String → Line
line_of text = field_line 0 (bytes text)

-- a name of so many bytes at the front, a value's place and length, and where the next line begins
unfoldable pub named : ℕ → ℕ → ℕ → ℕ → Line
named length at valued next = field (record { name = record { start = 0; len = length }; value = record { start = at; len = valued } }) next

pub field_lines_lem :
    line_of "A:b\r\nB"
    ∷ line_of "A: \tb c \t\r\n"  -- blanks at both ends are dropped
    ∷ line_of "A:\r\n"
    ∷ line_of "A:  \r\n"
    ∷ line_of "a-0:b:\u{80}ÿ\r\n"
    ∷ line_of "nnnnnnnnnnnnnnnnnnnnnnnnnnnnnnnnnnnnnnnnnnnnnnnnnnnnnnnnnnnnnnnn:b\r\n"
    ∷ line_of "\r\n"
    ∷ line_of "nnnnnnnnnnnnnnnnnnnnnnnnnnnnnnnnnnnnnnnnnnnnnnnnnnnnnnnnnnnnnnnnn:b\r\n"  -- a name of 65 bytes
    ∷ line_of ":b\r\n"  -- a name of none
    ∷ line_of "A\r\n"  -- no colon
    ∷ line_of " A:b\r\n"  -- a blank in front
    ∷ line_of "\tA:b\r\n"
    ∷ line_of "A :b\r\n"
    ∷ line_of "A:\u{1}\r\n"  -- no value byte
    ∷ line_of "A:\u{7f}\r\n"
    ∷ line_of "A:b"  -- no CRLF
    ∷ line_of "A:b\n"
    ∷ []
    ≡ named 1 2 1 5
    ∷ named 1 4 3 11
    ∷ named 1 2 0 4
    ∷ named 1 4 0 6
    ∷ named 3 4 4 10
    ∷ named 64 65 1 68
    ∷ empty 2
    ∷ Line.malformed
    ∷ Line.malformed
    ∷ Line.malformed
    ∷ Line.malformed
    ∷ Line.malformed
    ∷ Line.malformed
    ∷ Line.malformed
    ∷ Line.malformed
    ∷ Line.malformed
    ∷ Line.malformed
    ∷ []
unfolding line_of named field_line raw joined
field_lines_lem = refl

pub known : String → Known
known name = known_of (bytes name)

pub known_names_lem :
    known "Channel-Identifier"
    ∷ known "Content-Length"
    ∷ known "Content-Type"
    ∷ known "Active-Request-Id-List"
    ∷ known "Kill-On-Barge-In"
    ∷ known "Proxy-Sync-Id"
    ∷ known "Logging-Tag"
    ∷ known "CHANNEL-identifier"
    ∷ known "logging-TAG"
    ∷ known "Channel-Identifie"
    ∷ known "Vendor"
    ∷ []
    ≡ ChannelIdentifier
    ∷ ContentLength
    ∷ ContentType
    ∷ ActiveRequestIdList
    ∷ KillOnBargeIn
    ∷ ProxySyncId
    ∷ LoggingTag
    ∷ ChannelIdentifier
    ∷ LoggingTag
    ∷ Unknown
    ∷ Unknown
    ∷ []
unfolding known known_of
known_names_lem = refl
