-- Whose request it is, by table. Assumes nothing.
use Prim.Native.Nat.{ℕ}
use Prim.Native.String.{String}
use mathlib.Core.Path.{◌≡◌, refl}
use mathlib.Core.List.{[], ◌∷◌, ◌++◌}
use lib.ListN.{replicate, take}
use Rattle.octets.specs.Octets.{bytes}
use Rattle.framing.specs.Framing.{opening}
use Rattle.std.specs.Prelude.{Ok, Err}
use Rattle.whose.specs.Whose.{Whose, whose}
use Rattle.whose.specs.declared.NoId.TheVariants.{More, NoMessage, TooShort, Malformed}

pub told : String → Whose
told text = whose (bytes text)

pub answers :
    told "MRCP/2.0 99 SPEAK 7\r\n"  -- a request
    ∷ told "MRCP/2.0 99 7 200 COMPLETE\r\n"  -- a response
    ∷ told "MRCP/2.0 99 SPEAK-COMPLETE 7 COMPLETE\r\n"  -- an event
    ∷ told "MRCP/1.0 99 SPEAK 7\r\n"  -- whatever the version
    ∷ told "MRCP/2.0 99999 SPEAK 8\r\n"  -- and however long the message: no 3
    ∷ told "MRCP/2.0 9999999999999999999 SPEAK 8\r\n"
    ∷ told "MRCP/2.0 99 SPEAK 7\r\nChannel-Id"  -- what follows is not looked at
    ∷ told "MRCP/2.0 21 SPEAK 7\r\n"  -- the CRLF ends with the stated length
    ∷ told "MRCP/02.00 0000000000000000099 AAAAAAAAAAAAAAAAAAAAAAAAAAAAAAAA 4294967295 IN-PROGRESS\r\n"  -- 88 bytes
    ∷ told "MRCP/2.0 20 SPEAK 7\r\n"  -- one byte past it
    ∷ told "MRCP/2.0 20 SPEAK 7\r"  -- all that is stated is there, and no CRLF
    ∷ told "MRCP/2.0 20 SPEAK 7"  -- one byte fewer
    ∷ told "MRCP/2.0 99 SPEAK 7\r"  -- CR without its LF
    ∷ told "MRCP/2.0 99 speak 7"  -- malformed already, and its CRLF has not come
    ∷ told "MRCP/2.0 99 speak 7\r\n"
    ∷ told "MRCP/2.0 99 SPEAK 4294967296\r\n"
    ∷ told "MRCP/2.0 99  SPEAK 7\r\n"
    ∷ told "MRCP/2.0 12 "  -- the opening alone is stated
    ∷ told "MRCP/2.0 11 "  -- less than that
    ∷ told "MRCP/2.0 11 SPEAK 7\r\n"  -- also with a line behind it
    ∷ told "MRCP/2.0 99"
    ∷ told ""
    ∷ told "MRCP/2.0  99 SPEAK 7\r\n"
    ∷ told "mrcp/2.0 99 SPEAK 7\r\n"
    ∷ []
    ≡ Ok 7
    ∷ Ok 7
    ∷ Ok 7
    ∷ Ok 7
    ∷ Ok 8
    ∷ Ok 8
    ∷ Ok 7
    ∷ Ok 7
    ∷ Ok 4294967295
    ∷ Err Malformed
    ∷ Err Malformed
    ∷ Err More
    ∷ Err More
    ∷ Err More
    ∷ Err Malformed
    ∷ Err Malformed
    ∷ Err Malformed
    ∷ Err Malformed
    ∷ Err TooShort
    ∷ Err TooShort
    ∷ Err More
    ∷ Err More
    ∷ Err NoMessage
    ∷ Err NoMessage
    ∷ []
unfolding told whose opening
answers = refl

-- A line whose CRLF ends at byte n + 15, and 999 stated: the first `lent` bytes of it.
pub front : ℕ → ℕ → Whose
front lent n = whose (take lent (bytes "MRCP/2.0 999 " ++ replicate n 65 ++ bytes "\r\nX"))

pub around_128 :
    front 126 112  -- the CRLF ends at byte 127
    ∷ front 127 112
    ∷ front 127 113  -- at 128
    ∷ front 128 113
    ∷ front 127 114  -- at 129
    ∷ front 128 114
    ∷ front 129 114
    ∷ []
    ≡ Err More
    ∷ Err Malformed
    ∷ Err More
    ∷ Err Malformed
    ∷ Err More
    ∷ Err Malformed
    ∷ Err Malformed
    ∷ []
unfolding front whose opening
around_128 = refl
