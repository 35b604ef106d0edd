-- Cutting lent bytes into messages: document 01, "Framing".
use Rattle.std.specs.Prelude.{ℕ, true, false, List, ltb, length, Result, Ok, Err}
use Rattle.octets.specs.Octets.{bytes}
use Rattle.readers.specs.Readers.{Read, short, wrong, got, Reader, ◌>>=◌, ◌>>◌, done, text, number}
use Rattle.framing.specs.declared.Opening.{Opening}
use Rattle.readers.specs.declared.Misread.{Misread}
use Rattle.readers.specs.declared.Misread.TheVariants.{Short, Wrong}
use Rattle.framing.specs.declared.Framed.{Framed}
use Rattle.framing.specs.declared.NoFrame.{NoFrame}
use Rattle.framing.specs.declared.NoFrame.TheVariants.{More, NoMessage, TooLong, TooShort}

-- where the message at the front ends; or why that is not known
abbrev pub Framing : Type 0
Framing = Result Framed NoFrame

-- a frame of n bytes with an opening of k
abbrev pub Frame : (major minor k n : ℕ) → Framing
Frame major minor k n = Ok (record { major = major; minor = minor; opening = k; length = n })

-- `MRCP/`, 1 or 2 digits, `.`, 1 or 2 digits, one space, 1 to 19 digits, one space
unfoldable pub opening : Reader Opening
opening = do
  text (bytes "MRCP/")
  major ← number 2
  text (bytes ".")
  minor ← number 2
  text (bytes " ")
  stated ← number 19
  text (bytes " ")
  done (record { major = major; minor = minor; stated = stated })

-- with an opening of k bytes, where `lent` bytes are there: 3, then 4, then 1 if fewer than the stated bytes are there
abbrev pub measured : Opening → ℕ → ℕ → Framing
measured o k lent = elim (ltb 16384 o.stated) [
  | true ↦ Err TooLong
  | false ↦ elim (ltb o.stated k) [
    | true ↦ Err TooShort
    | false ↦ elim (ltb lent o.stated) [
      | true ↦ Err More
      | false ↦ Frame o.major o.minor k o.stated
    ]
  ]
]

-- what was not read: a proper beginning of some opening asks for more
abbrev pub unread : Misread → NoFrame
unread Short = More
unread Wrong = NoMessage

-- a proper beginning of some opening: 1; no opening, and none can come of it: 2
abbrev pub framed : Read Opening → ℕ → Framing
framed short lent = Err More
framed wrong lent = Err NoMessage
framed (got o k) lent = measured o k lent

unfoldable pub framing : List ℕ → Framing
framing s = framed (opening s) (length s)

-- the paper's number of each case
abbrev pub refusal : Framing → ℕ
refusal (Err More) = 1
refusal (Err NoMessage) = 2
refusal (Err TooLong) = 3
refusal (Err TooShort) = 4
refusal (Ok f) = 0

-- the stated length where there is a frame
abbrev pub frame_length : Framing → ℕ
frame_length (Err why) = 0
frame_length (Ok f) = f.length
