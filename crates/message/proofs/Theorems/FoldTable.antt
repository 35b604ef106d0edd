-- Fields that go on in further lines, by table: what each is read as, what a value reads as joined, what a block is.
-- Assumes nothing.
use Prim.Native.Nat.{ℕ, zero, suc}
use Prim.Native.String.{String}
use mathlib.Core.Path.{◌≡◌, refl}
use mathlib.Core.Bool.{false}
use mathlib.Core.List.{List, [], ◌∷◌, ◌++◌, map}
use lib.ListN.{length}
use Rattle.octets.specs.Octets.{bytes}
use Rattle.message.specs.Message.{Field, Fields, bad, good, fields_in, part, on_fields}
use Rattle.message.specs.Folds.{raw, joined}
use Rattle.message.specs.Fields.{Line, empty, field_line, Lines, lines, field_lines}
use Rattle.message.specs.Known.{known_of, value_of}
use Rattle.message.specs.Reading.{fields_from}
use Rattle.message.specs.declared.Span.{Span}
use Rattle.message.proofs.Theorems.LineTable.{line_of, named}

-- the value handed back is raw, and no blank or fold is at its ends
pub folded_lines :
    line_of "A:b\r\n c\r\nB"  -- inside: the value is raw
    ∷ line_of "A:b\t \r\n\t c\r\n"  -- blanks on both sides of a fold
    ∷ line_of "A:b\r\n\tc\r\n d\r\n"  -- two folds
    ∷ line_of "A:\r\n b\r\n"  -- at the front: off
    ∷ line_of "A: \r\n\t\r\n  b\r\n"  -- several in a row
    ∷ line_of "A:b\r\n \r\n"  -- at the end: off
    ∷ line_of "A:b \r\n\t\r\n \t\r\n"  -- lines of blanks alone
    ∷ line_of "A:b\r\n \r\n c\r\n"  -- a line of blanks alone inside
    ∷ line_of "A:\r\n \r\n"  -- nothing but a fold
    ∷ line_of "A:b\r\n c:d\r\n"  -- a colon in a continued line
    ∷ line_of "A:b\r\n \r\n\r\n"  -- an empty line behind a fold is not in the field
    ∷ line_of "A:b\r\n\r\n c\r\n"  -- nor what stands behind one
    ∷ line_of "\r\n b\r\n"  -- the block ends here, whatever follows
    ∷ line_of " b\r\n"  -- a continued line first
    ∷ line_of "\t\r\nA:b\r\n"  -- and one of blanks alone
    ∷ line_of "A\r\n :b\r\n"  -- behind the name
    ∷ line_of "A \r\n b:c\r\n"  -- inside the name
    ∷ line_of "A\r\n b\r\n"  -- no colon
    ∷ line_of "A:b\r\n \u{1}\r\n"  -- no value byte in a continued line
    ∷ line_of "A:b\r\n c"  -- no CRLF at its end
    ∷ line_of "A:b\r\n "  -- nor at this one's
    ∷ line_of "A:b\r c\r\n"  -- a bare CR
    ∷ line_of "A:b\n c\r\n"  -- a bare LF
    ∷ line_of "A:\r\r\n"  -- a bare CR at an end
    ∷ []
    ≡ named 1 2 5 9
    ∷ named 1 2 8 12
    ∷ named 1 2 9 13
    ∷ named 1 5 1 8
    ∷ named 1 10 1 13
    ∷ named 1 2 1 8
    ∷ named 1 2 1 13
    ∷ named 1 2 8 12
    ∷ named 1 5 0 7
    ∷ named 1 2 7 11
    ∷ named 1 2 1 8
    ∷ named 1 2 1 5
    ∷ empty 2
    ∷ Line.malformed
    ∷ Line.malformed
    ∷ Line.malformed
    ∷ Line.malformed
    ∷ Line.malformed
    ∷ Line.malformed
    ∷ Line.malformed
    ∷ Line.malformed
    ∷ Line.malformed
    ∷ Line.malformed
    ∷ Line.malformed
    ∷ []
unfolding line_of named field_line raw joined
folded_lines = refl

pub reads_as : String → List ℕ
reads_as text = joined (bytes text)

pub joined_values :
    reads_as "a\r\n b"  -- one space
    ∷ reads_as "a \t\r\n\t b"  -- for the blanks on both sides too
    ∷ reads_as "a\r\n \r\n\tb"  -- and for several in a row
    ∷ reads_as "a\r\n b \r\n c"
    ∷ reads_as "\r\n a"
    ∷ reads_as "1\r\n 0"  -- no number
    ∷ reads_as "a  b"  -- blanks in one line stay as they are
    ∷ []
    ≡ bytes "a b"
    ∷ bytes "a b"
    ∷ bytes "a b"
    ∷ bytes "a b c"
    ∷ bytes " a"
    ∷ bytes "1 0"
    ∷ bytes "a  b"
    ∷ []
unfolding reads_as joined
joined_values = refl

-- values as they came, and where the body begins
pub data Block : Type 0 where
  malformed : Block
  block : List (List ℕ) → ℕ → Block

abbrev block_in : List ℕ → Lines → Block
block_in s Lines.malformed = malformed
block_in s (lines fs b) = block (map (λ (f : Field Span). part s f.value) fs) b

-- a block of at most so many fields
pub block_of : ℕ → String → Block
block_of most text = block_in (bytes text) (field_lines most (bytes text) 0)

pub blocks :
    block_of 1 "A:b\r\n c\r\n d\r\n\r\n"  -- one field of three lines
    ∷ block_of 1 "A:b\r\n c\r\nB:d\r\n\r\n"  -- two fields
    ∷ block_of 2 "A:b\r\n c\r\nB:\r\n d\r\n\r\n"
    ∷ block_of 1 "A:b\r\n \r\n\r\n c\r\n\r\n"  -- the first empty line ends it, behind a line of blanks
    ∷ block_of 1 "A:b\r\n\r\n c\r\n\r\n"  -- and whatever the body begins with
    ∷ block_of 1 "\r\n c"
    ∷ block_of 1 " A:b\r\n\r\n"  -- a continued line before any field
    ∷ block_of 1 " \r\nA:b\r\n\r\n"
    ∷ block_of 1 "A:b\r\n c\r\n"  -- no empty line
    ∷ []
    ≡ block (bytes "b\r\n c\r\n d" ∷ []) 15
    ∷ malformed
    ∷ block (bytes "b\r\n c" ∷ bytes "d" ∷ []) 19
    ∷ block (bytes "b" ∷ []) 10
    ∷ block (bytes "b" ∷ []) 7
    ∷ block [] 2
    ∷ malformed
    ∷ malformed
    ∷ malformed
    ∷ []
unfolding block_of field_line raw joined
blocks = refl

-- judgement 2 of fields at the front of a frame
pub judged_of : String → Fields (List ℕ)
judged_of text = on_fields (part (bytes text)) (fields_from false (bytes text) 0)

pub one : String → String → String → Fields (List ℕ)
one name value body = good (record { name = bytes name; value = bytes value } ∷ []) (bytes body)

pub judgements :
    judged_of "Content-Length: \r\n 2\r\n\t\r\n\r\n x"  -- folds at both ends
    ∷ judged_of "Content-Length:\r\n\t3\r\n\r\n x"  -- another length
    ∷ judged_of "Content-Length:1\r\n 0\r\n\r\n0123456789"  -- reads `1 0`
    ∷ judged_of "A:b\r\n Content-Length:9\r\n\r\n"  -- a line that goes on is no field
    ∷ []
    ≡ one "Content-Length" "2" " x"
    ∷ bad
    ∷ bad
    ∷ one "A" "b\r\n Content-Length:9" ""
    ∷ []
unfolding judged_of one fields_from field_line raw joined known_of value_of
judgements = refl

abbrev many : ℕ → List ℕ → List ℕ
many zero text = []
many (suc n) text = text ++ many n text

-- how many fields are read where so many of two lines stand
pub of_two_lines : ℕ → ℕ
of_two_lines n = length (fields_in (fields_from false (many n (bytes "A:b\r\n c\r\n") ++ bytes "\r\n") 0))

pub counted_once : of_two_lines 31 ∷ of_two_lines 32 ∷ of_two_lines 33 ∷ [] ≡ 31 ∷ 32 ∷ 0 ∷ []
unfolding of_two_lines fields_from field_line raw joined known_of value_of
counted_once = refl
