-- Whose request it is, told from the start line alone: document 02, K3.
use Rattle.std.specs.Prelude.{ℕ, min, ◌≡◌, true, false, ◌&&◌, List, ltb, length, take, drop, set}
use Rattle.std.specs.Prelude.{Result, Ok, Err}
use Rattle.std.proofs.Math.Option.{Option, none, some}
use Rattle.readers.specs.Readers.{Read, short, wrong, got}
use Rattle.readers.specs.Words.{line, words}
use Rattle.framing.specs.Framing.{opening}
use Rattle.framing.specs.declared.Opening.{Opening}
use Rattle.message.specs.Message.{Start, request, response, event, Reading, refused, message}
use Rattle.message.specs.StartLines.{start_of}
use Rattle.message.specs.declared.Span.{Span}
use Rattle.readers.specs.declared.Misread.{Misread}
use Rattle.readers.specs.declared.Misread.TheVariants.{Short, Wrong}
use Rattle.whose.specs.declared.NoId.{NoId}
use Rattle.whose.specs.declared.NoId.TheVariants.{More, NoMessage, TooShort, Malformed}

-- the request-id of the message at the front; or why it is not known
abbrev pub Whose : Type 0
Whose = Result ℕ NoId

-- the request-id, of all three kinds
abbrev pub id_in : {P : Type 0} → Start P → ℕ
id_in (request name i) = i
id_in (response i status state) = i
id_in (event name i state) = i

abbrev pub of_start : Option (Start Span) → Whose
of_start none = Err Malformed
of_start (some st) = Ok (id_in st)

-- the line behind an opening of k bytes; where none has ended, 1 while fewer bytes than 128 and than stated are lent,
-- else 5
abbrev pub of_line : ℕ → ℕ → ℕ → Option (List ℕ) → Whose
of_line k stated lent none = elim (ltb lent 128 && ltb lent stated) [ true ↦ Err More | false ↦ Err Malformed ]
of_line k stated lent (some l) = of_start (start_of k (words 32 l))

-- the bytes that are looked at: the first 128 lent, inside the stated length
abbrev pub window : ℕ → List ℕ → List ℕ
window stated s = take (min 128 stated) s

-- what was not read: a proper beginning of some opening asks for more
abbrev pub unread : Misread → NoId
unread Short = More
unread Wrong = NoMessage

-- 2 and 4 as in document 01 first
abbrev pub of_opening : List ℕ → Read Opening → Whose
of_opening s short = Err More
of_opening s wrong = Err NoMessage
of_opening s (got o k) = elim (ltb o.stated k) [
  | true ↦ Err TooShort
  | false ↦ of_line k o.stated (length s) (line (drop k (window o.stated s)))
]

unfoldable pub whose : List ℕ → Whose
whose s = of_opening s (opening s)

-- the paper's number of each case
abbrev pub number : NoId → ℕ
number More = 1
number NoMessage = 2
number TooShort = 4
number Malformed = 5

abbrev pub refusal : Whose → ℕ
refusal (Err why) = number why
refusal (Ok i) = 0

-- the place lent for the request-id: nothing is written where the call is refused
abbrev pub leaves : List ℕ → Whose → List ℕ
leaves place (Err why) = place
leaves place (Ok i) = set place 0 i

-- what the call returns to C, and leaves in the place lent for the request-id
pub record Told : Type 0 where
  pub number : ℕ
  pub id : List ℕ

unfoldable pub whose_face : List ℕ → List ℕ → Told
whose_face s place = record { number = refusal (whose s); id = leaves place (whose s) }

-- full reading says the same: 5, or the request-id
abbrev pub Agrees : {P : Type 0} → Reading P → Whose → Type 0
Agrees (refused number consumed) w = (number ≡ 5) × (w ≡ Err Malformed)
Agrees (message h st fs) w = w ≡ Ok (id_in st)
