-- Start lines: document 01, "Start lines".
use Rattle.std.specs.Prelude.{ℕ, ◌+◌, Bool, true, false, ◌&&◌, ◌||◌, List, [], ◌∷◌, eqb, leb, length, drop}
use Rattle.std.proofs.Math.Option.{Option, none, some}
use Rattle.lists.specs.Lists.{all, same}
use Rattle.octets.specs.Octets.{bytes, is_digit, is_capital}
use Rattle.readers.specs.Words.{line, words, number_of, is_request_id}
use Rattle.message.specs.Message.{Start, request, response, event}
use Rattle.message.specs.declared.Span.{Span}
use Rattle.message.specs.declared.RequestState.{RequestState}
use Rattle.message.specs.declared.RequestState.TheVariants.{Pending, InProgress, Complete}

abbrev pub starts_capital : List ℕ → Bool
starts_capital [] = false
starts_capital (x ∷ w) = is_capital x

-- a method's or event's name: 1 to 32 bytes, capitals and `-`, beginning with a capital
abbrev pub is_method_name : List ℕ → Bool
is_method_name w = starts_capital w && leb (length w) 32 && all (λ x. is_capital x || eqb x 45) w

-- three digits
abbrev pub is_status : List ℕ → Bool
is_status w = eqb (length w) 3 && all is_digit w

abbrev pub state_text : RequestState → List ℕ
state_text Pending = bytes "PENDING"
state_text InProgress = bytes "IN-PROGRESS"
state_text Complete = bytes "COMPLETE"

abbrev pub state_of : List ℕ → Option RequestState
state_of w = elim (same w (state_text Pending)) [
  | true ↦ some Pending
  | false ↦ elim (same w (state_text InProgress)) [
    | true ↦ some InProgress
    | false ↦ elim (same w (state_text Complete)) [ true ↦ some Complete | false ↦ none ]
  ]
]

abbrev pub two_words : ℕ → List ℕ → List ℕ → Option (Start Span)
two_words at a b = elim (is_method_name a && is_request_id b) [
  | true ↦ some (request (record { start = at; len = length a }) (number_of b))
  | false ↦ none
]

abbrev pub three_words : ℕ → List ℕ → List ℕ → Option RequestState → Option (Start Span)
three_words at a b none = none
three_words at a b (some state) = elim (is_request_id a && is_status b) [
  | true ↦ some (response (number_of a) (number_of b) state)
  | false ↦ elim (is_method_name a && is_request_id b) [
    | true ↦ some (event (record { start = at; len = length a }) (number_of b) state)
    | false ↦ none
  ]
]

-- the words after the opening, the first of them at `at`
abbrev pub start_of : ℕ → List (List ℕ) → Option (Start Span)
start_of at [] = none
start_of at (a ∷ []) = none
start_of at (a ∷ b ∷ []) = two_words at a b
start_of at (a ∷ b ∷ c ∷ []) = three_words at a b (state_of c)
start_of at (a ∷ b ∷ c ∷ d ∷ ws) = none

-- a start line, and where the lines after it begin
pub data Started : Type 0 where
  malformed : Started
  started : Start Span → ℕ → Started

abbrev pub going_on : Option (Start Span) → ℕ → Started
going_on none next = malformed
going_on (some s) next = started s next

abbrev pub line_start : ℕ → Option (List ℕ) → Started
line_start at none = malformed
line_start at (some l) = going_on (start_of at (words 32 l)) (at + length l + 2)

-- the start line of a frame whose opening has k bytes: it ends at the first CRLF
unfoldable pub start_line : ℕ → List ℕ → Started
start_line k f = line_start k (line (drop k f))
