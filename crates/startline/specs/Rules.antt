-- A start line judged word by word: a rule says what the words that are left make.
use Rattle.std.specs.Prelude.{ℕ, suc, ◌+◌, Bool, true, false, List, [], ◌∷◌, length}
use Rattle.std.proofs.Math.Option.{Option, none, some}
use Rattle.readers.specs.Words.{line, words, number_of, is_request_id}
use Rattle.message.specs.Message.{Start, request, response, event}
use Rattle.message.specs.StartLines.{is_method_name, is_status, state_of, Started, going_on}
use Rattle.message.specs.declared.Span.{Span}
use Rattle.message.specs.declared.RequestState.{RequestState}

abbrev pub Rule : Type 0
Rule = List (List ℕ) → Option (Start Span)

abbrev pub parted : Option (List ℕ) → Option (List (List ℕ))
parted none = none
parted (some l) = some (words 32 l)

-- the words of the line at the front
unfoldable pub said : List ℕ → Option (List (List ℕ))
said l = parted (line l)

-- how long words are, with one byte behind each
abbrev pub size : List (List ℕ) → ℕ
size [] = 0
size (w ∷ ws) = suc (length w) + size ws

-- the start that words at `at` make by a rule, and where the lines after them begin
unfoldable pub told : Rule → ℕ → Option (List (List ℕ)) → Started
told rule at none = Started.malformed
told rule at (some ws) = going_on (rule ws) (at + size ws + 1)

-- a word that passes the test, and then a rule for the others
abbrev pub word : (List ℕ → Bool) → (List ℕ → Rule) → Rule
word test more [] = none
word test more (w ∷ ws) = elim (test w) [ true ↦ more w ws | false ↦ none ]

abbrev pub made : (RequestState → Start Span) → Option RequestState → Option (Start Span)
made start none = none
made start (some state) = some (start state)

-- a state, and nothing else
abbrev pub last_word : (RequestState → Start Span) → Rule
last_word start [] = none
last_word start (c ∷ []) = made start (state_of c)
last_word start (c ∷ d ∷ ws) = none

-- a response's words, from its status on, and all of them
abbrev pub from_status : ℕ → Rule
from_status id = word is_status (λ b. last_word (response id (number_of b)))

abbrev pub from_id : Rule
from_id = word is_request_id (λ a. from_status (number_of a))

-- a request has no word behind its request-id, an event its state
abbrev pub from_end : Span → ℕ → Rule
from_end name id [] = some (request name id)
from_end name id (c ∷ ws) = last_word (event name id) (c ∷ ws)

-- a request's or event's words, from its request-id on, and all of them
abbrev pub behind_name : Span → Rule
behind_name name = word is_request_id (λ b. from_end name (number_of b))

abbrev pub from_name : ℕ → Rule
from_name at = word is_method_name (λ a. behind_name (record { start = at; len = length a }))
