-- The start line as a grammar: nothing here is about how it is read. Document 01, "Start lines".
use Rattle.std.specs.Prelude.{ℕ, ◌≡◌, true, List, ◌∷◌, ◌++◌, drop}
use Rattle.readers.specs.Words.{is_request_id}
use Rattle.message.specs.StartLines.{is_method_name, is_status, state_text}
use Rattle.message.specs.declared.RequestState.{RequestState}

-- two texts with a single space between them
abbrev pub spaced : List ℕ → List ℕ → List ℕ
spaced u w = u ++ 32 ∷ w

-- a request: name, request-id; a response: request-id, three digits, state; an event: name, request-id, state
pub data IsStart : List ℕ → Type 0 where
  asks : (name id : List ℕ) → is_method_name name ≡ true → is_request_id id ≡ true → IsStart (spaced name id)
  answers : (id status : List ℕ) (state : RequestState) → is_request_id id ≡ true → is_status status ≡ true
      → IsStart (spaced id (spaced status (state_text state)))
  tells : (name id : List ℕ) (state : RequestState) → is_method_name name ≡ true → is_request_id id ≡ true
      → IsStart (spaced name (spaced id (state_text state)))

-- One of the three stands in the frame f from k on, and CRLF behind it. None of them has a CR, so that is the first
-- CRLF.
abbrev pub Starts : ℕ → List ℕ → Type 0
Starts k f = (l : List ℕ) × (rest : List ℕ) × IsStart l × (drop k f ≡ l ++ 13 ∷ 10 ∷ rest)
