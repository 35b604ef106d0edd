-- The numbers that are handed to C for a frame and for a message: document 01, last section. The layout is that of
-- include/klarvesimo.h.
use Rattle.std.specs.Prelude.{ℕ, true, false, List, [], ◌∷◌, ◌++◌, ltb, length, drop}
use Rattle.message.specs.Message.{Start, request, response, event, Fields, bad, good, Head}
use Rattle.message.specs.declared.Span.{Span}
use Rattle.message.specs.declared.RequestState.{RequestState}
use Rattle.message.specs.declared.RequestState.TheVariants.{Pending, InProgress, Complete}
use Rattle.names.specs.Names.{mask_with, names_in}
use Rattle.header.specs.Header.{field_numbers}

-- a call's number, and the numbers lent to it as it leaves them
pub record Face : Type 0 where
  pub number : ℕ
  pub out : List ℕ

-- 7 where the lent output is shorter than the answer, which else stands at its front
abbrev pub handed : List ℕ → List ℕ → Face
handed answer out = elim (ltb (length out) (length answer)) [
  | true ↦ record { number = 7; out = out }
  | false ↦ record { number = 0; out = answer ++ drop (length answer) out }
]

abbrev pub state_number : RequestState → ℕ
state_number Pending = 1
state_number InProgress = 2
state_number Complete = 3

-- kind, version, name, request-id, status, state
abbrev pub start_numbers : ℕ → ℕ → Start Span → List ℕ
start_numbers major minor (request name id) = 1 ∷ major ∷ minor ∷ name.start ∷ name.len ∷ id ∷ 0 ∷ 0 ∷ []
start_numbers major minor (response id status state) = 2 ∷ major ∷ minor ∷ 0 ∷ 0 ∷ id ∷ status ∷ state_number state ∷ []
start_numbers major minor
    (event name id state) = 3 ∷ major ∷ minor ∷ name.start ∷ name.len ∷ id ∷ 0 ∷ state_number state ∷ []

-- whether the fields are good, how many there are, the body, the mask of known names, three zeros; then the fields
abbrev pub fields_numbers : List ℕ → Fields Span → List ℕ
fields_numbers f bad = 0 ∷ 0 ∷ 0 ∷ 0 ∷ 0 ∷ 0 ∷ 0 ∷ 0 ∷ []
fields_numbers f (good fs body) = 1 ∷ length fs ∷ body.start ∷ body.len ∷ mask_with 0
    (names_in f fs) ∷ 0 ∷ 0 ∷ 0 ∷ field_numbers fs

abbrev pub message_numbers : List ℕ → Head → Start Span → Fields Span → List ℕ
message_numbers f h st fs = start_numbers h.major h.minor st ++ fields_numbers f fs
