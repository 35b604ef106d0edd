-- Bytes that are whole already: the line before a CRLF, words between single separators, and the number that a word writes.
use Rattle.std.specs.Prelude.{ℕ, ◌+◌, ◌-◌, ◌*◌, Bool, true, false, ◌&&◌, List, [], ◌∷◌, eqb, leb, length}
use Rattle.std.proofs.Math.Option.{Option, none, some}
use Rattle.lists.specs.Lists.{all}
use Rattle.octets.specs.Octets.{is_digit}

-- the byte b stands at the front
abbrev pub starts : ℕ → List ℕ → Bool
starts b [] = false
starts b (x ∷ s) = eqb x b

-- CRLF stands at the front
abbrev pub is_crlf : List ℕ → Bool
is_crlf [] = false
is_crlf (x ∷ s) = eqb x 13 && starts 10 s

abbrev pub behind : ℕ → Option (List ℕ) → Option (List ℕ)
behind x none = none
behind x (some l) = some (x ∷ l)

-- what stands before the first CRLF, where there is one
abbrev pub line : List ℕ → Option (List ℕ)
line [] = none
line (x ∷ s) = elim (is_crlf (x ∷ s)) [ true ↦ some [] | false ↦ behind x (line s) ]

abbrev pub onto : ℕ → List (List ℕ) → List (List ℕ)
onto x [] = (x ∷ []) ∷ []
onto x (w ∷ ws) = (x ∷ w) ∷ ws

-- the words that single separators b part; two in a row have an empty word between them
abbrev pub words : ℕ → List ℕ → List (List ℕ)
words b [] = [] ∷ []
words b (x ∷ s) = elim (eqb x b) [ true ↦ [] ∷ words b s | false ↦ onto x (words b s) ]

-- the number that v and the digits after it write
abbrev pub decimal : ℕ → List ℕ → ℕ
decimal v [] = v
decimal v (x ∷ w) = decimal (v * 10 + (x - 48)) w

abbrev pub number_of : List ℕ → ℕ
number_of w = decimal 0 w

-- 1 to `max` digits and nothing else
abbrev pub is_number : ℕ → List ℕ → Bool
is_number max w = leb 1 (length w) && leb (length w) max && all is_digit w

-- a request-id: 1 to 10 digits within range (document 01, "Start lines")
abbrev pub is_request_id : List ℕ → Bool
is_request_id w = is_number 10 w && leb (number_of w) 4294967295
