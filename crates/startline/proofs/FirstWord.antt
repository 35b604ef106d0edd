-- A response begins with a request-id, a request and an event with a name, and no word is both.
-- Assumes nothing.
use mathlib.Core.Path.{◌≡◌, refl, ap, ◌∙◌}
use mathlib.Core.Bool.{Bool, true, false, ◌&&◌, and-false}
use mathlib.Core.Option.{Option, none, some}
use mathlib.Core.List.{List, [], ◌∷◌}
use Prim.Native.Nat.{ℕ}
use native.Mathlib.Omega.{arith}
use lib.Dec.{leb}
use lib.ListN.{length, drop}
use borrow.Author.Tests.{lt-leb}
use Rattle.octets.specs.Octets.{is_digit}
use Rattle.readers.specs.Words.{number_of, is_request_id}
use Rattle.readers.proofs.Decimals.{digit_bounds}
use Rattle.message.specs.Message.{Start, response, event}
use Rattle.message.specs.StartLines.{is_method_name, is_status, state_of, two_words, three_words, start_of, Started, start_line}
use Rattle.message.specs.declared.Span.{Span}
use Rattle.message.specs.declared.RequestState.{RequestState}
use Rattle.startline.specs.Rules.{said, told, made, from_id, from_name}
use Rattle.startline.proofs.Said.{start_told, told_first}

-- nothing, whatever is chosen
neither : {A : Type 0} (b : Bool) → ◌≡◌ {A = Option A} none (elim b [ true ↦ none | false ↦ none ])
neither true = refl
neither false = refl

never : {A : Type 0} (b c : Bool) → ◌≡◌ {A = Option A} none (elim b [ true ↦ elim c [ true ↦ none | false ↦ none ] | false ↦ none ])
never true c = neither c
never false c = refl

-- two tests at once are one after the other
nested : {A : Type 0} (b c : Bool) (m : Option A)
    → ◌≡◌ {A = Option A} (elim (b && c) [ true ↦ m | false ↦ none ]) (elim b [ true ↦ elim c [ true ↦ m | false ↦ none ] | false ↦ none ])
nested true c m = refl
nested false c m = refl

start_id : (at : ℕ) (a : List ℕ) → is_method_name a ≡ false → (ws : List (List ℕ)) → start_of at (a ∷ ws) ≡ from_id (a ∷ ws)
start_id at a e [] = neither (is_request_id a)
start_id at a e (b ∷ []) = rw (e, start_of, two_words) (never (is_request_id a) (is_status b))
start_id at a e (b ∷ c ∷ []) = go (state_of c)
  where
    go : (m : Option RequestState) → three_words at a b m
        ≡ elim (is_request_id a) [ true ↦ elim (is_status b) [ true ↦ made (response (number_of a) (number_of b)) m | false ↦ none ] | false ↦ none ]
    go none = never (is_request_id a) (is_status b)
    go (some state) =
        ap {B = Option (Start Span)}
        (λ named. elim (is_request_id a && is_status b) [
          | true ↦ some (response (number_of a) (number_of b) state)
          | false ↦ elim (named && is_request_id b) [ true ↦ some (event (record { start = at; len = length a }) (number_of b) state) | false ↦ none ]
        ])
        e
        ∙ nested (is_request_id a) (is_status b) (some (response (number_of a) (number_of b) state))
start_id at a e (b ∷ c ∷ d ∷ ws) = never (is_request_id a) (is_status b)

start_name : (at : ℕ) (a : List ℕ) → is_request_id a ≡ false → (ws : List (List ℕ)) → start_of at (a ∷ ws) ≡ from_name at (a ∷ ws)
start_name at a e [] = neither (is_method_name a)
start_name at a e (b ∷ []) = nested (is_method_name a) (is_request_id b) _
start_name at a e (b ∷ c ∷ []) = go (state_of c)
  where
    name : Span
    name = record { start = at; len = length a }

    go : (m : Option RequestState) → three_words at a b m
        ≡ elim (is_method_name a) [ true ↦ elim (is_request_id b) [ true ↦ made (event name (number_of b)) m | false ↦ none ] | false ↦ none ]
    go none = never (is_method_name a) (is_request_id b)
    go (some state) = rw (e, three_words) (nested (is_method_name a) (is_request_id b) (some (event name (number_of b) state)))
start_name at a e (b ∷ c ∷ d ∷ ws) = never (is_method_name a) (is_request_id b)

no_name : (x : ℕ) (v : List ℕ) → is_digit x ≡ true → is_method_name (x ∷ v) ≡ false
no_name x v e =
    let n : leb 65 x ≡ false = lt-leb 65 x (omega (arith, digit_bounds x e)) in
    rw n

no_id : (x : ℕ) (v : List ℕ) → is_digit x ≡ false → is_request_id (x ∷ v) ≡ false
no_id x v e = rw (e, and-false)

-- which of the two a line is, by its first byte
module _ (k : ℕ) (f : List ℕ) (x : ℕ) (l : List ℕ) (h : drop k f ≡ x ∷ l) where
  pub start_response : is_digit x ≡ true → start_line k f ≡ told from_id k (said (drop k f))
  start_response e =
      start_told k f ∙ rw h (told_first (start_of k) from_id k x l (start_id k [] refl) (λ v. start_id k (x ∷ v) (no_name x v e)))

  pub start_named : is_digit x ≡ false → start_line k f ≡ told (from_name k) k (said (drop k f))
  start_named e =
      start_told k f ∙ rw h (told_first (start_of k) (from_name k) k x l (start_name k [] refl) (λ v. start_name k (x ∷ v) (no_id x v e)))

pub start_none : (k : ℕ) (f : List ℕ) → drop k f ≡ [] → start_line k f ≡ Started.malformed
unfolding start_line
start_none k f h = rw h
