-- A written start line reads as its start.
use Prim.Native.Nat.{ℕ, ◌+◌, ◌<◌}
use native.Mathlib.Omega.{arith}
use mathlib.Core.Path.{◌≡◌, refl}
use mathlib.Core.Bool.{Bool, true, false, ◌&&◌, and-false}
use mathlib.Core.Option.{some}
use mathlib.Core.List.{List, [], ◌∷◌, ◌++◌}
use lib.Dec.{leb}
use lib.ListN.{length, drop}
use borrow.Author.Tests.{leb-true, lt-leb}
use Rattle.lists.specs.Lists.{all}
use Rattle.octets.specs.Octets.{is_digit, is_capital}
use Rattle.readers.specs.Words.{is_request_id}
use Rattle.lists.proofs.Tests.{both}
use Rattle.readers.proofs.Words.{line_of}
use Rattle.writers.specs.Decimal.{digits, three_digits}
use Rattle.writers.proofs.Digits.{digits_all, digits_number, id_written, three_all, three_number, three_length}
use Rattle.message.specs.Message.{Start, request, response, event}
use Rattle.message.specs.StartLines.{is_method_name, is_status, state_text, two_words, three_words, start_of, started, start_line}
use Rattle.message.proofs.Worded.{Word, word, is_naming, name_word, state_word, state_back, Says, last, ◌before◌}
use Rattle.answer.specs.Written.{start_text}
use Rattle.answer.specs.Writable.{StartFits}
use Rattle.answer.proofs.Places.{start_places, request_text, response_text, event_text}

digits_word : (n : ℕ) → Word (digits n)
digits_word n = word is_digit (digits n) refl refl (digits_all n)

status_written : (n : ℕ) → n < 1000 → is_status (three_digits n) ≡ true
status_written n h = rw (three_length n) (three_all n h)

-- a name begins with a capital, so it is no request-id
no_id : (w : List ℕ) → is_method_name w ≡ true → is_request_id w ≡ false
no_id [] h = refl
no_id (x ∷ w) h =
    let few : Bool = leb (length (x ∷ w)) 32 in
    let c : is_capital x ≡ true = (both (is_capital x) few (both (is_capital x && few) (all is_naming (x ∷ w)) h).0).0 in
    let d : leb x 57 ≡ false = lt-leb x 57 (omega (arith, leb-true 65 x (both (leb 65 x) (leb x 90) c).0)) in
    rw (d, and-false, and-false)

-- the words of a start
abbrev start_words : Start (List ℕ) → List (List ℕ)
start_words (request name id) = name ∷ digits id ∷ []
start_words (response id status state) = digits id ∷ three_digits status ∷ state_text state ∷ []
start_words (event name id state) = name ∷ digits id ∷ state_text state ∷ []

text_says : (t : Start (List ℕ)) → StartFits t → Says (start_text t) (start_words t)
text_says (request name id) h = rw (request_text name id) (name_word name h.0 before last (digits_word id))
text_says (response id status state) h =
    rw (response_text id status state)
    (digits_word id before word is_digit (three_digits status) refl refl (three_all status h.1) before last (state_word state))
text_says (event name id state) h = rw (event_text name id state) (name_word name h.0 before digits_word id before last (state_word state))

start_of_lem : (at : ℕ) (t : Start (List ℕ)) → StartFits t → start_of at (start_words t) ≡ some (start_places at t)
start_of_lem at (request name id) h = rw (h.0, id_written id h.1, digits_number id, start_of, two_words)
start_of_lem at (response id status state) h =
    rw (
      state_back state,
      id_written id h.0,
      status_written status h.1,
      digits_number id,
      three_number status h.1,
      start_of,
      three_words,
    )
start_of_lem at (event name id state) h = rw (state_back state, no_id name h.0, h.0, id_written id h.1, digits_number id, start_of, three_words)

pub start_read : (s : List ℕ) (at : ℕ) (t : Start (List ℕ)) (v : List ℕ) → StartFits t → drop at s ≡ start_text t ++ 13 ∷ 10 ∷ v
    → start_line at s ≡ started (start_places at t) (at + length (start_text t) + 2)
unfolding start_line
start_read s at t v h e =
    let m = text_says t h in
    rw (e, line_of (start_text t) v m.one_line_lem) (rw (m.parted, start_of_lem at t h))
