-- What a start line gives: its name lies inside the line, and its numbers are in range.
-- Assumes nothing.
use mathlib.Core.Path.{◌≡◌, refl}
use mathlib.Core.Bool.{Bool, true, false, ◌&&◌}
use mathlib.Core.Option.{Option, none, some}
use mathlib.Core.List.{List, [], ◌∷◌}
use Prim.Native.Nat.{ℕ, ◌+◌, ◌≤◌, ◌<◌}
use native.Mathlib.Omega.{arith}
use lib.Dec.{eqb, leb}
use lib.ListN.{length, drop, length-drop}
use borrow.Author.Tests.{leb-true, eqb-true}
use Rattle.lists.specs.Lists.{all}
use Rattle.octets.specs.Octets.{is_digit}
use Rattle.readers.specs.Words.{line, words, number_of, is_number, is_request_id}
use Rattle.lists.proofs.Tests.{both}
use Rattle.readers.proofs.Decimals.{number_below}
use Rattle.readers.proofs.Cuts.{Cut, line_cut, line_length, first_of, words_first}
use Rattle.message.specs.Message.{Start, request, response, event, InRange}
use Rattle.message.specs.StartLines.{is_method_name, is_status, state_of, two_words, three_words, start_of}
use Rattle.message.specs.StartLines.{Started, started, going_on, line_start, start_line}
use Rattle.message.specs.declared.Span.{Span}
use Rattle.message.specs.declared.RequestState.{RequestState}

id_below : (w : List ℕ) → is_request_id w ≡ true → number_of w < 4294967296
id_below w e = omega (arith, leb-true (number_of w) 4294967295 (both (is_number 10 w) (leb (number_of w) 4294967295) e).1)

status_below : (w : List ℕ) → is_status w ≡ true → number_of w < 1000
status_below w e =
    let (n, d) = both (eqb (length w) 3) (all is_digit w) e in
    rw (eqb-true (length w) 3 n) at (number_below w d)

-- the name lies between two places
abbrev pub Named : ℕ → Start Span → ℕ → Type 0
Named k (request p i) e = (k ≤ p.start) × (p.start + p.len ≤ e)
Named k (response i c r) e = Unit {0}
Named k (event p i r) e = (k ≤ p.start) × (p.start + p.len ≤ e)

module _ (k e : ℕ) where
  abbrev Found : Option (Start Span) → Type 0
  Found none = Unit {0}
  Found (some st) = Named k st e × InRange st

  two_words_lem : (a b : List ℕ) → k + length a ≤ e → Found (two_words k a b)
  two_words_lem a b h = go (is_method_name a && is_request_id b) refl
    where
      go : (t : Bool) → (is_method_name a && is_request_id b) ≡ t → Found (two_words k a b)
      go true c = rw (c, two_words) ((omega arith), id_below b (both (is_method_name a) (is_request_id b) c).1)
      go false c = rw (c, two_words) tt

  three_words_lem : (a b : List ℕ) (state : Option RequestState) → k + length a ≤ e → Found (three_words k a b state)
  three_words_lem a b none h = tt
  three_words_lem a b (some r) h = go (is_request_id a && is_status b) (is_method_name a && is_request_id b) refl refl
    where
      go : (t u : Bool) → (is_request_id a && is_status b) ≡ t → (is_method_name a && is_request_id b) ≡ u → Found (three_words k a b (some r))
      go true u c d = rw (c, three_words) (tt, (let (i, s) = both (is_request_id a) (is_status b) c in (id_below a i, status_below b s)))
      go false true c d = rw (c, d, three_words) ((omega arith), id_below b (both (is_method_name a) (is_request_id b) d).1)
      go false false c d = rw (c, d, three_words) tt

  start_of_lem : (ws : List (List ℕ)) → k + first_of ws ≤ e → Found (start_of k ws)
  start_of_lem [] h = tt
  start_of_lem (a ∷ []) h = tt
  start_of_lem (a ∷ b ∷ []) h = two_words_lem a b h
  start_of_lem (a ∷ b ∷ c ∷ []) h = three_words_lem a b (state_of c) h
  start_of_lem (a ∷ b ∷ c ∷ d ∷ ws) h = tt

-- from k on in n bytes
abbrev pub Begun : ℕ → ℕ → Started → Type 0
Begun k n Started.malformed = Unit {0}
Begun k n (started st at) = Named k st at × InRange st × (at ≤ n)

going_on_lem : (k n at : ℕ) (r : Option (Start Span)) → Found k at r → at ≤ n → Begun k n (going_on r at)
going_on_lem k n at none h l = tt
going_on_lem k n at (some st) h l = (h.0, h.1, l)

line_start_lem : (k : ℕ) (f : List ℕ) (r : Option (List ℕ)) → Cut (drop k f) r → Begun k (length f) (line_start k r)
line_start_lem k f none h = tt
line_start_lem k f (some l) h =
    going_on_lem k (length f) (k + length l + 2) (start_of k (words 32 l))
    (start_of_lem k (k + length l + 2) (words 32 l) (omega (arith, words_first 32 l)))
    (omega (arith, line_length (drop k f) l h, length-drop k f))

pub start_line_lem : (k : ℕ) (f : List ℕ) → Begun k (length f) (start_line k f)
unfolding start_line
start_line_lem k f = line_start_lem k f (line (drop k f)) (line_cut (drop k f))
