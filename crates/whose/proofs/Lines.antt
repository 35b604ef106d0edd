-- The first CRLF in a part of the bytes, and how long a start line is.
-- Assumes nothing.
use Prim.Native.Nat.{ℕ, zero, suc, ◌+◌, ◌-◌, ◌≤◌}
use mathlib.Core.Path.{◌≡◌, refl, sym, ap, ◌∙◌}
use mathlib.Core.Bool.{Bool, true, false, ◌&&◌, ◌||◌, and-false}
use mathlib.Core.Option.{Option, none, some}
use mathlib.Core.List.{List, [], ◌∷◌, ◌++◌}
use native.Mathlib.Omega.{arith}
use lib.Dec.{eqb, leb}
use lib.ListN.{length, take, drop}
use lib.Seq.{take-nil}
use borrow.Author.Tests.{leb-true, eqb-true}
use Rattle.lists.specs.Lists.{all, same}
use Rattle.lists.proofs.Tests.{both}
use Rattle.lists.proofs.Scans.{same_so}
use Rattle.octets.specs.Octets.{bytes, is_digit, is_capital}
use Rattle.readers.specs.Words.{is_crlf, behind, line, onto, words, is_number, is_request_id, number_of}
use Rattle.readers.proofs.Cuts.{line_end, line_on}
use Rattle.message.specs.Message.{Start}
use Rattle.message.specs.StartLines.{starts_capital, is_method_name, is_status, state_of, two_words, three_words, start_of}
use Rattle.message.specs.declared.Span.{Span}
use Rattle.message.specs.declared.RequestState.{RequestState}

none_some : {A C : Type 0} {x : A} → none ≡ some x → C
none_some e = let d : ◌≡◌ {A = ℕ} 0 1 = cc in absurd (omega arith)

behind_some : (x : ℕ) (r : Option (List ℕ)) (l : List ℕ) → behind x r ≡ some l
    → (m : List ℕ) × (r ≡ some m) × (l ≡ x ∷ m)
behind_some x none l e = none_some e
behind_some x (some m) l e = (m, refl, (let q : x ∷ m ≡ l = cc in sym q))

module _ (x : ℕ) (u w l : List ℕ) (alike : is_crlf (x ∷ u) ≡ is_crlf (x ∷ w))
    (ih : (m : List ℕ) → line u ≡ some m → suc (length m) ≡ length l → line w ≡ some m) where
  -- one byte further on: the same line, where both begin with CRLF or neither does
  line_step : (b : Bool) → is_crlf (x ∷ u) ≡ b → line (x ∷ u) ≡ some l → line (x ∷ w) ≡ some l
  line_step true b e = line_end x w (sym alike ∙ b) ∙ sym (line_end x u b) ∙ e
  line_step false b e =
      let (m, p, q) = behind_some x (line u) l (sym (line_on x u b) ∙ e) in
      line_on x w (sym alike ∙ b) ∙ ap (behind x) (ih m p (ap length (sym q))) ∙ ap some (sym q)

-- more bytes behind: the first CRLF stays the first
pub line_more : (u v l : List ℕ) → line u ≡ some l → line (u ++ v) ≡ some l
line_more [] v l e = none_some e
line_more (x ∷ []) v l e = none_some (sym (line_on x [] (and-false (eqb x 13))) ∙ e)
line_more (x ∷ y ∷ u) v l e =
    line_step x (y ∷ u) ((y ∷ u) ++ v) l refl (λ m p _. line_more (y ∷ u) v m p) (is_crlf (x ∷ y ∷ u)) refl e

-- fewer bytes, which hold the line and its CRLF
pub line_fewer : (n : ℕ) (s l : List ℕ) → line s ≡ some l → length l + 2 ≤ n → line (take n s) ≡ some l
line_fewer zero s l e h = absurd (omega arith)
line_fewer (suc zero) s l e h = absurd (omega arith)
line_fewer (suc (suc n)) [] l e h = none_some e
line_fewer (suc (suc n)) (x ∷ []) l e h = none_some (sym (line_on x [] (and-false (eqb x 13))) ∙ e)
line_fewer (suc (suc n)) (x ∷ y ∷ s) l e h =
    line_step x (y ∷ s) (y ∷ take n s) l refl (λ m p q. line_fewer (suc n) (y ∷ s) m p (omega arith))
    (is_crlf (x ∷ y ∷ s)) refl e

-- the words of a line, and the single spaces between them, are the line
abbrev total : List (List ℕ) → ℕ
total [] = 0
total (w ∷ ws) = suc (length w) + total ws

words_total : (s : List ℕ) → total (words 32 s) ≡ suc (length s)
words_total [] = refl
words_total (x ∷ s) = go (eqb x 32) refl (words_total s)
  where
    onto_total : (ws : List (List ℕ)) → 1 ≤ total ws → total (onto x ws) ≡ suc (total ws)
    onto_total [] h = absurd (omega arith)
    onto_total (w ∷ ws) h = omega arith

    go : (c : Bool) → eqb x 32 ≡ c → total (words 32 s) ≡ suc (length s)
        → total (words 32 (x ∷ s)) ≡ suc (suc (length s))
    go true c ih = rw (c, words) (omega arith)
    go false c ih = rw (c, words) (onto_total (words 32 s) (omega arith) ∙ ap suc ih)

-- each word of a start line is short
id_short : (w : List ℕ) → is_request_id w ≡ true → length w ≤ 10
id_short w e =
    let n = (both (is_number 10 w) (leb (number_of w) 4294967295) e).0 in
    let m = (both (leb 1 (length w) && leb (length w) 10) (all is_digit w) n).0 in
    leb-true (length w) 10 (both (leb 1 (length w)) (leb (length w) 10) m).1

name_short : (w : List ℕ) → is_method_name w ≡ true → length w ≤ 32
name_short w e =
    let m = (both (starts_capital w && leb (length w) 32) (all (λ x. is_capital x || eqb x 45) w) e).0 in
    leb-true (length w) 32 (both (starts_capital w) (leb (length w) 32) m).1

status_short : (w : List ℕ) → is_status w ≡ true → length w ≡ 3
status_short w e = eqb-true (length w) 3 (both (eqb (length w) 3) (all is_digit w) e).0

state_short : (w : List ℕ) (r : RequestState) → state_of w ≡ some r → length w ≤ 11
state_short w r e =
    go (same w (bytes "PENDING")) (same w (bytes "IN-PROGRESS")) (same w (bytes "COMPLETE")) refl refl refl
  where
    go : (a b c : Bool) → same w (bytes "PENDING") ≡ a → same w (bytes "IN-PROGRESS") ≡ b
        → same w (bytes "COMPLETE") ≡ c → length w ≤ 11
    go true b c p q r = rw (same_so w (bytes "PENDING") p) (omega arith)
    go false true c p q r = rw (same_so w (bytes "IN-PROGRESS") q) (omega arith)
    go false false true p q r = rw (same_so w (bytes "COMPLETE") r) (omega arith)
    go false false false p q r = none_some (rw (p, q, r, state_of) at e)

module _ (k : ℕ) (st : Start Span) where
  two_short : (a b : List ℕ) → two_words k a b ≡ some st → length a + length b ≤ 42
  two_short a b e = go (is_method_name a && is_request_id b) refl
    where
      go : (t : Bool) → is_method_name a && is_request_id b ≡ t → length a + length b ≤ 42
      go true t = let (x, y) = both (is_method_name a) (is_request_id b) t in omega (arith, name_short a x, id_short b y)
      go false t = none_some (rw (t, two_words) at e)

  three_short : (a b : List ℕ) (r : Option RequestState) → three_words k a b r ≡ some st → length a + length b ≤ 42
  three_short a b none e = none_some e
  three_short a b (some r) e = go (is_request_id a && is_status b) (is_method_name a && is_request_id b) refl refl
    where
      go : (t u : Bool) → is_request_id a && is_status b ≡ t → is_method_name a && is_request_id b ≡ u
          → length a + length b ≤ 42
      go true u t v = let (x, y) = both (is_request_id a) (is_status b) t in omega (arith, id_short a x, status_short b y)
      go false true t v =
          let (x, y) = both (is_method_name a) (is_request_id b) v in omega (arith, name_short a x, id_short b y)
      go false false t v = none_some (rw (t, v, three_words) at e)

  state_there : (a b : List ℕ) (r : Option RequestState) → three_words k a b r ≡ some st
      → (q : RequestState) × (r ≡ some q)
  state_there a b none e = none_some e
  state_there a b (some q) e = (q, refl)

  words_short : (ws : List (List ℕ)) → start_of k ws ≡ some st → total ws ≤ 56
  words_short [] e = none_some e
  words_short (a ∷ []) e = none_some e
  words_short (a ∷ b ∷ []) e = omega (arith, two_short a b e)
  words_short (a ∷ b ∷ c ∷ []) e =
      let (q, p) = state_there a b (state_of c) e in
      omega (arith, three_short a b (state_of c) e, state_short c q p)
  words_short (a ∷ b ∷ c ∷ d ∷ ws) e = none_some e

  -- a start line that is well formed: an event with the longest name, the longest id and IN-PROGRESS has 55 bytes
  pub start_short : (l : List ℕ) → start_of k (words 32 l) ≡ some st → length l ≤ 55
  start_short l e = omega (arith, words_short (words 32 l) e, words_total l)

pub drop_take : (k m : ℕ) (s : List ℕ) → drop k (take m s) ≡ take (m - k) (drop k s)
drop_take zero m s = ap (λ n. take n s) {x = m} {y = m - 0} (omega arith)
drop_take (suc k) zero s = ap (λ n. take n (drop (suc k) s)) {x = 0} {y = 0 - suc k} (omega arith)
drop_take (suc k) (suc m) [] = sym (take-nil (suc m - suc k))
drop_take (suc k) (suc m) (x ∷ s) =
    drop_take k m s ∙ ap (λ n. take n (drop k s)) {x = m - k} {y = suc m - suc k} (omega arith)
