-- Refusal 5 against the start line as a grammar: it is given exactly where there is a frame in which no start line
-- stands behind the opening, and the stated length is consumed. Assumes nothing.
use Prim.Native.Nat.{ℕ, ◌+◌}
use mathlib.Core.Path.{◌≡◌, refl, sym, ap, subst, ◌∙◌}
use mathlib.Core.Bool.{Bool, true, false, ◌&&◌}
use mathlib.Core.Logic.{◌↔◌}
use mathlib.Core.Option.{Option, none, some}
use mathlib.Core.List.{List, [], ◌∷◌, ◌++◌}
use native.Mathlib.Omega.{arith}
use lib.ListN.{length, take, drop}
use Rattle.lists.specs.Lists.{same}
use Rattle.lists.proofs.Tests.{both, choose}
use Rattle.lists.proofs.Scans.{same_so}
use Rattle.readers.specs.Words.{line, words, number_of, is_request_id}
use Rattle.readers.proofs.Cuts.{Cut, line_cut}
use Rattle.readers.proofs.Words.{lacks, line_of}
use Rattle.std.specs.Prelude.{Ok, Err}
use Rattle.framing.specs.Framing.{Framing, Frame, framing}
use Rattle.framing.specs.declared.NoFrame.TheVariants.{More, NoMessage, TooLong, TooShort}
use Rattle.message.specs.Message.{Start, request, response, event, refused}
use Rattle.message.specs.StartLines.{is_method_name, is_status, state_text, state_of, two_words, three_words, start_of}
use Rattle.message.specs.StartLines.{Started, started, going_on, line_start, start_line}
use Rattle.message.specs.StartGrammar.{spaced, IsStart, asks, answers, tells, Starts}
use Rattle.message.specs.Reading.{read_from, read_framed, reading}
use Rattle.message.specs.declared.Span.{Span}
use Rattle.message.specs.declared.RequestState.{RequestState}
use Rattle.message.specs.declared.RequestState.TheVariants.{Pending, InProgress, Complete}
use Rattle.message.proofs.Worded.{name_word, id_word, status_word, state_word, state_back, Says, last, ◌before◌}
use Rattle.message.proofs.Joined.{join, words_joined}

-- what is read of a line of the grammar
record Reads (k : ℕ) (l : List ℕ) : Type 0 where
  one_line_lem : lacks 13 l ≡ true
  start : Start Span
  read : start_of k (words 32 l) ≡ some start

module _ (k : ℕ) where
  says_reads : (l : List ℕ) (ws : List (List ℕ)) (st : Start Span) → Says l ws → start_of k ws ≡ some st → Reads k l
  says_reads l ws st m e = record { one_line_lem = m.one_line_lem; start = st; read = ap (start_of k) m.parted ∙ e }

  -- a name and a request-id before a state are an event, unless they are a response's too
  event_read : (name id : List ℕ) (state : RequestState) → is_method_name name ≡ true → is_request_id id ≡ true
      → (b : Bool) → (is_request_id name && is_status id) ≡ b
      → (st : Start Span) × (three_words k name id (some state) ≡ some st)
  event_read name id state n i true e = (response (number_of name) (number_of id) state, rw (e, three_words))
  event_read name id state n i false e =
      (event (record { start = k; len = length name }) (number_of id) state, rw (e, n, i, three_words))

  start_reads : (l : List ℕ) → IsStart l → Reads k l
  start_reads _ (asks name id n i) =
      says_reads _ _ (request (record { start = k; len = length name }) (number_of id))
      (name_word name n before last (id_word id i)) (rw (n, i, two_words))
  start_reads _ (answers id status state i c) =
      says_reads _ _ (response (number_of id) (number_of status) state)
      (id_word id i before status_word status c before last (state_word state))
      (rw (state_back state, i, c, three_words))
  start_reads _ (tells name id state n i) =
      let (st, e) = event_read name id state n i (is_request_id name && is_status id) refl in
      says_reads _ _ st (name_word name n before id_word id i before last (state_word state))
      (ap (three_words k name id) (state_back state) ∙ e)

  starts_read : (f : List ℕ) → Starts k f → start_line k f ≡ Started.malformed → ⊥
  unfolding start_line
  starts_read f (l, rest, is, e) m =
      let r = start_reads l is in
      let g : start_line k f ≡ started r.start (k + length l + 2) =
      ap (λ x. line_start k (line x)) e ∙ ap (line_start k) (line_of l rest r.one_line_lem)
      ∙ ap (λ x. going_on x (k + length l + 2)) r.read in
      let d : ◌≡◌ {A = ℕ} 0 1 = cc in omega arith

-- the state that a word is
state_so : (w : List ℕ) (state : RequestState) → state_of w ≡ some state → w ≡ state_text state
state_so w state e =
    go (same w (state_text Pending)) (same w (state_text InProgress)) (same w (state_text Complete)) refl refl refl
  where
    is : (x : RequestState) → same w (state_text x) ≡ true → state_of w ≡ some x → w ≡ state_text state
    is x s h = same_so w (state_text x) s ∙ ap text_or (sym h ∙ e)
      where
        text_or : Option RequestState → List ℕ
        text_or none = []
        text_or (some y) = state_text y

    go : (p q r : Bool) → same w (state_text Pending) ≡ p → same w (state_text InProgress) ≡ q
        → same w (state_text Complete) ≡ r → w ≡ state_text state
    go true q r a b c = is Pending a (rw (a, state_of))
    go false true r a b c = is InProgress b (rw (a, b, state_of))
    go false false true a b c = is Complete c (rw (a, b, c, state_of))
    go false false false a b c =
        let h : state_of w ≡ none = rw (a, b, c, state_of) in
        let d : ◌≡◌ {A = ℕ} 0 1 = cc in absurd (omega arith)

-- words that are read are a line of the grammar
module _ (k : ℕ) where
  abbrev Found : List ℕ → Option (Start Span) → Type 0
  Found l none = Unit {0}
  Found l (some st) = IsStart l

  two_found : (a b : List ℕ) → Found (spaced a b) (two_words k a b)
  two_found a b = choose (Found (spaced a b)) (is_method_name a && is_request_id b)
      (λ e. let h = both (is_method_name a) (is_request_id b) e in asks a b h.0 h.1) (λ _. tt)

  three_found : (a b c : List ℕ) (o : Option RequestState) → state_of c ≡ o
      → Found (spaced a (spaced b c)) (three_words k a b o)
  three_found a b c none e = tt
  three_found a b c (some state) e =
      rw (state_so c state e)
      (choose (Found l) (is_request_id a && is_status b)
      (λ e. let h = both (is_request_id a) (is_status b) e in answers a b state h.0 h.1)
      (λ _. choose (Found l) (is_method_name a && is_request_id b)
      (λ e. let h = both (is_method_name a) (is_request_id b) e in tells a b state h.0 h.1) (λ _. tt)))
    where
      l : List ℕ
      l = spaced a (spaced b (state_text state))

  words_found : (ws : List (List ℕ)) → Found (join 32 ws) (start_of k ws)
  words_found [] = tt
  words_found (a ∷ []) = tt
  words_found (a ∷ b ∷ []) = two_found a b
  words_found (a ∷ b ∷ c ∷ []) = three_found a b c (state_of c) refl
  words_found (a ∷ b ∷ c ∷ d ∷ ws) = tt

  -- a start that is read stands there
  read_starts : (f : List ℕ) → (Starts k f → ⊥) → start_line k f ≡ Started.malformed
  unfolding start_line
  read_starts f never = by_line_lem (line (drop k f)) (line_cut (drop k f))
    where
      by_start : (l rest : List ℕ) → drop k f ≡ l ++ 13 ∷ 10 ∷ rest → (o : Option (Start Span)) → Found l o
          → going_on o (k + length l + 2) ≡ Started.malformed
      by_start l rest e none h = refl
      by_start l rest e (some st) h = absurd (never (l, rest, h, e))

      by_line_lem : (o : Option (List ℕ)) → Cut (drop k f) o → line_start k o ≡ Started.malformed
      by_line_lem none c = refl
      by_line_lem (some l) (rest, e) =
          by_start l rest e (start_of k (words 32 l))
          (subst (λ (m : List ℕ). Found m (start_of k (words 32 l))) (words_joined 32 l) (words_found (words 32 l)))

  -- a start line is malformed exactly where none of the grammar stands
  pub malformed : (f : List ℕ) → (start_line k f ≡ Started.malformed) ↔ (Starts k f → ⊥)
  malformed f = ((λ e s. starts_read k f s e), read_starts f)

-- a frame of n bytes with no start line behind its opening
abbrev pub Unstarted : List ℕ → ℕ → Type 0
Unstarted s n = (a : ℕ) × (b : ℕ) × (k : ℕ) × (framing s ≡ Frame a b k n) × (Starts k (take n s) → ⊥)

module _ (s : List ℕ) (n : ℕ) where
  by_start : (a b k m : ℕ) → framing s ≡ Frame a b k m → (y : Started) → start_line k (take m s) ≡ y
      → read_from (record { stated = m; major = a; minor = b }) (take m s) y ≡ refused 5 n → Unstarted s n
  by_start a b k m f Started.malformed g e =
      let same : m ≡ n = cc in
      let never : Starts k (take m s) → ⊥ = (malformed k (take m s)).0 g in
      (a, b, k, f ∙ ap (Frame a b k) same, subst (λ (m : ℕ). Starts k (take m s) → ⊥) same never)
  by_start a b k m f (started st at) g e = let d : ◌≡◌ {A = ℕ} 0 1 = cc in absurd (omega arith)

  means : (x : Framing) → framing s ≡ x → read_framed s x ≡ refused 5 n → Unstarted s n
  means (Err More) f e = let d : ◌≡◌ {A = ℕ} 1 5 = cc in absurd (omega arith)
  means (Err NoMessage) f e = let d : ◌≡◌ {A = ℕ} 2 5 = cc in absurd (omega arith)
  means (Err TooLong) f e = let d : ◌≡◌ {A = ℕ} 3 5 = cc in absurd (omega arith)
  means (Err TooShort) f e = let d : ◌≡◌ {A = ℕ} 4 5 = cc in absurd (omega arith)
  means (Ok x) f e = by_start x.major x.minor x.opening x.length f (start_line x.opening (take x.length s)) refl e

  given : Unstarted s n → read_framed s (framing s) ≡ refused 5 n
  given (a, b, k, f, never) =
      ap (read_framed s) f
      ∙ ap (read_from (record { stated = n; major = a; minor = b }) (take n s)) ((malformed k (take n s)).1 never)

  -- 5 exactly there, and the stated length is consumed
  pub five : (reading s ≡ refused 5 n) ↔ Unstarted s n
  unfolding reading
  five = ((λ e. means (framing s) refl e), given)
