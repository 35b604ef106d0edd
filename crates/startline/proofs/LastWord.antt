-- The last word of a start line is a state where the state's text and CRLF stand there.
-- Assumes nothing.
use mathlib.Core.Path.{◌≡◌, refl, sym, ap, ◌∙◌}
use mathlib.Core.Bool.{Bool, true, false, ◌&&◌, and-true, and-false, false≢true}
use mathlib.Core.Option.{none}
use mathlib.Core.List.{List, [], ◌∷◌, ◌++◌}
use Prim.Native.Nat.{ℕ, ◌+◌}
use native.Mathlib.Omega.{arith}
use lib.Dec.{eqb}
use lib.ListN.{length, take, drop}
use borrow.Author.Tests.{ne_eqb}
use Rattle.lists.specs.Lists.{all, run, same}
use Rattle.lists.proofs.Tests.{both, refuted}
use Rattle.lists.proofs.Scans.{run_length, same_so}
use Rattle.readers.specs.Words.{starts, is_crlf}
use Rattle.message.specs.Message.{Start}
use Rattle.message.specs.StartLines.{state_text, state_of, Started, started, going_on}
use Rattle.message.specs.declared.Span.{Span}
use Rattle.message.specs.declared.RequestState.{RequestState}
use Rattle.message.specs.declared.RequestState.TheVariants.{Pending, InProgress, Complete}
use Rattle.startwords.specs.Runs.{is_naming, begins, last_of, last_at}
use Rattle.startline.specs.Rules.{said, told, made, last_word}
use Rattle.std.specs.Prelude as P
use Rattle.startwords.specs.declared.Last.{Last}
use Rattle.readers.proofs.Positions.{apart}
use Rattle.startline.proofs.Said.{ended, told_same, told_nothing}
use Rattle.startline.proofs.Judged.{run_told}

-- the start that a state makes, where it is found
abbrev pub last_by : (RequestState → Start Span) → P.Option Last → Started
last_by start P.None = Started.malformed
last_by start (P.Some last) = started (start last.state) last.next

-- ---- a text and CRLF, by the run of name bytes

crlf_begins : (l : List ℕ) → begins (13 ∷ 10 ∷ []) l ≡ is_crlf l
crlf_begins [] = refl
crlf_begins (x ∷ []) = refl
crlf_begins (x ∷ y ∷ l) = rw (and-true (eqb y 10))

and_assoc : (a b c : Bool) → a && (b && c) ≡ (a && b) && c
and_assoc true b c = refl
and_assoc false b c = refl

text_run : (t : List ℕ) → all is_naming t ≡ true → (l : List ℕ)
    → begins (t ++ 13 ∷ 10 ∷ []) l ≡ same (take (run is_naming l) l) t && is_crlf (drop (run is_naming l) l)
text_run [] a [] = refl
text_run [] a (x ∷ l) = go (is_naming x) refl
  where
    go : (b : Bool) → is_naming x ≡ b → begins (13 ∷ 10 ∷ []) (x ∷ l) ≡ same (take (run is_naming (x ∷ l)) (x ∷ l)) [] && is_crlf (drop (run is_naming (x ∷ l)) (x ∷ l))
    go true e = rw (e, run, apart is_naming 13 x refl e)
    go false e = rw (e, run) (crlf_begins (x ∷ l))
text_run (b ∷ t) a [] = refl
text_run (b ∷ t) a (x ∷ l) = let h = both (is_naming b) (all is_naming t) a in go h.0 (text_run t h.1 l) (is_naming x) refl
  where
    go : is_naming b ≡ true → begins (t ++ 13 ∷ 10 ∷ []) l ≡ same (take (run is_naming l) l) t && is_crlf (drop (run is_naming l) l) → (p : Bool) → is_naming x ≡ p
        → begins ((b ∷ t) ++ 13 ∷ 10 ∷ []) (x ∷ l) ≡ same (take (run is_naming (x ∷ l)) (x ∷ l)) (b ∷ t) && is_crlf (drop (run is_naming (x ∷ l)) (x ∷ l))
    go n ih true e = rw (e, run) (ap (λ c. eqb x b && c) ih ∙ and_assoc (eqb x b) (same (take (run is_naming l) l) t) (is_crlf (drop (run is_naming l) l)))
    go n ih false e = rw (e, run, ne_eqb x b (λ q. false≢true (sym e ∙ ap is_naming q ∙ n)))

-- ---- the state

naming : (state : RequestState) → all is_naming (state_text state) ≡ true
naming Pending = refl
naming InProgress = refl
naming Complete = refl

no_state : (u : List ℕ) → (all is_naming u ≡ true → ⊥) → state_of u ≡ none
no_state u h = rw (differs Pending, differs InProgress, differs Complete, state_of)
  where
    differs : (state : RequestState) → same u (state_text state) ≡ false
    differs state = refuted (same u (state_text state)) (λ e. h (ap (all is_naming) (same_so u (state_text state) e) ∙ naming state))

last_run : (at : ℕ) (l : List ℕ)
    → let w = take (run is_naming l) l in let b = is_crlf (drop (run is_naming l) l) in
    last_at at l ≡ last_of at (same w (state_text Pending) && b) (same w (state_text InProgress) && b) (same w (state_text Complete) && b)
unfolding last_at
last_run at l =
    λ i. last_of at (text_run (state_text Pending) refl l i) (text_run (state_text InProgress) refl l i) (text_run (state_text Complete) refl l i)

module _ (start : RequestState → Start Span) (at : ℕ) where
  only_names : (u : List ℕ) → (all is_naming u ≡ true → ⊥) → (ws : List (List ℕ)) → last_word start (u ∷ ws) ≡ none
  only_names u h [] = ap (made start) (no_state u h)
  only_names u h (v ∷ ws) = refl

  -- nothing may stand behind it but CRLF
  last_ended : (w r : List ℕ) (e : ℕ) (b : Bool) → is_crlf r ≡ b
      → ended (λ ws. last_word start (w ∷ ws)) e r ≡ elim b [ true ↦ going_on (made start (state_of w)) (e + 2) | false ↦ Started.malformed ]
  last_ended w r e true h = rw (h, ended)
  last_ended w r e false h = rw (h, ended) (go (starts 32 r))
    where
      go : (s : Bool) → elim s [ true ↦ told (λ ws. last_word start (w ∷ ws)) (e + 1) (said (drop 1 r)) | false ↦ Started.malformed ] ≡ Started.malformed
      go true = told_same (λ ws. last_word start (w ∷ ws)) (λ ws. none) (e + 1) (λ v ws. refl) (drop 1 r) ∙ told_nothing (e + 1) (said (drop 1 r))
      go false = refl

  module _ (w : List ℕ) where
    found : (p q c : Bool) → same w (state_text Pending) ≡ p → same w (state_text InProgress) ≡ q → same w (state_text Complete) ≡ c
        → going_on (made start (state_of w)) (at + length w + 2) ≡ last_by start (last_of at p q c)
    found true q c e f g = let n : at + 7 + 2 ≡ at + 9 = omega arith in rw (same_so w (state_text Pending) e) (ap (started (start Pending)) n)
    found false true c e f g = let n : at + 11 + 2 ≡ at + 13 = omega arith in rw (same_so w (state_text InProgress) f) (ap (started (start InProgress)) n)
    found false false true e f g = let n : at + 8 + 2 ≡ at + 10 = omega arith in rw (same_so w (state_text Complete) g) (ap (started (start Complete)) n)
    found false false false e f g = rw (e, f, g, state_of)

    -- with CRLF behind it or without
    decided : (b : Bool)
        → ◌≡◌ {A = Started} (elim b [ true ↦ going_on (made start (state_of w)) (at + length w + 2) | false ↦ Started.malformed ])
        (last_by start (last_of at (same w (state_text Pending) && b) (same w (state_text InProgress) && b) (same w (state_text Complete) && b)))
    decided true =
        rw (and-true, and-true, and-true)
        (found (same w (state_text Pending)) (same w (state_text InProgress)) (same w (state_text Complete)) refl refl refl)
    decided false = rw (and-false, and-false, and-false)

  pub last_told : (l : List ℕ) → told (last_word start) at (said l) ≡ last_by start (last_at at l)
  last_told l =
      let n : ℕ = run is_naming l in
      let r : List ℕ = drop n l in
      run_told (last_word start) at l only_names ∙ last_ended (take n l) r (at + n) (is_crlf r) refl
      ∙ ap {B = Started} (λ k. elim (is_crlf r) [ true ↦ going_on (made start (state_of (take n l))) (at + k + 2) | false ↦ Started.malformed ]) (sym (run_length is_naming l))
      ∙ decided (take n l) (is_crlf r)
      ∙ ap (last_by start) (sym (last_run at l))
