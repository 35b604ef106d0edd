-- Each word of a start line, by the bytes that are found: what is left of the rule behind it, or no start line.
-- Assumes nothing.
use mathlib.Core.Path.{◌≡◌, refl, sym, ap, ◌∙◌}
use mathlib.Core.Bool.{Bool, true, false, ◌&&◌, ◌||◌, and-true, and-false}
use mathlib.Core.Option.{none}
use mathlib.Core.List.{List, [], ◌∷◌, ◌++◌}
use Prim.Native.Nat.{ℕ, suc, ◌+◌, ◌-◌, ◌<◌, ◌≤◌}
use native.Mathlib.Omega.{arith}
use lib.Dec.{eqb, leb, lit≤}
use lib.ListN.{length, take, drop, take-append-drop}
use lib.Seq.{drop-drop, drop-append_seam}
use borrow.Author.Tests.{eq-eqb, ne_eqb, eqb-true, leb-true, le-leb, lt-leb}
use Rattle.lists.specs.Lists.{all, run}
use Rattle.lists.proofs.Tests.{both, refuted}
use Rattle.lists.proofs.Scans.{run_all, run_length}
use Rattle.octets.specs.Octets.{is_digit, is_capital}
use Rattle.readers.specs.Words.{number_of, is_number, is_request_id, starts, is_crlf}
use Rattle.digits.specs.Steps.{digits_at}
use Rattle.digits.specs.declared.Digits.{Digits}
use Rattle.readers.proofs.Words.{number_fits}
use Rattle.message.specs.Message.{response}
use Rattle.message.specs.StartLines.{starts_capital, is_method_name, is_status, Started}
use Rattle.startwords.specs.Runs.{is_naming, id_of, id_at}
use Rattle.startline.specs.Rules.{Rule, said, told, word, last_word, from_status, behind_name, from_name}
use Rattle.std.specs.Prelude as P
use Rattle.digits.specs.declared.Numeral.{Numeral}
use Rattle.startline.proofs.Said.{Firm, ended, told_word, told_nothing}
use Rattle.startline.proofs.Fronts.{Front, front_all, front_few, front_firm, run_firm, Counted, counted}

ended_nothing : (e : ℕ) (r : List ℕ) → ended (λ ws. none) e r ≡ Started.malformed
ended_nothing e r = go (is_crlf r) (starts 32 r) refl refl
  where
    go : (b c : Bool) → is_crlf r ≡ b → starts 32 r ≡ c → ended (λ ws. none) e r ≡ Started.malformed
    go true c p q = rw (p, ended)
    go false true p q = rw (p, q, ended) (told_nothing (e + 1) (said (drop 1 r)))
    go false false p q = rw (p, q, ended)

-- ---- a word that passes a test

module _ (fits : List ℕ → Bool) (more : List ℕ → Rule) where
  word_no : (w : List ℕ) → fits w ≡ false → (ws : List (List ℕ)) → word fits more (w ∷ ws) ≡ none
  word_no w e ws = rw (e, word)

  -- what is left of the rule
  left : (w r : List ℕ) (e : ℕ) (b : Bool) → fits w ≡ b
      → ended (λ ws. word fits more (w ∷ ws)) e r ≡ elim b [ true ↦ ended (more w) e r | false ↦ Started.malformed ]
  left w r e true h = rw (h, word)
  left w r e false h = rw (h, word) (ended_nothing e r)

-- at most n digits, and a test that only such words pass
digits_told : (fits : List ℕ → Bool) (more : List ℕ → Rule) (n : ℕ) → ((w : List ℕ) → fits w ≡ true → (length w ≤ n) × (all is_digit w ≡ true))
    → (at : ℕ) (l : List ℕ) (c : Counted n l)
    → told (word fits more) at (said l) ≡ elim (fits c.word) [ true ↦ ended (more c.word) (at + length c.word) c.rest | false ↦ Started.malformed ]
digits_told fits more n few at l c =
    ap (λ l. told (word fits more) at (said l)) c.parted
    ∙ told_word is_digit refl refl (word fits more) at c.word (front_all c.front) c.rest (firm c.word c.rest c.front)
    ∙ left fits more c.word c.rest (at + length c.word) (fits c.word) refl
  where
    firm : (w r : List ℕ) → Front is_digit n w r → Firm (word fits more) w r
    firm w [] f = tt
    firm w (x ∷ r) f =
        λ v ws. word_no fits more (w ++ x ∷ v) (refuted (fits (w ++ x ∷ v)) (λ e. front_firm f v (few (w ++ x ∷ v) e).0 (few (w ++ x ∷ v) e).1)) ws

-- all the name bytes at the front, and a rule that only such words serve
pub run_told : (rule : Rule) (at : ℕ) (l : List ℕ) → ((u : List ℕ) → (all is_naming u ≡ true → ⊥) → (ws : List (List ℕ)) → rule (u ∷ ws) ≡ none)
    → told rule at (said l) ≡ ended (λ ws. rule (take (run is_naming l) l ∷ ws)) (at + run is_naming l) (drop (run is_naming l) l)
run_told rule at l only =
    ap (λ l. told rule at (said l)) (sym (take-append-drop n l)) ∙ told_word is_naming refl refl rule at (take n l) (run_all is_naming l) (drop n l) (firm (drop n l) refl)
    ∙ ap (λ k. ended (λ ws. rule (take n l ∷ ws)) (at + k) (drop n l)) (run_length is_naming l)
  where
    n : ℕ
    n = run is_naming l

    firm : (r : List ℕ) → drop n l ≡ r → Firm rule (take n l) r
    firm [] e = tt
    firm (x ∷ r) e = λ v. only (take n l ++ x ∷ v) (run_firm is_naming l x r v e)

-- what stands behind a word
at_rest : (s : List ℕ) (at : ℕ) (w r : List ℕ) → drop at s ≡ w ++ r → drop (at + length w) s ≡ r
at_rest s at w r e = sym (drop-drop (length w) at s) ∙ ap (drop (length w)) e ∙ drop-append_seam w r

-- ---- a request-id

-- what is left of a rule that a request-id's number gives, where the request-id is found
abbrev pub id_by : List ℕ → (ℕ → Rule) → P.Option Numeral → Started
id_by s rule P.None = Started.malformed
id_by s rule (P.Some id) = ended (rule id.value) id.next (drop id.next s)

id_few : (w : List ℕ) → is_request_id w ≡ true → (length w ≤ 10) × (all is_digit w ≡ true)
id_few w e =
    let n = (both (is_number 10 w) (leb (number_of w) 4294967295) e).0 in
    let (l, d) = both (leb 1 (length w) && leb (length w) 10) (all is_digit w) n in
    (leb-true (length w) 10 (both (leb 1 (length w)) (leb (length w) 10) l).1, d)

id_left : (s : List ℕ) (rule : ℕ → Rule) (at : ℕ) (w r : List ℕ) → drop at s ≡ w ++ r → Front is_digit 10 w r
    → ◌≡◌ {A = Started} (elim (is_request_id w) [ true ↦ ended (rule (number_of w)) (at + length w) r | false ↦ Started.malformed ])
    (id_by s rule (id_of at (record { value = number_of w; count = length w })))
id_left s rule at [] r e f = refl
id_left s rule at (x ∷ w) r e f =
    let a : is_number 10 (x ∷ w) ≡ true = number_fits 10 (x ∷ w) (omega arith) (front_few f) (front_all f) in
    let n : eqb (suc (length w)) 0 ≡ false = ne_eqb (suc (length w)) 0 (λ q. let z : suc (length w) ≡ 0 = q in omega arith) in
    rw (a, n, id_of) (go (leb (number_of (x ∷ w)) 4294967295))
  where
    end : ℕ
    end = at + suc (length w)

    go : (b : Bool)
        → ◌≡◌ {A = Started} (elim b [ true ↦ ended (rule (number_of (x ∷ w))) end r | false ↦ Started.malformed ])
        (id_by s rule (elim b [ true ↦ P.Some (record { value = number_of (x ∷ w); next = end }) | false ↦ P.None ]))
    go true = ap (ended (rule (number_of (x ∷ w))) end) (sym (at_rest s at (x ∷ w) r e))
    go false = refl

pub id_told : (s : List ℕ) (rule : ℕ → Rule) (at : ℕ)
    → told (word is_request_id (λ a. rule (number_of a))) at (said (drop at s)) ≡ id_by s rule (id_at at (drop at s))
unfolding id_at
id_told s rule at =
    let c = counted 10 (lit≤ tt) (drop at s) in
    digits_told is_request_id (λ a. rule (number_of a)) 10 id_few at (drop at s) c ∙ id_left s rule at c.word c.rest c.parted c.front
    ∙ ap (λ d. id_by s rule (id_of at d)) (sym c.read)

-- where the request-id is sought and found, or not
pub id_found : (s : List ℕ) (rule : ℕ → Rule) (at : ℕ) (id : P.Option Numeral) → id ≡ id_at at (drop at s)
    → told (word is_request_id (λ a. rule (number_of a))) at (said (drop at s)) ≡ id_by s rule id
id_found s rule at id e = id_told s rule at ∙ ap (id_by s rule) (sym e)

-- ---- a status

-- what is left behind digits, where they are three
abbrev status_by : List ℕ → ℕ → ℕ → Bool → Digits → Started
status_by s id at three d = elim three [ true ↦ ended (last_word (response id d.value)) (at + d.count) (drop (at + d.count) s) | false ↦ Started.malformed ]

status_few : (w : List ℕ) → is_status w ≡ true → (length w ≤ 3) × (all is_digit w ≡ true)
status_few w e =
    let (l, d) = both (eqb (length w) 3) (all is_digit w) e in
    (omega (arith, eqb-true (length w) 3 l), d)

status_told : (s : List ℕ) (id at : ℕ)
    → let d = digits_at 3 (drop at s) in
    told (from_status id) at (said (drop at s)) ≡ status_by s id at (eqb d.count 3) d
status_told s id at =
    let c = counted 3 (lit≤ tt) (drop at s) in
    digits_told is_status (λ b. last_word (response id (number_of b))) 3 status_few at (drop at s) c
    ∙ rw (front_all c.front, and-true (eqb (length c.word) 3)) (go c (eqb (length c.word) 3))
    ∙ ap (λ d. status_by s id at (eqb d.count 3) d) (sym c.read)
  where
    go : (c : Counted 3 (drop at s)) (b : Bool)
        → ◌≡◌ {A = Started} (elim b [ true ↦ ended (last_word (response id (number_of c.word))) (at + length c.word) c.rest | false ↦ Started.malformed ])
        (status_by s id at b (record { value = number_of c.word; count = length c.word }))
    go c true = ap (ended (last_word (response id (number_of c.word))) (at + length c.word)) (sym (at_rest s at c.word c.rest c.parted))
    go c false = refl

module _ (s : List ℕ) (id at : ℕ) (d : Digits) (found : d ≡ digits_at 3 (drop at s)) where
  status_found : told (from_status id) at (said (drop at s)) ≡ status_by s id at (eqb d.count 3) d
  status_found = status_told s id at ∙ ap (λ d. status_by s id at (eqb d.count 3) d) (sym found)

  pub status_wrong : (d.count ≡ 3 → ⊥) → told (from_status id) at (said (drop at s)) ≡ Started.malformed
  status_wrong h = status_found ∙ ap (λ b. status_by s id at b d) (ne_eqb d.count 3 h)

  pub status_left : d.count ≡ 3 → told (from_status id) at (said (drop at s)) ≡ ended (last_word (response id d.value)) (at + 3) (drop (at + 3) s)
  status_left h =
      status_found ∙ ap (λ b. status_by s id at b d) (eq-eqb d.count 3 h)
      ∙ ap (λ n. ended (last_word (response id d.value)) (at + n) (drop (at + n) s)) h

-- ---- a name

-- a method's or event's name of n bytes, where a capital stands at its front
abbrev name_by : List ℕ → ℕ → Bool → ℕ → Started
name_by s at capital n = elim (capital && leb n 32) [
  | true ↦ ended (behind_name (record { start = at; len = n })) (at + n) (drop (at + n) s)
  | false ↦ Started.malformed
]

capital_naming : (x : ℕ) → is_naming x ≡ false → is_capital x ≡ false
capital_naming x e = go (is_capital x) e
  where
    go : (b : Bool) → b || eqb x 45 ≡ false → b ≡ false
    go true h = h
    go false h = refl

starts_run : (l : List ℕ) → starts_capital (take (run is_naming l) l) ≡ starts_capital l
starts_run [] = refl
starts_run (x ∷ l) = go (is_naming x) refl
  where
    go : (b : Bool) → is_naming x ≡ b → starts_capital (take (run is_naming (x ∷ l)) (x ∷ l)) ≡ is_capital x
    go true e = rw (e, run)
    go false e = rw (e, run) (sym (capital_naming x e))

name_told : (s : List ℕ) (at : ℕ) → told (from_name at) at (said (drop at s)) ≡ name_by s at (starts_capital (drop at s)) (run is_naming (drop at s))
name_told s at =
    let l : List ℕ = drop at s in
    let n : ℕ = run is_naming l in
    let w : List ℕ = take n l in
    let more : List ℕ → Rule = λ a. behind_name (record { start = at; len = length a }) in
    let a : is_method_name w ≡ starts_capital l && leb n 32 = rw (run_all is_naming l, and-true, starts_run l, run_length is_naming l) in
    run_told (from_name at) at l
    (λ u h ws. word_no is_method_name more u (refuted (is_method_name u) (λ e. h (both (starts_capital u && leb (length u) 32) (all is_naming u) e).1)) ws)
    ∙ left is_method_name more w (drop n l) (at + n) (starts_capital l && leb n 32) a
    ∙ ap (λ k. out n k (drop n l)) (run_length is_naming l) ∙ ap (out n n) (drop-drop n at s)
  where
    out : ℕ → ℕ → List ℕ → Started
    out n k r = elim (starts_capital (drop at s) && leb n 32) [
      | true ↦ ended (behind_name (record { start = at; len = k })) (at + n) r
      | false ↦ Started.malformed
    ]

module _ (s : List ℕ) (at : ℕ) where
  pub name_wrong : starts_capital (drop at s) ≡ false → told (from_name at) at (said (drop at s)) ≡ Started.malformed
  name_wrong h = name_told s at ∙ rw (h, name_by)

  module _ (e : ℕ) (found : e ≡ at + run is_naming (drop at s)) where
    pub name_long : 32 < e - at → told (from_name at) at (said (drop at s)) ≡ Started.malformed
    name_long h = name_told s at ∙ rw (lt-leb (run is_naming (drop at s)) 32 (omega arith), and-false (starts_capital (drop at s)), name_by)

    pub name_left : starts_capital (drop at s) ≡ true → e - at ≤ 32
        → told (from_name at) at (said (drop at s)) ≡ ended (behind_name (record { start = at; len = e - at })) e (drop e s)
    name_left c h =
        let n : run is_naming (drop at s) ≡ e - at = omega arith in
        name_told s at ∙ rw (c, le-leb (run is_naming (drop at s)) 32 (omega arith), name_by)
        (ap (λ k. ended (behind_name (record { start = at; len = k })) (at + run is_naming (drop at s)) (drop (at + run is_naming (drop at s)) s)) n
        ∙ ap (λ k. ended (behind_name (record { start = at; len = e - at })) k (drop k s)) (sym found))
