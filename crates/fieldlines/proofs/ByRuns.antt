-- A field that is cut at its end and split at its first colon is what reading it by runs finds: a name, a colon, value
-- bytes and folds, CRLF.
-- Assumes nothing.
use mathlib.Core.Path.{◌≡◌, refl, sym, ap, ◌∙◌}
use mathlib.Core.Bool.{Bool, true, false, ◌&&◌, not, and-false}
use mathlib.Core.Option.{Option, none, some}
use mathlib.Core.List.{List, [], ◌∷◌}
use Prim.Native.Nat.{ℕ, suc, ◌+◌}
use native.Mathlib.Nat.{add-zero, zero-add, add-suc, suc-add}
use native.Mathlib.Numerals.{add-one}
use native.Mathlib.Omega.{arith}
use lib.Dec.{eqb, leb, ltb, leb-zero, leb-suc-suc}
use lib.ListN.{length, drop, take}
use lib.Seq.{length-take-le}
use borrow.Author.Tests.{eqb-true}
use Rattle.lists.specs.Lists.{all, run}
use Rattle.lists.proofs.Tests.{both}
use Rattle.octets.specs.Octets.{is_name}
use Rattle.readers.specs.Words.{starts, is_crlf, behind}
use Rattle.readers.proofs.Positions.{apart, run_yes, run_no, crlf_in}
use Rattle.message.specs.Message.{Field}
use Rattle.message.specs.Folds.{is_fold, raw}
use Rattle.message.specs.Fields.{trimmed, Line, empty, field, is_plain, raw_at, field_line}
use Rattle.message.specs.declared.Span.{Span}
use Rattle.message.proofs.Folds.{raw_end, raw_on}
use Rattle.fieldlines.specs.Steps.{ends_at, value_run}
use Rattle.fieldlines.proofs.Folding.{not_crlf, no_end, sound, whole, valid, valid_cut}

-- the field with a name of k bytes at `at` and the text v after its colon
abbrev pub places : ℕ → ℕ → List ℕ → Field Span
places at k v = record { name = record { start = at; len = k }; value = trimmed (at + k + 1) v }

-- a field by runs, from its end to its front
abbrev pub ended : ℕ → ℕ → ℕ → List ℕ → Line
ended at k m v = elim (ends_at (drop m v)) [
  | true ↦ field (places at k (take m v)) (at + k + 1 + m + 2)
  | false ↦ Line.malformed
]

abbrev pub valued : ℕ → ℕ → List ℕ → Line
valued at k v = ended at k (value_run v) v

-- the name's length, whether a colon stands at its end, and what stands after that
abbrev pub named : ℕ → ℕ → Bool → List ℕ → Line
named at k t v = elim (leb 1 k && leb k 64 && t) [ true ↦ valued at k v | false ↦ Line.malformed ]

-- what is left of a field past a name of k bytes and its colon, at the cut c
abbrev closed : ℕ → ℕ → Option (List ℕ) → Line
closed at k none = Line.malformed
closed at k (some w) = field (places at k w) (at + k + 1 + length w + 2)

value_cut : (at k : ℕ) (l : List ℕ) → closed at k (valid (raw l)) ≡ valued at k l
value_cut at k l = ap (closed at k) (valid_cut l) ∙ go (ends_at (drop m l)) refl
  where
    m : ℕ
    m = value_run l

    next : ℕ → Line
    next n = field (places at k (take m l)) (at + k + 1 + n + 2)

    go : (b : Bool) → ends_at (drop m l) ≡ b
        → closed at k (whole b (take m l)) ≡ elim b [ true ↦ next m | false ↦ Line.malformed ]
    go true e =
        let there = crlf_in l m (both (is_crlf (drop m l)) (not (is_fold (drop m l))) e).0 in
        ap next (length-take-le m l (omega arith))
    go false e = refl

-- a field's parts: whether it has a colon, the name's length, whether its bytes are name bytes, the value, and where
-- the next one starts
abbrev parts : ℕ → Bool → ℕ → Bool → List ℕ → ℕ → Line
parts at t k n v e = elim (t && leb 1 k && leb k 64 && n && sound v) [
  | true ↦ field (places at k v) e
  | false ↦ Line.malformed
]

parts_by : (at : ℕ) (v : List ℕ) {t t' : Bool} {k k' : ℕ} {n n' : Bool} {e e' : ℕ}
    → t ≡ t' → k ≡ k' → n ≡ n' → e ≡ e' → parts at t k n v e ≡ parts at t' k' n' v e'
parts_by at v {t} {t'} {k} {k'} {n} {n'} {e} {e'} p q r s =
    ap (λ t. parts at t k n v e) p ∙ ap (λ k. parts at t' k n v e) q ∙ ap (λ n. parts at t' k' n v e) r
    ∙ ap (parts at t' k' n' v) s

-- a field w in front of which k name bytes stand, split j bytes on
abbrev split_at : ℕ → ℕ → ℕ → List ℕ → Line
split_at at k j w =
    parts at (ltb j (length w)) (k + j) (all is_name (take j w)) (drop (suc j) w) (at + k + length w + 2)

abbrev cut_at : ℕ → ℕ → Option (List ℕ) → Line
cut_at at k none = Line.malformed
cut_at at k (some w) = split_at at k (run is_plain w) w

cut_start : (at : ℕ) (c : Option (List ℕ)) → raw_at at c ≡ cut_at at 0 c
cut_start at none = refl
cut_start at (some w) =
    let j = run is_plain w in
    parts_by at (drop (suc j) w) {t = ltb j (length w)} {n = all is_name (take j w)} refl (sym (zero-add j)) refl
    (ap (λ n. n + length w + 2) (sym (add-zero at)))

plain : (x : ℕ) → is_name x ≡ true → is_plain x ≡ true
plain x e = ap not (apart is_name 58 x refl e)

cut_name : (at k x : ℕ) → is_name x ≡ true → (c : Option (List ℕ)) → cut_at at k (behind x c) ≡ cut_at at (suc k) c
cut_name at k x e none = refl
cut_name at k x e (some w) =
    let j = run is_plain w in
    let f : k + suc j ≡ suc k + j = omega arith in
    let g : at + k + length (x ∷ w) + 2 ≡ at + suc k + length w + 2 = omega arith in
    ap (λ j. split_at at k j (x ∷ w)) (run_yes is_plain x w (plain x e))
    ∙ parts_by at (drop (suc j) w) (leb-suc-suc (suc j) (length w)) f (ap (λ b. b && all is_name (take j w)) e) g

-- a byte that is neither name byte nor colon spoils the field
cut_other : (at k x : ℕ) → is_name x ≡ false → eqb x 58 ≡ false → (c : Option (List ℕ))
    → cut_at at k (behind x c) ≡ Line.malformed
cut_other at k x e h none = refl
cut_other at k x e h (some w) =
    let j = run is_plain w in
    let v = drop (suc j) w in
    let next = at + k + length (x ∷ w) + 2 in
    let t = ltb (suc j) (length (x ∷ w)) in
    ap (λ j. split_at at k j (x ∷ w)) (run_yes is_plain x w (ap not h))
    ∙ ap (λ b. parts at t (k + suc j) (b && all is_name (take j w)) v next) e
    ∙ ap {B = Line} (λ b. elim (b && sound v) [ true ↦ field (places at (k + suc j) v) next | false ↦ Line.malformed ])
    (and-false (t && leb 1 (k + suc j) && leb (k + suc j) 64))

-- at a colon
cut_colon : (at k : ℕ) (x : ℕ) → eqb x 58 ≡ true → (l : List ℕ) → cut_at at k (behind x (raw l)) ≡ named at k true l
cut_colon at k x e l = go (raw l) ∙ ap long (value_cut at k l)
  where
    long : Line → Line
    long z = elim (leb 1 k && leb k 64 && true) [ true ↦ z | false ↦ Line.malformed ]

    bad : (b : Bool) → ◌≡◌ {A = Line} Line.malformed (elim b [ true ↦ Line.malformed | false ↦ Line.malformed ])
    bad true = refl
    bad false = refl

    cases : (a b : Bool) (w : List ℕ)
        → ◌≡◌ {A = Line} (elim (a && true && b) [ true ↦ closed at k (some w) | false ↦ Line.malformed ])
        (elim (a && true) [ true ↦ closed at k (whole b w) | false ↦ Line.malformed ])
    cases true true w = refl
    cases true false w = refl
    cases false b w = refl

    go : (c : Option (List ℕ)) → cut_at at k (behind x c) ≡ long (closed at k (valid c))
    go none = bad (leb 1 k && leb k 64 && true)
    go (some w) =
        let next : at + k + length (x ∷ w) + 2 ≡ at + k + 1 + length w + 2 = omega arith in
        ap (λ j. split_at at k j (x ∷ w)) (run_no is_plain x w (ap not e))
        ∙ parts_by at w {t' = true} {n = true} (leb-suc-suc 0 (length w) ∙ leb-zero (length w)) (add-zero k) refl next
        ∙ cases (leb 1 k && leb k 64) (sound w) w

-- where no colon follows the name
named_not : (at k : ℕ) (v : List ℕ) → named at k false v ≡ Line.malformed
named_not at k v =
    ap {B = Line} (λ b. elim b [ true ↦ valued at k v | false ↦ Line.malformed ]) (and-false (leb 1 k && leb k 64))

-- a field at whose front k name bytes stand, by a name of r bytes more
abbrev named_at : ℕ → ℕ → List ℕ → ℕ → Line
named_at at k l r = named at (k + r) (starts 58 (drop r l)) (drop (suc r) l)

same : (at : ℕ) (l : List ℕ) (k : ℕ) → cut_at at k (raw l) ≡ named_at at k l (run is_name l)
unfolding raw
same at [] k = sym (named_not at (k + 0) [])
same at (x ∷ l) k = go (same at l (suc k)) (is_name x) refl
  where
    -- no more name bytes
    other : is_name x ≡ false → (c t : Bool) → ends_at (x ∷ l) ≡ c → eqb x 58 ≡ t
        → cut_at at k (raw (x ∷ l)) ≡ named at k t l
    other n true t e h =
        let cr = eqb-true x 13 (both (eqb x 13) (starts 10 l) (both (is_crlf (x ∷ l)) (not (is_fold (x ∷ l))) e).0).0 in
        ap (cut_at at k) (raw_end x l e) ∙ sym (named_not at k l)
        ∙ ap (λ t. named at k t l) (sym (ap (λ x. eqb x 58) cr) ∙ h)
    other n false true e h = ap (cut_at at k) (raw_on x l e) ∙ cut_colon at k x h l
    other n false false e h = ap (cut_at at k) (raw_on x l e) ∙ cut_other at k x n h (raw l) ∙ sym (named_not at k l)

    go : cut_at at (suc k) (raw l) ≡ named_at at (suc k) l (run is_name l)
        → (b : Bool) → is_name x ≡ b → cut_at at k (raw (x ∷ l)) ≡ named_at at k (x ∷ l) (run is_name (x ∷ l))
    go ih true e =
        let r = run is_name l in
        ap (cut_at at k) (raw_on x l (no_end (x ∷ l) (not_crlf x l (apart is_name 13 x refl e))))
        ∙ cut_name at k x e (raw l) ∙ ih
        ∙ ap (λ n. named at n (starts 58 (drop r l)) (drop (suc r) l)) (suc-add k r ∙ sym (add-suc k r))
        ∙ ap (named_at at k (x ∷ l)) (sym (run_yes is_name x l e))
    go ih false e =
        other e (ends_at (x ∷ l)) (eqb x 58) refl refl
        ∙ ap (λ n. named at n (eqb x 58) l) (sym (add-zero k))
        ∙ ap (named_at at k (x ∷ l)) (sym (run_no is_name x l e))

-- a field by its definition is the field by runs
pub by_runs : (at : ℕ) (l : List ℕ) → is_crlf l ≡ false
    → field_line at l ≡ named at (run is_name l) (starts 58 (drop (run is_name l) l)) (drop (run is_name l + 1) l)
unfolding field_line
by_runs at l e =
    let r = run is_name l in
    ap {B = Line} (λ b. elim b [ true ↦ empty (at + 2) | false ↦ raw_at at (raw l) ]) e
    ∙ cut_start at (raw l) ∙ same at l 0
    ∙ ap (λ k. named at k (starts 58 (drop r l)) (drop (suc r) l)) (zero-add r)
    ∙ ap (λ k. named at r (starts 58 (drop r l)) (drop k l)) (sym (add-one r))
