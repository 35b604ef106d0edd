-- Whatever document 01 read as fields is read as the same fields: K2 reads only what was malformed.
-- Assumes nothing.
use Prim.Native.Nat.{ℕ, zero, suc, ◌+◌, ◌-◌}
use mathlib.Core.Path.{◌≡◌, refl, sym, ap, ap₂, subst, ◌∙◌}
use mathlib.Core.Bool.{Bool, true, false, ◌&&◌, false≢true}
use mathlib.Core.Logic.{⊎_elim}
use mathlib.Core.Option.{Option, none, some}
use mathlib.Core.List.{List, [], ◌∷◌, ◌++◌, map}
use native.Mathlib.Omega.{arith}
use lib.Dec.{eqb, leb, ltb}
use lib.ListN.{length, take, drop}
use lib.Seq.{drop-drop, drop-append-add}
use borrow.Author.Tests.{eqb-true}
use Rattle.lists.specs.Lists.{all, run}
use Rattle.lists.proofs.Tests.{both, either, refuted}
use Rattle.octets.specs.Octets.{is_name, is_value, is_blank}
use Rattle.readers.specs.Words.{is_crlf, behind, line}
use Rattle.readers.proofs.Cuts.{Cut, line_on, line_cut}
use Rattle.message.specs.Message.{Field, Fields, bad, good, part, on_field}
use Rattle.message.specs.Folds.{starts_blank, joined}
use Rattle.message.specs.Fields.{trim_end, trimmed, Line, empty, field, is_plain, field_at, field_line}
use Rattle.message.specs.Fields.{Lines, lines, with, go_on, field_lines}
use Rattle.message.specs.Known.{once_each, names_of, value_of}
use Rattle.message.specs.Reading.{agrees, judged, fields_from}
use Rattle.message.specs.declared.Span.{Span}
use Rattle.message.specs.declared.Known.TheVariants.{ContentLength}
use Rattle.message.proofs.Folds.{field_alone, joined_plain}
use Rattle.message.proofs.Trimming.{trim_end_by, run_alike, end_alike}
use Rattle.message.proofs.Values.{trim_end_lem}
use Rattle.message.proofs.Theorems.JudgedAlike.{lengths_alike}

-- document 01: each line alone, and blanks off the ends of its value
abbrev pub trimmed_alone : ℕ → List ℕ → Span
trimmed_alone at v = record { start = at + run is_blank v; len = length (trim_end_by is_blank (drop (run is_blank v) v)) }

abbrev pub is_field_lem : ℕ → List ℕ → Bool
is_field_lem k l = ltb k (length l) && leb 1 k && leb k 64 && all is_name (take k l) && all is_value (drop (suc k) l)

abbrev pub field_of : ℕ → ℕ → Span → Field Span
field_of at k value = record { name = record { start = at; len = k }; value = value }

abbrev pub alone_at : ℕ → ℕ → List ℕ → Line
alone_at at k l = elim (is_field_lem k l) [
  | true ↦ field (field_of at k (trimmed_alone (at + k + 1) (drop (suc k) l))) (at + length l + 2)
  | false ↦ Line.malformed
]

abbrev pub line_at : ℕ → Option (List ℕ) → Line
line_at at none = Line.malformed
line_at at (some []) = empty (at + 2)
line_at at (some (x ∷ l)) = alone_at at (run is_plain (x ∷ l)) (x ∷ l)

unfoldable pub line_alone : ℕ → List ℕ → Line
line_alone at l = line_at at (line l)

abbrev pub lines_alone : ℕ → List ℕ → ℕ → Lines
lines_alone zero s at = go_on (line_alone at (drop at s)) (λ _. Lines.malformed)
lines_alone (suc n) s at = go_on (line_alone at (drop at s)) (lines_alone n s)

-- a value in one line has the same place
drop_all : (n : ℕ) (v : List ℕ) → all is_value v ≡ true → all is_value (drop n v) ≡ true
drop_all zero v h = h
drop_all (suc n) [] h = refl
drop_all (suc n) (x ∷ v) h = drop_all n v (both (is_value x) (all is_value v) h).1

trimmed_alike : (at : ℕ) (v : List ℕ) → all is_value v ≡ true → trimmed at v ≡ trimmed_alone at v
trimmed_alike at v h =
    ap₂ (λ n m. record { start = at + n; len = length m }) (run_alike v h)
    (ap (λ n. trim_end (drop n v)) (run_alike v h) ∙ trim_end_lem w ∙ end_alike w (drop_all (run is_blank v) v h))
  where
    w : List ℕ
    w = drop (run is_blank v) v

no_line : {C : Type 0} {f : Field Span} {next : ℕ} → Line.malformed ≡ field f next → C
no_line e = let d : ◌≡◌ {A = ℕ} 0 1 = cc in absurd (omega arith)

-- a field in one line is the same field
field_alike : (at k : ℕ) (l : List ℕ) (f : Field Span) (next : ℕ) → alone_at at k l ≡ field f next
    → field_at at k l ≡ field f next
field_alike at k l f next = go (is_field_lem k l) refl
  where
    v : List ℕ
    v = drop (suc k) l

    named : Bool
    named = ltb k (length l) && leb 1 k && leb k 64 && all is_name (take k l)

    go : (b : Bool) → is_field_lem k l ≡ b → alone_at at k l ≡ field f next → field_at at k l ≡ field f next
    go true b e =
        let h = (both named (all is_value v) b).1 in
        let c : named && all is_value (joined v) ≡ true = ap (λ u. named && all is_value u) (joined_plain v h) ∙ b in
        rw (c, field_at) (
        ap (λ p. field (field_of at k p) (at + length l + 2)) (trimmed_alike (at + k + 1) v h)
        ∙ rw (b, alone_at) at e)
    go false b e = no_line (rw (b, alone_at) at e)

-- a line that begins with a blank was malformed, and so was a block of lines from there on
of_blank : (P : ℕ → Type 0) → P 32 → P 9 → (x : ℕ) → is_blank x ≡ true → P x
of_blank P a b x e =
    ⊎_elim {C = P x} (λ h. subst P (sym (eqb-true x 32 h)) a) (λ h. subst P (sym (eqb-true x 9 h)) b)
    (either (eqb x 32) (eqb x 9) e)

no_name : (at k : ℕ) (l : List ℕ) → all is_name (take k l) ≡ false → alone_at at k l ≡ Line.malformed
no_name at k l n =
    let e = ap (λ c. front && c && all is_value (drop (suc k) l)) n ∙ none front (all is_value (drop (suc k) l)) in
    rw (e, alone_at)
  where
    front : Bool
    front = ltb k (length l) && leb 1 k && leb k 64

    none : (a b : Bool) → a && false && b ≡ false
    none true b = refl
    none false b = refl

blank_at : (at : ℕ) (x : ℕ) (r : Option (List ℕ)) → is_blank x ≡ true → line_at at (behind x r) ≡ Line.malformed
blank_at at x none b = refl
blank_at at x (some l) b =
    of_blank (λ x. line_at at (behind x (some l)) ≡ Line.malformed) (go 32 refl refl) (go 9 refl refl) x b
  where
    k : ℕ
    k = run is_plain l

    go : (x : ℕ) → is_name x ≡ false → is_plain x ≡ true → line_at at (some (x ∷ l)) ≡ Line.malformed
    go x n p =
        ap (λ n. alone_at at n (x ∷ l)) (ap (λ c. elim c [ true ↦ suc k | false ↦ 0 ]) p)
        ∙ no_name at (suc k) (x ∷ l) (ap (λ c. c && all is_name (take k l)) n)

blank_line : (at : ℕ) (t : List ℕ) → starts_blank t ≡ true → line_alone at t ≡ Line.malformed
unfolding line_alone
blank_line at [] b = absurd (false≢true b)
blank_line at (x ∷ t) b =
    ap (line_at at) (line_on x t (of_blank (λ x. is_crlf (x ∷ t) ≡ false) refl refl x b)) ∙ blank_at at x (line t) b

blank_lines : (n : ℕ) (s : List ℕ) (at : ℕ) → starts_blank (drop at s) ≡ true → lines_alone n s at ≡ Lines.malformed
blank_lines zero s at b = ap (λ l. go_on l (λ _. Lines.malformed)) (blank_line at (drop at s) b)
blank_lines (suc n) s at b = ap (λ l. go_on l (lines_alone n s)) (blank_line at (drop at s) b)

-- a line alone is the field or the empty line that it was, where no blank begins the next one
module _ (at k : ℕ) (l : List ℕ) where
  alone_next : (f : Field Span) (next : ℕ) → alone_at at k l ≡ field f next → next ≡ at + length l + 2
  alone_next f next = go (is_field_lem k l) refl
    where
      go : (b : Bool) → is_field_lem k l ≡ b
          → alone_at at k l ≡ field f next → next ≡ at + length l + 2
      go true b e = let h = rw (b, alone_at) at e in cc
      go false b e = no_line (rw (b, alone_at) at e)

  alone_some : {C : Type 0} (next : ℕ) → alone_at at k l ≡ empty next → C
  alone_some {C} next = go (is_field_lem k l) refl
    where
      go : (b : Bool) → is_field_lem k l ≡ b
          → alone_at at k l ≡ empty next → C
      go true b e = let h = rw (b, alone_at) at e in let d : ◌≡◌ {A = ℕ} 0 1 = cc in absurd (omega arith)
      go false b e = let h = rw (b, alone_at) at e in let d : ◌≡◌ {A = ℕ} 0 1 = cc in absurd (omega arith)

module _ (s : List ℕ) (at : ℕ) where
  abbrev Kept : Line → Type 0
  Kept Line.malformed = Unit {0}
  Kept (empty next) = field_line at (drop at s) ≡ empty next
  Kept (field f next) = starts_blank (drop next s) ≡ false → field_line at (drop at s) ≡ field f next

  kept_line : (r : Option (List ℕ)) → line (drop at s) ≡ r → Kept (line_at at r)
  unfolding field_line
  kept_line none e = tt
  kept_line (some []) e = let (rest, c) = subst (Cut (drop at s)) e (line_cut (drop at s)) in ap (field_line at) c
  kept_line (some (x ∷ l)) e = go (alone_at at (run is_plain (x ∷ l)) (x ∷ l)) refl
    where
      k : ℕ
      k = run is_plain (x ∷ l)

      behind_line : (rest : List ℕ) (next : ℕ) → drop at s ≡ x ∷ l ++ 13 ∷ 10 ∷ rest → next ≡ at + length (x ∷ l) + 2
          → drop next s ≡ rest
      behind_line rest next c n =
          let m : next ≡ at + (length (x ∷ l) + 2) = omega arith in
          ap (λ n. drop n s) m ∙ sym (drop-drop (length (x ∷ l) + 2) at s) ∙ ap (drop (length (x ∷ l) + 2)) c
          ∙ drop-append-add (x ∷ l) (13 ∷ 10 ∷ rest) 2

      go : (r : Line) → alone_at at k (x ∷ l) ≡ r → Kept r
      go Line.malformed q = tt
      go (empty next) q = alone_some at k (x ∷ l) next q
      go (field f next) q = λ b.
          let (rest, c) = subst (Cut (drop at s)) e (line_cut (drop at s)) in
          let past = behind_line rest next c (alone_next at k (x ∷ l) f next q) in
          ap (field_line at) c ∙ field_alone at x l rest (ap line (sym c) ∙ e) (ap starts_blank (sym past) ∙ b)
          ∙ field_alike at k (x ∷ l) f next q

no_lines : {C : Type 0} {fs : List (Field Span)} {b : ℕ} → Lines.malformed ≡ lines fs b → C
no_lines e = let d : ◌≡◌ {A = ℕ} 0 1 = cc in absurd (omega arith)

pub lines_as_before : (n : ℕ) (s : List ℕ) (at : ℕ) (fs : List (Field Span)) (b : ℕ) → lines_alone n s at ≡ lines fs b
    → field_lines n s at ≡ lines fs b
unfolding line_alone
lines_as_before zero s at fs b = go (line_alone at (drop at s)) (kept_line s at (line (drop at s)) refl)
  where
    go : (l : Line) → Kept s at l → go_on l (λ _. Lines.malformed) ≡ lines fs b → field_lines zero s at ≡ lines fs b
    go Line.malformed h e = no_lines e
    go (empty next) h e = ap (λ l. go_on l (λ _. Lines.malformed)) h ∙ e
    go (field f next) h e = no_lines e
lines_as_before (suc n) s at fs b =
    go (line_alone at (drop at s)) (kept_line s at (line (drop at s)) refl) (lines_as_before n s)
  where
    IH : Type 0
    IH = (at : ℕ) (fs : List (Field Span)) (b : ℕ) → lines_alone n s at ≡ lines fs b → field_lines n s at ≡ lines fs b

    on : (f : Field Span) (next : ℕ) → Kept s at (field f next) → IH → (r : Lines) → lines_alone n s next ≡ r
        → with f r ≡ lines fs b → field_lines (suc n) s at ≡ lines fs b
    on f next h ih Lines.malformed q e = no_lines e
    on f next h ih (lines gs c) q e =
        let plain : starts_blank (drop next s) ≡ false =
        refuted (starts_blank (drop next s)) (λ b. no_lines (sym (blank_lines n s next b) ∙ q)) in
        ap (λ l. go_on l (field_lines n s)) (h plain) ∙ ap (with f) (ih next gs c q) ∙ e

    go : (l : Line) → Kept s at l → IH → go_on l (lines_alone n s) ≡ lines fs b → field_lines (suc n) s at ≡ lines fs b
    go Line.malformed h ih e = no_lines e
    go (empty next) h ih e = ap (λ l. go_on l (field_lines n s)) h ∙ e
    go (field f next) h ih e = on f next h ih (lines_alone n s next) refl e

-- and judgement 2 of them, with a Content-Length as it came and the same names counted as known
abbrev pub judged_alone : Bool → List ℕ → Lines → Fields Span
judged_alone params f Lines.malformed = bad
judged_alone params f (lines fs b) =
    let texts : List (Field (List ℕ)) = map (on_field (part f)) fs in
    elim (once_each params (names_of texts) && agrees (value_of ContentLength texts) (length f - b)) [
      | true ↦ good fs (record { start = b; len = length f - b })
      | false ↦ bad
    ]

judged_before : (params : Bool) (f : List ℕ) (fs : List (Field Span)) (b : ℕ)
    → judged params f (lines fs b) ≡ judged_alone params f (lines fs b)
judged_before params f fs b =
    ap (passes (once_each params (names_of texts))) (lengths_alike (value_of ContentLength texts) (length f - b))
  where
    passes : Bool → Bool → Fields Span
    passes o c = elim (o && c) [ true ↦ good fs (record { start = b; len = length f - b }) | false ↦ bad ]

    texts : List (Field (List ℕ))
    texts = map (on_field (part f)) fs

pub fields_as_before : (params : Bool) (f : List ℕ) (at : ℕ) (fs : List (Field Span)) (body : Span)
    → judged_alone params f (lines_alone 32 f at) ≡ good fs body → fields_from params f at ≡ good fs body
unfolding fields_from
fields_as_before params f at fs body = go (lines_alone 32 f at) refl
  where
    go : (r : Lines) → lines_alone 32 f at ≡ r → judged_alone params f r ≡ good fs body → fields_from params f at ≡ good fs body
    go Lines.malformed q e = let d : ◌≡◌ {A = ℕ} 0 1 = cc in absurd (omega arith)
    go (lines gs b) q e = ap (judged params f) (lines_as_before 32 f at gs b q) ∙ judged_before params f gs b ∙ e
