-- How fields are gathered line by line: those found, in front of those that are left, are all of them.
-- Assumes nothing.
use mathlib.Core.Path.{◌≡◌, refl, sym, ap, ◌∙◌}
use mathlib.Core.Bool.{Bool, true, false, ◌&&◌}
use mathlib.Core.List.{List, [], ◌∷◌, ◌++◌, map, append-nil}
use Prim.Native.Nat.{ℕ, zero, suc, ◌-◌, ◌<◌}
use native.Mathlib.Nat.{not-suc-le-zero}
use native.Mathlib.Numerals.{sub-one}
use lib.ListN.{length, drop}
use Rattle.message.specs.Message as M
use Rattle.message.specs.Message.{Fields, bad, good, part, on_field}
use Rattle.message.specs.Fields.{Line, empty, field, Lines, lines, with, go_on, field_line, field_lines}
use Rattle.message.specs.Known.{known_of, is_known, among, once_each, value_of, as_joined}
use Rattle.message.specs.Reading.{agrees, judged}
use Rattle.message.specs.declared.Span.{Span}
use Rattle.message.specs.declared.Known.TheVariants.{ContentLength}
use Rattle.message.proofs.Theorems.JudgedAlike.{lengths_alike}
use Rattle.names.specs.Names.{names_in}
use Rattle.names.proofs.Marks.{twice_never}

-- fields in front of the lines that are left
abbrev pub front : List (M.Field Span) → Lines → Lines
front [] r = r
front (x ∷ fs) r = with x (front fs r)

front_malformed : (fs : List (M.Field Span)) → front fs Lines.malformed ≡ Lines.malformed
front_malformed [] = refl
front_malformed (x ∷ fs) = ap (with x) (front_malformed fs)

front_lines : (fs gs : List (M.Field Span)) (b : ℕ) → front fs (lines gs b) ≡ lines (fs ++ gs) b
front_lines [] gs b = refl
front_lines (x ∷ fs) gs b = ap (with x) (front_lines fs gs b)

front_last : (fs : List (M.Field Span)) (x : M.Field Span) (r : Lines) → front (fs ++ x ∷ []) r ≡ front fs (with x r)
front_last [] x r = refl
front_last (y ∷ fs) x r = ap (with y) (front_last fs x r)

-- the lines from i on, by what the line there is; fs came before them
module _ (s : List ℕ) (i : ℕ) where
  going : (n : ℕ) (l : Line) → field_line i (drop i s) ≡ l → (t : Lines) → ((more : ℕ → Lines) → go_on l more ≡ t)
      → field_lines n s i ≡ t
  going zero l q t f = ap (λ l. go_on l (λ _. Lines.malformed)) q ∙ f (λ _. Lines.malformed)
  going (suc n) l q t f = ap (λ l. go_on l (field_lines n s)) q ∙ f (field_lines n s)

  pub lines_malformed : (fs : List (M.Field Span)) (n : ℕ) → field_line i (drop i s) ≡ Line.malformed
      → front fs (field_lines n s i) ≡ Lines.malformed
  lines_malformed fs n q = ap (front fs) (going n Line.malformed q Lines.malformed (λ more. refl)) ∙ front_malformed fs

  pub lines_empty : (fs : List (M.Field Span)) (n b : ℕ) → field_line i (drop i s) ≡ empty b
      → front fs (field_lines n s i) ≡ lines fs b
  lines_empty fs n b q =
      ap (front fs) (going n (empty b) q (lines [] b) (λ more. refl)) ∙ front_lines fs [] b
      ∙ ap (λ t. lines t b) (append-nil fs)

  module _ (x : M.Field Span) (next : ℕ) (q : field_line i (drop i s) ≡ field x next) (fs : List (M.Field Span)) where
    pub lines_full : (n : ℕ) → n ≡ 0 → front fs (field_lines n s i) ≡ Lines.malformed
    lines_full n z =
        ap (λ n. front fs (field_lines n s i)) z ∙ ap (front fs) (ap (λ l. go_on l (λ _. Lines.malformed)) q)
        ∙ front_malformed fs

    pub lines_field : (n : ℕ) → 0 < n → front fs (field_lines n s i) ≡ front fs (with x (field_lines (n - 1) s next))
    lines_field zero l = absurd (not-suc-le-zero l)
    lines_field (suc n) l = rw sub-one (ap (front fs) (ap (λ l. go_on l (field_lines n s)) q))

    pub lines_more : (n : ℕ) → 0 < n → front fs (field_lines n s i) ≡ front (fs ++ x ∷ []) (field_lines (n - 1) s next)
    lines_more n l = lines_field n l ∙ sym (front_last fs x (field_lines (n - 1) s next))

-- the names of fields
module _ (f : List ℕ) where
  pub names_append : (fs : List (M.Field Span)) (x : M.Field Span) (gs : List (M.Field Span))
      → names_in f (fs ++ x ∷ gs) ≡ names_in f fs ++ known_of (part f x.name) ∷ names_in f gs
  names_append [] x gs = refl
  names_append (y ∷ fs) x gs = ap (λ t. known_of (part f y.name) ∷ t) (names_append fs x gs)

  pub names_length : (fs : List (M.Field Span)) → length (names_in f fs) ≡ length fs
  names_length [] = refl
  names_length (x ∷ fs) = ap suc (names_length fs)

-- the judgement of lines
module _ (params : Bool) (f : List ℕ) where
  -- a name that counts as known and came twice is bad, whatever the later lines are
  pub judged_twice : (fs : List (M.Field Span)) (x : M.Field Span)
      → (is_known params (known_of (part f x.name)) && among (known_of (part f x.name)) (names_in f fs)) ≡ true
      → (r : Lines) → judged params f (front fs (with x r)) ≡ bad
  judged_twice fs x h Lines.malformed = ap (judged params f) (front_malformed fs)
  judged_twice fs x h (lines gs b) =
      ap (judged params f) (front_lines fs (x ∷ gs) b)
      ∙ rw (names_append f fs x gs, twice_never params (known_of (part f x.name)) (names_in f gs) (names_in f fs) h, judged)

  module _ (fs : List (M.Field Span)) (b : ℕ) (o : once_each params (names_in f fs) ≡ true) where
    abbrev choice : Bool → Fields Span
    choice t = elim t [ true ↦ good fs (record { start = b; len = length f - b }) | false ↦ bad ]

    -- Content-Length is judged as joined, and the same as it stands
    pub judged_by_lem : (t : Bool) → agrees (value_of ContentLength (map (on_field (part f)) fs)) (length f - b) ≡ t
        → judged params f (lines fs b) ≡ choice t
    judged_by_lem t e =
        let given = value_of ContentLength (map (on_field (part f)) fs) in
        ap (λ z. choice (z && agrees (as_joined given) (length f - b))) o
        ∙ ap choice (lengths_alike given (length f - b) ∙ e)
