-- Written field lines read as their fields, up to the empty line.
use Prim.Native.Nat.{ℕ, zero, suc, ◌+◌, ◌≤◌}
use native.Mathlib.Nat.{add-zero, add_assoc, le_of_suc-le-suc, not-suc-le-zero}
use native.Mathlib.Omega.{arith}
use mathlib.Core.Path.{◌≡◌, refl, sym, ap, ◌∙◌}
use mathlib.Core.Bool.{true, false, false≢true}
use mathlib.Core.Logic.{⊎_elim}
use mathlib.Core.Option.{some}
use mathlib.Core.List.{List, [], ◌∷◌, ◌++◌, append_assoc}
use lib.Dec.{eqb}
use lib.ListN.{length, drop, length-append}
use lib.Seq.{take-append_seam}
use borrow.Author.Tests.{lt-ltb, le-leb, eqb-true}
use Rattle.lists.specs.Lists.{all, run, All}
use Rattle.octets.specs.Octets.{is_name, is_value, is_blank}
use Rattle.readers.specs.Words.{line}
use Rattle.lists.proofs.Tests.{both, either, refuted}
use Rattle.lists.proofs.Scans.{run_to}
use Rattle.readers.proofs.Words.{lacks, lacks_append, lacks_of, line_of}
use Rattle.message.specs.Message.{Field}
use Rattle.message.specs.Folds.{starts_blank}
use Rattle.message.specs.Fields.{trim_end, trimmed, field, is_plain, field_at, field_line, lines, field_lines}
use Rattle.message.proofs.Folds.{field_alone, joined_plain}
use Rattle.message.proofs.Trimming.{run_alike}
use Rattle.answer.specs.Written.{field_text, fields_text}
use Rattle.answer.specs.Writable.{FieldFits}
use Rattle.answer.proofs.Places.{past, field_places, fields_places, field_text_lem, field_size}

drop_past : (l : List ℕ) (x : ℕ) (v : List ℕ) → drop (suc (length l)) (l ++ x ∷ v) ≡ v
drop_past [] x v = refl
drop_past (y ∷ l) x v = drop_past l x v

-- the value of a field has no blank to trim
untrimmed : (at : ℕ) (v : List ℕ) → all is_value v ≡ true → run is_blank v ≡ 0 → trim_end v ≡ v
    → trimmed at v ≡ record { start = at; len = length v }
untrimmed at v a e f = rw (run_alike v a ∙ e, add-zero) (rw f)

-- a line whose first bytes are w
line_at : (at : ℕ) (w l rest : List ℕ) → 1 ≤ length w → line (w ++ l ++ 13 ∷ 10 ∷ rest) ≡ some (w ++ l)
    → starts_blank rest ≡ false → field_line at (w ++ l ++ 13 ∷ 10 ∷ rest) ≡ field_at at (run is_plain (w ++ l)) (w ++ l)
line_at at [] l rest h e b = absurd (not-suc-le-zero h)
line_at at (x ∷ w) l rest h e b = field_alone at x (w ++ l) rest e b

module _ (at : ℕ) (f : Field (List ℕ)) (h : FieldFits f) where
  -- the line without its CRLF
  abbrev the_line : List ℕ
  the_line = f.name ++ 58 ∷ f.value

  line_length : length the_line ≡ length f.name + suc (length f.value)
  line_length = length-append f.name (58 ∷ f.value)

  one_line : lacks 13 the_line ≡ true
  one_line =
      lacks_append 13 f.name (58 ∷ f.value) (lacks_of is_name 13 f.name refl h.names) (lacks_of is_value 13 f.value refl h.values)

  is_field : field_at at (length f.name) the_line ≡ field (field_places at f) (at + length the_line + 2)
  is_field =
      rw (
        lt-ltb (length f.name) (length the_line) (omega (arith, line_length)),
        le-leb 1 (length f.name) h.some,
        le-leb (length f.name) 64 h.most,
        take-append_seam f.name (58 ∷ f.value),
        drop_past f.name 58 f.value,
        joined_plain f.value h.values,
        h.names,
        h.values,
        field_at,
      ) (rw (
        drop_past f.name 58 f.value,
        untrimmed (at + length f.name + 1) f.value h.values h.front h.end,
      ))

  field_line_lem : (v : List ℕ) → starts_blank v ≡ false
      → field_line at (field_text f ++ v) ≡ field (field_places at f) (at + length (field_text f))
  field_line_lem v b =
      ap (field_line at) (field_text_lem f v ∙ sym (append_assoc f.name (58 ∷ f.value) (13 ∷ 10 ∷ v)))
      ∙ line_at at f.name (58 ∷ f.value) v h.some (line_of the_line v one_line) b
      ∙ ap (λ k. field_at at k the_line) (run_to is_plain f.name 58 f.value (lacks_of is_name 58 f.name refl h.names) refl)
      ∙ is_field
      ∙ ap (field (field_places at f)) (omega (arith, line_length, field_size f))

-- no blank begins a field, or the empty line
name_first : (l v : List ℕ) → 1 ≤ length l → all is_name l ≡ true → starts_blank (l ++ v) ≡ false
name_first [] v h a = absurd (not-suc-le-zero h)
name_first (x ∷ l) v h a =
    let named = (both (is_name x) (all is_name l) a).0 in
    refuted (is_blank x) (λ b. ⊎_elim {C = ⊥} (λ e. false≢true (ap is_name (sym (eqb-true x 32 e)) ∙ named))
    (λ e. false≢true (ap is_name (sym (eqb-true x 9 e)) ∙ named)) (either (eqb x 32) (eqb x 9) b))

plain_next : (fs : List (Field (List ℕ))) (v : List ℕ) → All FieldFits fs
    → starts_blank (fields_text fs ++ 13 ∷ 10 ∷ v) ≡ false
unfolding fields_text
plain_next [] v h = refl
plain_next (f ∷ fs) v h =
    ap starts_blank (append_assoc (field_text f) (fields_text fs) (13 ∷ 10 ∷ v))
    ∙ ap starts_blank (field_text_lem f (fields_text fs ++ 13 ∷ 10 ∷ v))
    ∙ name_first f.name _ h.0.some h.0.names

pub fields_read : (n : ℕ) (s : List ℕ) (at : ℕ) (fs : List (Field (List ℕ))) (v : List ℕ) → length fs ≤ n → All FieldFits fs
    → drop at s ≡ fields_text fs ++ 13 ∷ 10 ∷ v → field_lines n s at ≡ lines (fields_places at fs) (at + length (fields_text fs) + 2)
unfolding fields_text field_line
fields_read zero s at [] v l h e = rw (e, add-zero)
fields_read (suc n) s at [] v l h e = rw (e, add-zero)
fields_read zero s at (f ∷ fs) v l h e = absurd (not-suc-le-zero l)
fields_read (suc n) s at (f ∷ fs) v l h e =
    let g : drop at s ≡ field_text f ++ (fields_text fs ++ 13 ∷ 10 ∷ v) = e ∙ append_assoc (field_text f) (fields_text fs) (13 ∷ 10 ∷ v) in
    let next : ℕ = at + length (field_text f) in
    let more = fields_read n s next fs v (le_of_suc-le-suc l) h.1 (past s at (field_text f) (fields_text fs ++ 13 ∷ 10 ∷ v) g) in
    rw (g, field_line_lem at f h.0 (fields_text fs ++ 13 ∷ 10 ∷ v) (plain_next fs v h.1)) (rw (more, length-append (field_text f) (fields_text fs), ← add_assoc))
