-- The value of a field that is handed back: the bytes behind the colon, without the gaps at their ends.
-- Assumes nothing.
use Prim.Native.Nat.{ℕ, zero, suc, ◌+◌}
use mathlib.Core.Path.{◌≡◌, refl, sym, ap, ap₂, ◌∙◌}
use mathlib.Core.Bool.{Bool, true, false, ◌&&◌}
use mathlib.Core.Option.{Option, none, some}
use mathlib.Core.List.{List, [], ◌∷◌, ◌++◌, append-nil}
use native.Mathlib.Omega.{arith}
use lib.Dec.{leb, ltb}
use lib.ListN.{length, take, drop}
use lib.Seq.{drop-drop, drop-append-le}
use borrow.Author.Tests.{ltb-true}
use Rattle.lists.specs.Lists.{all, run, All}
use Rattle.lists.proofs.Tests.{both}
use Rattle.octets.specs.Octets.{is_name, is_value, is_blank, is_gap}
use Rattle.readers.specs.Words.{is_crlf}
use Rattle.readers.proofs.Cuts.{Cut}
use Rattle.message.specs.Message.{Field, part}
use Rattle.message.specs.Folds.{raw, joined}
use Rattle.message.specs.Fields.{kept, trim_end, trimmed, Line, empty, field, is_plain, field_at, raw_at, field_line}
use Rattle.message.specs.Fields.{Lines, lines, with, go_on, field_lines}
use Rattle.message.specs.declared.Span.{Span}
use Rattle.message.proofs.Folds.{raw_cut, blanks_values}
use Rattle.message.proofs.Trimming.{kept_by_lem, trim_end_by, trim_start_by, trim_by, joined_trimmed, trimmed_all}
use Rattle.message.proofs.Trimming.{start_blanks, start_off, start_kept, end_off, end_last, end_kept}
use Rattle.message.proofs.Trimming.{trimmed_twice}

-- trimming by places
pub trim_end_lem : (l : List ℕ) → trim_end l ≡ trim_end_by is_gap l
trim_end_lem [] = refl
trim_end_lem (x ∷ l) = go (trim_end l) (trim_end_lem l)
  where
    go : (m : List ℕ) → m ≡ trim_end_by is_gap l → kept x m ≡ kept_by_lem is_gap x (trim_end_by is_gap l)
    go [] e = ap (kept_by_lem is_gap x) e
    go (y ∷ m) e = ap (kept_by_lem is_gap x) e

module _ (test : ℕ → Bool) (rest : List ℕ) where
  pub past_start : (v : List ℕ) → drop (run test v) (v ++ rest) ≡ trim_start_by test v ++ rest
  past_start [] = refl
  past_start (x ∷ v) = go (test x) refl (past_start v)
    where
      go : (b : Bool) → test x ≡ b → drop (run test v) (v ++ rest) ≡ trim_start_by test v ++ rest
          → drop (run test (x ∷ v)) (x ∷ v ++ rest) ≡ trim_start_by test (x ∷ v) ++ rest
      go true b ih = rw (b, run) ih ∙ sym (ap (λ m. m ++ rest) (start_off test x v b))
      go false b ih = rw (b, run) (sym (ap (λ m. m ++ rest) (start_kept test x v b)))

  pub up_to_end : (v : List ℕ) → take (length (trim_end_by test v)) (v ++ rest) ≡ trim_end_by test v
  up_to_end [] = refl
  up_to_end (x ∷ v) = go (trim_end_by test v) refl (test x) refl (up_to_end v)
    where
      cut : (m : List ℕ) → trim_end_by test (x ∷ v) ≡ m → take (length m) (x ∷ v ++ rest) ≡ m
          → take (length (trim_end_by test (x ∷ v))) (x ∷ v ++ rest) ≡ trim_end_by test (x ∷ v)
      cut m e h = ap (λ m. take (length m) (x ∷ v ++ rest)) e ∙ h ∙ sym e

      go : (m : List ℕ) → trim_end_by test v ≡ m → (b : Bool) → test x ≡ b
          → take (length (trim_end_by test v)) (v ++ rest) ≡ trim_end_by test v
          → take (length (trim_end_by test (x ∷ v))) (x ∷ v ++ rest) ≡ trim_end_by test (x ∷ v)
      go [] e true b ih = cut [] (end_off test x v b e) refl
      go [] e false b ih = cut (x ∷ []) (end_last test x v b e) refl
      go (y ∷ m) e b c ih =
          cut (x ∷ y ∷ m) (end_kept test x v y m e)
          (ap (λ m. x ∷ m) (ap (λ m. take (length m) (v ++ rest)) (sym e) ∙ ih ∙ e))

-- the place of a value without the gaps at its ends holds just that
pub part_trimmed : (s : List ℕ) (at : ℕ) (v rest : List ℕ) → drop at s ≡ v ++ rest
    → part s (trimmed at v) ≡ trim_by is_gap v
part_trimmed s at v rest e =
    let w = trim_start_by is_gap v in
    let n = run is_gap v in
    let start : drop n v ≡ w = sym (ap (drop n) (append-nil v)) ∙ past_start is_gap [] v ∙ append-nil w in
    let long : trim_end (drop n v) ≡ trim_end_by is_gap w = trim_end_lem (drop n v) ∙ ap (trim_end_by is_gap) start in
    let from : drop (at + n) s ≡ w ++ rest = sym (drop-drop n at s) ∙ ap (drop n) e ∙ past_start is_gap rest v in
    ap₂ (λ m t. take (length m) t) long from ∙ up_to_end is_gap rest w

-- a value as it is handed back: no gap at its ends; as joined, value bytes
pub record Bare (v : List ℕ) : Type 0 where
  pub ends : trim_by is_gap v ≡ v
  pub joins : all is_value (joined v) ≡ true

pub bare : (v : List ℕ) → all is_value (joined v) ≡ true → Bare (trim_by is_gap v)
bare v h = record {
  ends = trimmed_twice is_gap v;
  joins = ap (all is_value) (joined_trimmed v h)
      ∙ trimmed_all is_blank is_value (trim_start_by is_blank (joined v))
      (ap (all is_value) (start_blanks (joined v)) ∙ blanks_values (joined v) ∙ h);
}

-- of a line, of lines
module _ (s : List ℕ) where
  abbrev Holds : Line → Type 0
  Holds Line.malformed = Unit {0}
  Holds (empty next) = Unit {0}
  Holds (field f next) = Bare (part s f.value)

  abbrev pub Hold : Lines → Type 0
  Hold Lines.malformed = Unit {0}
  Hold (lines fs b) = All (λ (f : Field Span). Bare (part s f.value)) fs

  holds_at : (at k : ℕ) (l rest : List ℕ) → drop at s ≡ l ++ rest → Holds (field_at at k l)
  holds_at at k l rest c = go (is_named && all is_value (joined (drop (suc k) l))) refl
    where
      is_named : Bool
      is_named = ltb k (length l) && leb 1 k && leb k 64 && all is_name (take k l)

      go : (t : Bool) → (is_named && all is_value (joined (drop (suc k) l))) ≡ t → Holds (field_at at k l)
      go true e = rw (e, field_at) (
          let (front, values) = both is_named (all is_value (joined (drop (suc k) l))) e in
          let named = (both (ltb k (length l) && leb 1 k && leb k 64) (all is_name (take k l)) front).0 in
          let inside = (both (ltb k (length l)) (leb 1 k) (both (ltb k (length l) && leb 1 k) (leb k 64) named).0).0 in
          let v = drop (suc k) l in
          let behind : at + k + 1 ≡ at + suc k = omega arith in
          let from : drop (at + k + 1) s ≡ v ++ rest =
          ap (λ n. drop n s) behind ∙ sym (drop-drop (suc k) at s) ∙ ap (drop (suc k)) c
          ∙ drop-append-le (suc k) l rest (omega (arith, ltb-true k (length l) inside)) in
          rw (part_trimmed s (at + k + 1) v rest from) (bare v values))
      go false e = rw (e, field_at) tt

  holds_raw : (at : ℕ) (r : Option (List ℕ)) → Cut (drop at s) r → Holds (raw_at at r)
  holds_raw at none h = tt
  holds_raw at (some l) (rest, e) = holds_at at (run is_plain l) l (13 ∷ 10 ∷ rest) e

  holds_line : (at : ℕ) → Holds (field_line at (drop at s))
  unfolding field_line
  holds_line at = go (is_crlf (drop at s)) refl
    where
      go : (b : Bool) → is_crlf (drop at s) ≡ b → Holds (field_line at (drop at s))
      go true e = rw (e, field_line) tt
      go false e = rw (e, field_line) (holds_raw at (raw (drop at s)) (raw_cut (drop at s)))

  hold_with : (f : Field Span) (r : Lines) → Bare (part s f.value) → Hold r → Hold (with f r)
  hold_with f Lines.malformed h g = tt
  hold_with f (lines fs b) h g = (h, g)

  hold_on : (more : ℕ → Lines) → ((next : ℕ) → Hold (more next)) → (l : Line) → Holds l → Hold (go_on l more)
  hold_on more rest Line.malformed h = tt
  hold_on more rest (empty next) h = tt
  hold_on more rest (field f next) h = hold_with f (more next) h (rest next)

  pub hold : (n at : ℕ) → Hold (field_lines n s at)
  hold zero at = hold_on (λ _. Lines.malformed) (λ _. tt) (field_line at (drop at s)) (holds_line at)
  hold (suc n) at = hold_on (field_lines n s) (hold n) (field_line at (drop at s)) (holds_line at)
