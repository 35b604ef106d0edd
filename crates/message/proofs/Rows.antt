-- Where the parts of field lines lie: names and values one after the other, all inside the bytes, and the body's start behind them; and
-- how long a name is.
-- Assumes nothing.
use mathlib.Core.Path.{◌≡◌, refl}
use mathlib.Core.Bool.{Bool, true, false, ◌&&◌}
use mathlib.Core.Option.{Option, none, some}
use mathlib.Core.List.{List, [], ◌∷◌}
use Prim.Native.Nat.{ℕ, zero, suc, ◌+◌, ◌≤◌}
use native.Mathlib.Omega.{arith}
use lib.Dec.{leb, ltb}
use lib.ListN.{length, take, drop, length-drop}
use borrow.Author.Tests.{ltb-true, leb-true}
use Rattle.lists.specs.Lists.{all, run, All}
use Rattle.octets.specs.Octets.{is_name, is_value, is_gap}
use Rattle.readers.specs.Words.{is_crlf}
use Rattle.lists.proofs.Tests.{both}
use Rattle.readers.proofs.Cuts.{Cut, is_crlf_lem, line_length}
use Rattle.message.specs.Message.{Field}
use Rattle.message.specs.Fields.{kept, trim_end, trimmed, Line, empty, field, is_plain, field_at, raw_at, field_line}
use Rattle.message.specs.Folds.{raw, joined}
use Rattle.message.proofs.Folds.{raw_cut}
use Rattle.message.specs.Fields.{Lines, lines, with, go_on, field_lines}
use Rattle.message.specs.declared.Span.{Span}

-- fields from n on, in order, up to b
abbrev pub Rows : ℕ → List (Field Span) → ℕ → Type 0
Rows n [] b = n ≤ b
Rows n (x ∷ fs) b = (n ≤ x.name.start) × (x.name.start + x.name.len ≤ x.value.start) × Rows (x.value.start + x.value.len) fs b

pub rows_from : (n m : ℕ) (fs : List (Field Span)) (b : ℕ) → n ≤ m → Rows m fs b → Rows n fs b
rows_from n m [] b h r = omega arith
rows_from n m (x ∷ fs) b h (p, q, r) = ((omega arith), q, r)

pub rows_end : (n : ℕ) (fs : List (Field Span)) (b : ℕ) → Rows n fs b → n ≤ b
rows_end n [] b r = r
rows_end n (x ∷ fs) b (p, q, r) = omega (arith, rows_end (x.value.start + x.value.len) fs b r)

run_most : (test : ℕ → Bool) (l : List ℕ) → run test l ≤ length l
run_most test [] = omega arith
run_most test (x ∷ l) = go (run_most test l) (test x) refl
  where
    go : run test l ≤ length l → (b : Bool) → test x ≡ b → run test (x ∷ l) ≤ suc (length l)
    go h true e = rw (e, run) (omega arith)
    go h false e = rw (e, run) (omega arith)

kept_most : (x : ℕ) (l : List ℕ) → length (kept x l) ≤ suc (length l)
kept_most x [] = go (is_gap x) refl
  where
    go : (b : Bool) → is_gap x ≡ b → length (kept x []) ≤ 1
    go true e = rw (e, kept) (omega arith)
    go false e = rw (e, kept) (omega arith)
kept_most x (y ∷ l) = omega arith

trim_most : (l : List ℕ) → length (trim_end l) ≤ length l
trim_most [] = omega arith
trim_most (x ∷ l) = omega (arith, trim_most l, kept_most x (trim_end l))

trimmed_in : (at : ℕ) (v : List ℕ) → (at ≤ (trimmed at v).start) × ((trimmed at v).start + (trimmed at v).len ≤ at + length v)
trimmed_in at v =
    let b = run is_gap v in
    omega (arith, run_most is_gap v, trim_most (drop b v), length-drop b v)

-- a name of 1 to 64 bytes
abbrev pub NameFits : Field Span → Type 0
NameFits x = (1 ≤ x.name.len) × (x.name.len ≤ 64)

-- a line from `at` on in n bytes
abbrev pub Row : ℕ → ℕ → Line → Type 0
Row at n Line.malformed = Unit {0}
Row at n (empty next) = (at ≤ next) × (next ≤ n)
Row at n (field x next) = Rows at (x ∷ []) next × (next ≤ n) × NameFits x

field_at_lem : (at k n : ℕ) (l : List ℕ) → at + length l + 2 ≤ n → Row at n (field_at at k l)
field_at_lem at k n l h = go _ refl
  where
    go : (t : Bool) → (ltb k (length l) && leb 1 k && leb k 64 && all is_name (take k l) && all is_value (joined (drop (suc k) l))) ≡ t
        → Row at n (field_at at k l)
    go true e = rw (e, field_at) (
        let (upper, most) = both _ _ (both _ _ (both _ _ e).0).0 in
        let (inside, least) = both _ _ upper in
        omega (arith, ltb-true k (length l) inside, leb-true 1 k least, leb-true k 64 most, trimmed_in (at + k + 1) (drop (suc k) l), length-drop (suc k) l))
    go false e = rw (e, field_at) tt

raw_at_lem : (at : ℕ) (s : List ℕ) (r : Option (List ℕ)) → Cut (drop at s) r → Row at (length s) (raw_at at r)
raw_at_lem at s none h = tt
raw_at_lem at s (some l) h =
    field_at_lem at (run is_plain l) (length s) l (omega (arith, line_length (drop at s) l h, length-drop at s))

pub field_line_lem : (at : ℕ) (s : List ℕ) → Row at (length s) (field_line at (drop at s))
unfolding field_line
field_line_lem at s = go (is_crlf (drop at s)) refl
  where
    go : (b : Bool) → is_crlf (drop at s) ≡ b → Row at (length s) (field_line at (drop at s))
    go true e = rw (e, field_line) (omega (arith, line_length (drop at s) [] (is_crlf_lem (drop at s) e), length-drop at s))
    go false e = rw (e, field_line) (raw_at_lem at s (raw (drop at s)) (raw_cut (drop at s)))

-- at most m fields, from `at` on in n bytes
abbrev pub Laid : ℕ → ℕ → ℕ → Lines → Type 0
Laid m at n Lines.malformed = Unit {0}
Laid m at n (lines fs b) = Rows at fs b × (b ≤ n) × (length fs ≤ m) × All NameFits fs

module _ (at n : ℕ) where
  last : (l : Line) → Row at n l → Laid 0 at n (go_on l (λ _. Lines.malformed))
  last Line.malformed h = tt
  last (empty next) (h, g) = (h, g, (omega arith), tt)
  last (field x next) h = tt

  laid_with : (m next : ℕ) (x : Field Span) (r : Lines) → Rows at (x ∷ []) next → NameFits x → Laid m next n r → Laid (suc m) at n (with x r)
  laid_with m next x Lines.malformed h f g = tt
  laid_with m next x (lines fs b) (p, q, r) f (i, j, l, fit) =
      ((p, q, rows_from (x.value.start + x.value.len) next fs b r i), j, (omega arith), (f, fit))

  laid_on : (m : ℕ) (more : ℕ → Lines) → ((next : ℕ) → Laid m next n (more next)) → (l : Line) → Row at n l → Laid (suc m) at n (go_on l more)
  laid_on m more rest Line.malformed h = tt
  laid_on m more rest (empty next) (h, g) = (h, g, (omega arith), tt)
  laid_on m more rest (field x next) (h, _, f) = laid_with m next x (more next) h f (rest next)

pub laid : (m : ℕ) (s : List ℕ) (at : ℕ) → Laid m at (length s) (field_lines m s at)
laid zero s at = last at (length s) (field_line at (drop at s)) (field_line_lem at s)
laid (suc m) s at = laid_on at (length s) m (field_lines m s) (laid m s) (field_line at (drop at s)) (field_line_lem at s)
