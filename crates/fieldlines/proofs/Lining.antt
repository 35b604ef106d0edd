-- How a field is read at a place of the frame, by what the code found on its way: where the name ends, where the value
-- begins and where it ends.
-- Assumes nothing.
use mathlib.Core.Path.{◌≡◌, refl, sym, ap, ap₂, ◌∙◌}
use mathlib.Core.Bool.{Bool, true, false, ◌&&◌, ◌||◌, not, false≢true}
use mathlib.Core.List.{List, [], ◌∷◌}
use Prim.Native.Nat.{ℕ, zero, suc, ◌+◌, ◌-◌, ◌<◌, ◌≤◌}
use native.Mathlib.Nat.{add-zero, zero-add, suc-add}
use native.Mathlib.Omega.{arith}
use lib.Dec.{eqb, leb}
use lib.ListN.{length, drop, take}
use lib.Seq.{drop-drop, take-nil}
use borrow.Author.Tests.{eqb-true, le-leb, lt-leb}
use Rattle.std.specs.Prelude.{Some}
use Rattle.lists.specs.Lists.{run}
use Rattle.lists.proofs.Tests.{both}
use Rattle.octets.specs.Octets.{is_name, is_value, is_blank, is_gap}
use Rattle.readers.specs.Words.{starts, is_crlf}
use Rattle.readers.proofs.Positions.{apart, run_yes, run_no}
use Rattle.message.specs.Fields.{trim_end, trimmed, Line, empty, field, raw_at, field_line}
use Rattle.message.specs.Folds.{raw}
use Rattle.message.specs.declared.Span.{Span}
use Rattle.fieldlines.specs.Steps.{line_of, ends_at, value_run, field_within, field_to}
use Rattle.fieldlines.specs.declared.Line as C
use Rattle.fieldlines.proofs.Runs.{text}
use Rattle.fieldlines.proofs.Folding.{run_ended, values_first}
use Rattle.fieldlines.proofs.ByRuns.{named, valued, by_runs}

-- further on in what is left
beyond : (s : List ℕ) (at k n : ℕ) → at + k ≡ n → drop k (drop at s) ≡ drop n s
beyond s at k n e = drop-drop k at s ∙ ap (λ n. drop n s) e

drop_take : (b m : ℕ) (l : List ℕ) → drop b (take (b + m) l) ≡ take m (drop b l)
drop_take zero m l = ap (λ n. take n l) (zero-add m)
drop_take (suc b) m [] = rw suc-add (sym (take-nil m))
drop_take (suc b) m (x ∷ l) = rw suc-add (drop_take b m l)

text_from : (s : List ℕ) (a v e : ℕ) → a ≤ v → v ≤ e → drop (v - a) (text s a e) ≡ text s v e
text_from s a v e h g =
    let n : e - a ≡ v - a + (e - v) = omega arith in
    ap (λ n. drop (v - a) (take n (drop a s))) n ∙ drop_take (v - a) (e - v) (drop a s)
    ∙ ap (take (e - v)) (beyond s a (v - a) v (omega arith))

-- a field whose value's bytes and folds end at e
module _ (s : List ℕ) (at n e : ℕ) where
  abbrev as_field : Span → Line
  as_field v = field (record { name = record { start = at; len = n - at }; value = v }) (e + 2)

  abbrev behind_colon : List ℕ
  behind_colon = text s (n + 1) e

  -- the value without the gaps at both its ends
  done : ends_at (drop e s) ≡ true → (v : ℕ) → v ≡ n + 1 + run is_gap behind_colon → v ≤ e
      → field_to s at n e ≡ as_field (record { start = v; len = length (trim_end (text s v e)) })
  done h v ev le =
      let b : run is_gap behind_colon ≡ v - (n + 1) = omega arith in
      let off = ap (λ b. length (trim_end (drop b behind_colon))) b
      ∙ ap (λ t. length (trim_end t)) (text_from s (n + 1) v e (omega arith) le) in
      ap {B = Line} (λ b. elim b [ true ↦ as_field (trimmed (n + 1) behind_colon) | false ↦ Line.malformed ]) h
      ∙ ap₂ (λ start len. as_field (record { start = start; len = len })) (sym ev) off

  pub field_done : ends_at (drop e s) ≡ true → n < e
      → (v : ℕ) → v ≡ n + 1 + run is_gap (drop (n + 1) (take e s)) → v ≤ e
      → Some (C.Line.Field (field_within s at n v e) (e + 2)) ≡ line_of (field_to s at n e)
  field_done h l v ev le =
      let far : e ≡ n + 1 + (e - (n + 1)) = omega arith in
      let same = ap (λ e. drop (n + 1) (take e s)) far ∙ drop_take (n + 1) (e - (n + 1)) s in
      ap line_of (sym (done h v (ev ∙ ap (λ t. n + 1 + run is_gap t) same) le))

-- in value bytes, the gaps are the blanks
value_gap : (x : ℕ) → is_value x ≡ true → is_gap x ≡ is_blank x
value_gap x v = go (is_blank x) (apart is_value 13 x refl v) (apart is_value 10 x refl v)
  where
    go : (b : Bool) → eqb x 13 ≡ false → eqb x 10 ≡ false → (b || eqb x 13 || eqb x 10) ≡ b
    go true p q = refl
    go false p q = ap₂ ◌||◌ p q

-- a blank is a value byte
blank_value : (x : ℕ) → is_value x ≡ false → is_blank x ≡ false
blank_value x v = ap₂ ◌||◌ (other 32 refl) (other 9 refl)
  where
    other : (b : ℕ) → is_value b ≡ true → eqb x b ≡ false
    other b y = apart (λ z. not (is_value z)) b x (ap not y) (ap not v)

gaps_first : (l : List ℕ) → run is_gap (take (run is_value l) l) ≡ run is_blank l
gaps_first [] = refl
gaps_first (x ∷ l) = go (gaps_first l) (is_value x) (is_blank x) refl refl
  where
    go : run is_gap (take (run is_value l) l) ≡ run is_blank l
        → (v b : Bool) → is_value x ≡ v → is_blank x ≡ b
        → run is_gap (take (run is_value (x ∷ l)) (x ∷ l)) ≡ run is_blank (x ∷ l)
    go ih true true v b =
        rw (run_yes is_value x l v, run_yes is_blank x l b)
        (run_yes is_gap x (take (run is_value l) l) (value_gap x v ∙ b) ∙ ap suc ih)
    go ih true false v b =
        rw (run_yes is_value x l v, run_no is_blank x l b) (run_no is_gap x (take (run is_value l) l) (value_gap x v ∙ b))
    go ih false b v _ = rw (run_no is_value x l v) (sym (run_no is_blank x l (blank_value x v)))

blanks_first : (l : List ℕ) → run is_value l ≡ run is_blank l + run is_value (drop (run is_blank l) l)
blanks_first [] = refl
blanks_first (x ∷ l) = go (blanks_first l) (is_value x) (is_blank x) refl refl
  where
    go : run is_value l ≡ run is_blank l + run is_value (drop (run is_blank l) l)
        → (v b : Bool) → is_value x ≡ v → is_blank x ≡ b
        → run is_value (x ∷ l) ≡ run is_blank (x ∷ l) + run is_value (drop (run is_blank (x ∷ l)) (x ∷ l))
    go ih true true v b = rw (run_yes is_blank x l b, run_yes is_value x l v) (omega arith)
    go ih v false _ b = rw (run_no is_blank x l b) (sym (zero-add (run is_value (x ∷ l))))
    go ih false true v b = absurd (false≢true (sym (blank_value x v) ∙ b))

name_open : (l : List ℕ) → is_crlf l ≡ true → run is_name l ≡ 0
name_open [] e = refl
name_open (x ∷ l) e = run_no is_name x l (ap is_name (eqb-true x 13 (both (eqb x 13) (starts 10 l) e).0))

pub line_empty : (at : ℕ) (l : List ℕ) → is_crlf l ≡ true → field_line at l ≡ empty (at + 2)
unfolding field_line
line_empty at l e = ap {B = Line} (λ b. elim b [ true ↦ empty (at + 2) | false ↦ raw_at at (raw l) ]) e

module _ (s : List ℕ) (at n : ℕ) (e : n ≡ at + run is_name (drop at s)) where
  abbrev so : Bool → Line
  so b = elim b [ true ↦ valued at (n - at) (drop (n + 1) s) | false ↦ Line.malformed ]

  start : is_crlf (drop at s) ≡ false
      → field_line at (drop at s) ≡ named at (n - at) (starts 58 (drop n s)) (drop (n + 1) s)
  start c =
      let r : run is_name (drop at s) ≡ n - at = omega arith in
      by_runs at (drop at s) c
      ∙ ap (λ r. named at r (starts 58 (drop r (drop at s))) (drop (r + 1) (drop at s))) r
      ∙ ap₂ (λ l m. named at (n - at) (starts 58 l) m) (beyond s at (n - at) n (omega arith))
      (beyond s at (n - at + 1) (n + 1) (omega arith))

  pub line_none : n ≡ at → is_crlf (drop at s) ≡ false → field_line at (drop at s) ≡ Line.malformed
  line_none z c =
      start c ∙ ap (λ b. so (b && leb (n - at) 64 && starts 58 (drop n s))) (lt-leb 1 (n - at) (omega arith))

  module _ (some : n ≡ at → ⊥) where
    named_open : (b : Bool) → is_crlf (drop at s) ≡ b → is_crlf (drop at s) ≡ false
    named_open true c = absurd (some (omega (arith, name_open (drop at s) c)))
    named_open false c = c

    began : field_line at (drop at s) ≡ so (leb (n - at) 64 && starts 58 (drop n s))
    began =
        start (named_open (is_crlf (drop at s)) refl)
        ∙ ap (λ b. so (b && leb (n - at) 64 && starts 58 (drop n s))) (le-leb 1 (n - at) (omega arith))

    pub line_long : 64 < n - at → field_line at (drop at s) ≡ Line.malformed
    line_long l = began ∙ ap (λ b. so (b && starts 58 (drop n s))) (lt-leb (n - at) 64 l)

    module _ (most : n - at ≤ 64) where
      short : field_line at (drop at s) ≡ so (starts 58 (drop n s))
      short = began ∙ ap (λ b. so (b && starts 58 (drop n s))) (le-leb (n - at) 64 most)

      pub line_colon : starts 58 (drop n s) ≡ false → field_line at (drop at s) ≡ Line.malformed
      line_colon h = short ∙ ap so h

      module _ (h : starts 58 (drop n s) ≡ true) where
        -- a value from a on, of k bytes, m bytes before its end
        abbrev to : Bool → ℕ → ℕ → ℕ → Line
        to b a k m = elim b [
          | true ↦ field (record {
            name = record { start = at; len = n - at };
            value = trimmed a (take k (drop (n + 1) s));
          }) (a + m + 2)
          | false ↦ Line.malformed
        ]

        line_value : field_line at (drop at s) ≡ field_to s at n (n + 1 + value_run (drop (n + 1) s))
        line_value =
            let w = drop (n + 1) s in
            let m = value_run w in
            let a : at + (n - at) + 1 ≡ n + 1 = omega arith in
            let k : m ≡ n + 1 + m - (n + 1) = omega arith in
            short ∙ ap so h
            ∙ ap (λ l. to (ends_at l) (at + (n - at) + 1) m m) (beyond s (n + 1) m (n + 1 + m) refl)
            ∙ ap₂ (λ a k. to (ends_at (drop (n + 1 + m) s)) a k m) a k

        module _ (v : ℕ) (ev : v ≡ n + 1 + run is_blank (drop (n + 1) s))
            (end : ℕ) (ee : end ≡ v + run is_value (drop v s)) where
          values : end ≡ n + 1 + run is_value (drop (n + 1) s)
          values =
              let b : run is_blank (drop (n + 1) s) ≡ v - (n + 1) = omega arith in
              omega (
                arith,
                blanks_first (drop (n + 1) s),
                ap (λ b. run is_value (drop b (drop (n + 1) s))) b,
                ap (run is_value) (beyond s (n + 1) (v - (n + 1)) v (omega arith)),
              )

          pub line_folded : field_line at (drop at s) ≡ field_to s at n (end + value_run (drop end s))
          line_folded =
              let w = drop (n + 1) s in
              let same : n + 1 + value_run w ≡ end + value_run (drop end s) = omega (
                arith,
                values,
                values_first w,
                ap value_run (beyond s (n + 1) (run is_value w) end (sym values)),
              ) in
              line_value ∙ ap (field_to s at n) same

          pub line_field : ends_at (drop end s) ≡ true
              → Some (C.Line.Field (field_within s at n v end) (end + 2)) ≡ line_of (field_line at (drop at s))
          line_field c =
              let w = drop (n + 1) s in
              let k : end - (n + 1) ≡ run is_value w = omega (arith, values) in
              let gaps = ap (λ k. run is_gap (take k w)) k ∙ gaps_first w in
              ap line_of (sym (line_folded ∙ ap (λ m. field_to s at n (end + m)) (run_ended (drop end s) c)
              ∙ ap (field_to s at n) (add-zero end)
              ∙ done s at n end c v (ev ∙ ap (λ k. n + 1 + k) (sym gaps)) (omega arith)))
