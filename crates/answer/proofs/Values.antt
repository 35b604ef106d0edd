-- Values of fields that need no trimming: texts of visible bytes, lists of ids, and completion causes.
use Prim.Native.Nat.{ℕ, ◌≤◌, ◌<◌}
use native.Mathlib.Omega.{arith}
use mathlib.Core.Path.{◌≡◌, refl, ap, ◌∙◌}
use mathlib.Core.Bool.{Bool, true, false, ◌&&◌}
use mathlib.Core.List.{List, [], ◌∷◌}
use lib.Dec.{leb, eqb, lit≤}
use lib.ListN.{length}
use borrow.Author.Tests.{leb-true, le-leb, eqb-true, ne_eqb}
use Rattle.lists.specs.Lists.{all, run, same}
use Rattle.octets.specs.Octets.{within, is_digit, is_value, is_blank, is_gap}
use Rattle.lists.proofs.Tests.{both}
use Rattle.lists.proofs.Scans.{all_append, all_of, same_so}
use Rattle.octets.proofs.Bits.{agree}
use Rattle.writers.specs.Decimal.{digits, three_digits}
use Rattle.writers.proofs.Digits.{digits_all}
use Rattle.message.specs.Fields.{kept, trim_end}
use Rattle.answer.specs.IdList.{behind_commas, id_list_text}
use Rattle.answer.specs.Answers.{cause_names, completion_cause}
use Rattle.answer.specs.declared.Kind.{Kind}

pub record ValueFits (v : List ℕ) : Type 0 where
  pub values : all is_value v ≡ true
  pub front : run is_blank v ≡ 0
  pub end : trim_end v ≡ v

-- a byte that prints: 33 to 126
abbrev pub is_visible : ℕ → Bool
is_visible x = within 33 126 x

no_gap : (x : ℕ) → is_visible x ≡ true → is_gap x ≡ false
no_gap x e =
    let low : 33 ≤ x = leb-true 33 x (both (leb 33 x) (leb x 126) e).0 in
    rw (ne_eqb x 32 (omega arith), ne_eqb x 9 (omega arith), ne_eqb x 13 (omega arith), ne_eqb x 10 (omega arith))

no_blank : (x : ℕ) → is_visible x ≡ true → is_blank x ≡ false
no_blank x e =
    let low : 33 ≤ x = leb-true 33 x (both (leb 33 x) (leb x 126) e).0 in
    rw (ne_eqb x 32 (omega arith), ne_eqb x 9 (omega arith))

a_value : (x : ℕ) → is_visible x ≡ true → is_value x ≡ true
a_value x e =
    let h = both (leb 33 x) (leb x 126) e in
    let low : 33 ≤ x = leb-true 33 x h.0 in
    rw (le-leb 32 x (omega arith), h.1)

kept_visible : (x : ℕ) (l : List ℕ) → is_gap x ≡ false → kept x l ≡ x ∷ l
kept_visible x [] e = rw (e, kept)
kept_visible x (y ∷ l) e = refl

visible_front : (v : List ℕ) → all is_visible v ≡ true → run is_blank v ≡ 0
visible_front [] a = refl
visible_front (x ∷ v) a = rw (no_blank x (both (is_visible x) (all is_visible v) a).0, run)

visible_end : (v : List ℕ) → all is_visible v ≡ true → trim_end v ≡ v
visible_end [] a = refl
visible_end (x ∷ v) a =
    let h = both (is_visible x) (all is_visible v) a in
    ap (kept x) (visible_end v h.1) ∙ kept_visible x v (no_gap x h.0)

pub visible : (v : List ℕ) → all is_visible v ≡ true → ValueFits v
visible v a = record { values = all_of is_visible is_value a_value v a; front = visible_front v a; end = visible_end v a }

-- ---- lists of ids

pub digit_visible : (x : ℕ) → is_digit x ≡ true → is_visible x ≡ true
digit_visible x e =
    let h = both (leb 48 x) (leb x 57) e in
    let low : 48 ≤ x = leb-true 48 x h.0 in
    let high : x ≤ 57 = leb-true x 57 h.1 in
    rw (le-leb 33 x (omega arith), le-leb x 126 (omega arith))

pub digits_visible : (n : ℕ) → all is_visible (digits n) ≡ true
digits_visible n = all_of is_digit is_visible digit_visible (digits n) (digits_all n)

commas_visible : (is : List ℕ) → all is_visible (behind_commas is) ≡ true
unfolding behind_commas
commas_visible [] = refl
commas_visible (i ∷ is) = all_append is_visible (digits i) (behind_commas is) (digits_visible i) (commas_visible is)

pub list_visible : (i : ℕ) (is : List ℕ) → all is_visible (id_list_text (i ∷ is)) ≡ true
unfolding id_list_text
list_visible i is = all_append is_visible (digits i) (behind_commas is) (digits_visible i) (commas_visible is)

-- ---- causes

-- the longest value: 24 bytes on a synthesizer, 31 on a recognizer
abbrev pub cause_most : Kind → ℕ
cause_most Kind.Synthesizer = 24
cause_most Kind.Recognizer = 31

pub cause_most_lem : (kind : Kind) → cause_most kind ≤ 31
cause_most_lem Kind.Synthesizer = lit≤ tt
cause_most_lem Kind.Recognizer = lit≤ tt

pub record CauseFits (kind : Kind) (cause : ℕ) : Type 0 where
  pub value : ValueFits (completion_cause kind cause).value
  pub most : length (completion_cause kind cause).value ≤ cause_most kind

-- as one test
fitting : Kind → ℕ → Bool
fitting kind cause =
    let v = (completion_cause kind cause).value in
    all is_value v && (eqb (run is_blank v) 0 && (same (trim_end v) v && leb (length v) (cause_most kind)))

fitting_so : (kind : Kind) (cause : ℕ) → fitting kind cause ≡ true → CauseFits kind cause
unfolding fitting
fitting_so kind cause e =
    let v = (completion_cause kind cause).value in
    let values = both (all is_value v) _ e in
    let front = both (eqb (run is_blank v) 0) _ values.1 in
    let end = both (same (trim_end v) v) (leb (length v) (cause_most kind)) front.1 in
    record {
      value = record { values = values.0; front = eqb-true (run is_blank v) 0 front.0; end = same_so _ v end.0 };
      most = leb-true (length v) (cause_most kind) end.1;
    }

-- every cause of the kind
pub cause_fits : (kind : Kind) (cause : ℕ) → cause < length (cause_names kind) → CauseFits kind cause
unfolding three_digits fitting
cause_fits Kind.Synthesizer cause h =
    fitting_so Kind.Synthesizer cause (agree (fitting Kind.Synthesizer) (λ n. true) false 8 refl cause h)
cause_fits Kind.Recognizer cause h =
    fitting_so Kind.Recognizer cause (agree (fitting Kind.Recognizer) (λ n. true) false 16 refl cause h)
