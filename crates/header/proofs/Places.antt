-- The numbers of fields, laid one behind the other into those that were lent, of as many fields as fit.
-- Assumes nothing.
use mathlib.Core.Path.{◌≡◌, refl, sym, ap, ap₂, ◌∙◌}
use mathlib.Core.Bool.{Bool, true, false}
use mathlib.Core.List.{List, [], ◌∷◌, ◌++◌}
use Prim.Native.Nat.{ℕ, ◌+◌, ◌*◌, ◌/◌, ◌≤◌}
use native.Mathlib.Omega.{arith}
use lib.Dec.{ltb}
use lib.ListN.{length, take, drop, length-append, length-take, length-drop}
use lib.Seq.{take_all, take-append_seam, take-append-le, drop-append-add, drop-drop}
use borrow.Author.Tests.{ltb-true, ltb-false}
use Rattle.message.specs.Message as M
use Rattle.message.specs.declared.Span.{Span}
use Rattle.fieldlines.specs.declared.Field.{Field}
use Rattle.header.specs.Header.{field_numbers, fitting, kept_in}
use Rattle.header.specs.Steps.{kept_at}
use Rattle.header.proofs.Values.{as_field}

pub numbers_length : (fs : List (M.Field Span)) → length (field_numbers fs) ≡ 4 * length fs
numbers_length [] = refl
numbers_length (x ∷ fs) = let h = numbers_length fs in omega arith

numbers_append : (fs gs : List (M.Field Span)) → field_numbers (fs ++ gs) ≡ field_numbers fs ++ field_numbers gs
numbers_append [] gs = refl
numbers_append (x ∷ fs) gs = ap (λ (l : List ℕ). x.name.start ∷ x.name.len ∷ x.value.start ∷ x.value.len ∷ l)
    (numbers_append fs gs)

-- four more behind those that stand at the front
pub grown : (out pre rest four : List ℕ) (at : ℕ) → out ≡ pre ++ rest → at ≡ length pre
    → take at out ++ four ++ drop (at + 4) out ≡ pre ++ four ++ drop 4 rest
grown out pre rest four at e h = rw (e, h, take-append_seam pre rest, drop-append-add pre rest 4)

module _ (lent : List ℕ) where
  few : (fs : List (M.Field Span)) → 4 * length (fitting (length lent) fs) ≤ length lent
  few fs = let l = length-take (length lent / 4) fs in omega arith

  pub kept_length : (fs : List (M.Field Span)) → length (kept_in lent fs) ≡ length lent
  kept_length fs =
      let gs = fitting (length lent) fs in
      omega (
        arith,
        length-append (field_numbers gs) (drop (4 * length gs) lent),
        numbers_length gs,
        length-drop
            (4 * length gs) lent,
        few fs,
      )

  -- all of them, where there is room
  pub kept_all : (fs : List (M.Field Span)) → 4 * length fs ≤ length lent
      → kept_in lent fs ≡ field_numbers fs ++ drop (4 * length fs) lent
  kept_all fs h = ap (λ gs. field_numbers gs ++ drop (4 * length gs) lent) (take_all (length lent / 4) fs (omega arith))

  module _ (so : List (M.Field Span)) (x : Field) where
    abbrev more : List (M.Field Span)
    more = so ++ as_field x ∷ []

    more_length : length more ≡ length so + 1
    more_length = length-append so (as_field x ∷ [])

    one_more : 4 * length so + 4 ≤ length lent
        → take (4 * length so) (kept_in lent so) ++ field_numbers (as_field x ∷ [])
        ++ drop (4 * length so + 4) (kept_in lent so)
        ≡ kept_in lent more
    one_more h =
        let n : 4 * length so + 4 ≡ 4 * length more = omega (arith, more_length) in
        grown (kept_in lent so) (field_numbers so) (drop (4 * length so) lent) (field_numbers (as_field x ∷ []))
        (4 * length so)
        (kept_all so (omega arith)) (sym (numbers_length so))
        ∙ ap₂ (λ (a b : List ℕ). a ++ b) (sym (numbers_append so (as_field x ∷ [])))
        (drop-drop 4 (4 * length so) lent ∙ ap (λ m. drop m lent) n)
        ∙ sym (kept_all more (omega (arith, more_length)))

    pub kept_more : kept_at (length so) x (kept_in lent so) ≡ kept_in lent more
    kept_more = go (ltb (length (kept_in lent so)) (4 * length so + 4)) refl
      where
        go : (t : Bool) → ltb (length (kept_in lent so)) (4 * length so + 4) ≡ t
            → kept_at (length so) x (kept_in lent so) ≡ kept_in lent more
        go true e = rw (e, kept_at) (ap (λ gs. field_numbers gs ++ drop (4 * length gs) lent)
            (sym (take-append-le (length lent / 4) so (as_field x ∷ [])
            (omega (arith, kept_length so, ltb-true (length (kept_in lent so)) (4 * length so + 4) e)))))
        go false e = rw (e, kept_at)
            (one_more (omega (arith, kept_length so, ltb-false (length (kept_in lent so)) (4 * length so + 4) e)))
