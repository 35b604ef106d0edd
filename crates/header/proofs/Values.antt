-- The value of a known name stands at the name's number: `value_of` by mask and places.
-- Assumes nothing.
use mathlib.Core.Path.{◌≡◌, refl, sym, ap, ◌∙◌}
use mathlib.Core.Bool.{Bool, true, false, not, ◌&&◌, ◌||◌, false≢true}
use mathlib.Core.Option.{Option, none, some}
use mathlib.Core.List.{List, [], ◌∷◌, map}
use Prim.Native.Nat.{ℕ, ◌<◌}
use native.Mathlib.Omega.{arith}
use lib.ListN.{length, get_or, set, replicate, length-set}
use lib.Seq.{get_or-set_same, get_or-set_other}
use borrow.Author.Tests.{eqb-true, eqb-false, not-true}
use Rattle.lists.proofs.Tests.{both}
use Rattle.message.specs.Message.{Field, part, on_field}
use Rattle.message.specs.Known.{known_of, index_of, is, is_known, among, once_each, value_of}
use Rattle.message.specs.declared.Known.{Known}
use Rattle.message.specs.declared.Span.{Span}
use Rattle.names.specs.Names.{bit_of, mask_with, names_in}
use Rattle.names.proofs.Masks.{index_small}
use Rattle.names.proofs.Marks.{among_same, known_same, mask_came}
use Rattle.header.specs.Header.{nowhere, values_in}
use Rattle.header.specs.Steps.{given_by}
use Rattle.fieldlines.specs.declared.Field as H

-- the code's field as the definition has it
abbrev pub as_field : H.Field → Field Span
as_field x = record { name = x.name; value = x.value }

module _ (f : List ℕ) where
  abbrev name_of : Field Span → Known
  name_of x = known_of (part f x.name)

  abbrev texts : List (Field Span) → List (Field (List ℕ))
  texts fs = map (on_field (part f)) fs

  module _ (k : Known) where
    value_here : (x : Field Span) (fs : List (Field Span)) → is k (name_of x) ≡ true
        → value_of k (texts (x ∷ fs)) ≡ some (part f x.value)
    unfolding value_of
    value_here x fs e = rw (e, value_of)

    value_later : (x : Field Span) (fs : List (Field Span)) → is k (name_of x) ≡ false
        → value_of k (texts (x ∷ fs)) ≡ value_of k (texts fs)
    unfolding value_of
    value_later x fs e = rw (e, value_of)

    value_none : (fs : List (Field Span)) → among k (names_in f fs) ≡ false → value_of k (texts fs) ≡ none
    unfolding value_of
    value_none [] h = refl
    value_none (x ∷ fs) h = go (is k (name_of x)) refl h (value_none fs)
      where
        go : (b : Bool) → is k (name_of x) ≡ b → (b || among k (names_in f fs)) ≡ false
            → (among k (names_in f fs) ≡ false → value_of k (texts fs) ≡ none)
            → value_of k (texts (x ∷ fs)) ≡ none
        go true e h ih = absurd (false≢true (sym h))
        go false e h ih = value_later x fs e ∙ ih h

    -- names that are not k leave its place alone
    values_kept : (fs : List (Field Span)) (w : List Span) → among k (names_in f fs) ≡ false
        → get_or (values_in f fs w) (index_of k) nowhere ≡ get_or w (index_of k) nowhere
    values_kept [] w h = refl
    values_kept (x ∷ fs) w h = values_kept fs (set w (index_of (name_of x)) x.value)
        (go (is k (name_of x)) (among k (names_in f fs)) h).1
        ∙ get_or-set_other w (index_of (name_of x)) (index_of k) x.value nowhere
        (eqb-false (index_of k) (index_of (name_of x)) (go (is k (name_of x)) (among k (names_in f fs)) h).0)
      where
        go : (a b : Bool) → (a || b) ≡ false → (a ≡ false) × (b ≡ false)
        go true b e = absurd (false≢true (sym e))
        go false b e = (refl, e)

    module _ (params : Bool) (known : is_known params k ≡ true) where
      -- the name at the front, which no later one is
      first : (x : Field Span) (fs : List (Field Span)) (w : List Span) → length w ≡ 16
          → once_each params (names_in f (x ∷ fs)) ≡ true → is k (name_of x) ≡ true
          → get_or (values_in f (x ∷ fs) w) (index_of k) nowhere ≡ x.value
      first x fs w l o e =
          let n = name_of x in
          let same : index_of k ≡ index_of n = eqb-true (index_of k) (index_of n) e in
          let once = not-true (is_known params n && among n (names_in f fs))
          (both (not (is_known params n && among n (names_in f fs))) (once_each params (names_in f fs)) o).0 in
          let gone : among k (names_in f fs) ≡ false =
          among_same k n same (names_in f fs)
          ∙ sym (ap (λ b. b && among n (names_in f fs)) (known_same params n k (sym same) ∙ known)) ∙ once in
          let room : index_of k < length w = omega (arith, index_small k) in
          values_kept fs (set w (index_of n) x.value) gone
          ∙ ap (λ i. get_or (set w i x.value) (index_of k) nowhere) (sym same)
          ∙ get_or-set_same w (index_of k) x.value nowhere room

      value_came : (fs : List (Field Span)) (w : List Span) → length w ≡ 16 → once_each params (names_in f fs) ≡ true
          → among k (names_in f fs) ≡ true
          → value_of k (texts fs) ≡ some (part f (get_or (values_in f fs w) (index_of k) nowhere))
      value_came [] w l o h = absurd (false≢true h)
      value_came (x ∷ fs) w l o h =
          let n = name_of x in
          let rest = (both (not (is_known params n && among n (names_in f fs))) (once_each params (names_in f fs)) o).1 in
          go (is k n) refl h (value_came fs (set w (index_of n) x.value)
          (length-set w (index_of n) x.value ∙ l) rest)
        where
          go : (b : Bool) → is k (name_of x) ≡ b → (b || among k (names_in f fs)) ≡ true
              → (among k (names_in f fs) ≡ true
              → value_of k (texts fs) ≡ some (part f (get_or (values_in f (x ∷ fs) w) (index_of k) nowhere)))
              → value_of k (texts (x ∷ fs)) ≡ some (part f (get_or (values_in f (x ∷ fs) w) (index_of k) nowhere))
          go true e h ih = value_here x fs e ∙ ap (λ p. some (part f p)) (sym (first x fs w l o e))
          go false e h ih = value_later x fs e ∙ ih h

      module _ (fs : List (Field Span)) (once : once_each params (names_in f fs) ≡ true) where
        abbrev valued : List ℕ
        valued = part f (get_or (values_in f fs (replicate 16 nowhere)) (index_of k) nowhere)

        abbrev unless : Bool → Option (List ℕ)
        unless b = elim b [ true ↦ none | false ↦ some valued ]

        pub given_value : value_of k (texts fs) ≡ given_by (mask_with 0 (names_in f fs)) (bit_of k) valued
        given_value = go (among k (names_in f fs)) refl
            ∙ sym (ap unless (mask_came (names_in f fs) k))
          where
            go : (b : Bool) → among k (names_in f fs) ≡ b → value_of k (texts fs) ≡ unless (not (among k (names_in f fs)))
            go true e = value_came fs (replicate 16 nowhere) refl once e ∙ sym (ap (λ b. unless (not b)) e)
            go false e = value_none fs e ∙ sym (ap (λ b. unless (not b)) e)
