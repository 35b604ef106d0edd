-- The number that a text states, by the digits at its front.
-- Assumes nothing.
use mathlib.Core.Path.{◌≡◌, refl, sym, ap, ◌∙◌}
use mathlib.Core.Bool.{Bool, true, false, not}
use mathlib.Core.List.{List}
use Prim.Native.Nat.{ℕ}
use lib.Dec.{eqb, lit≤}
use lib.ListN.{length}
use borrow.Author.Tests.{eqb-true, eqb-false}
use Rattle.std.specs.Bool.{then_some}
use Rattle.std.specs.Prelude.{Option, Some, None}
use Rattle.readers.specs.Words.{number_of}
use Rattle.digits.specs.Steps.{digits_at}
use Rattle.digits.specs.declared.Digits.{Digits}
use Rattle.digits.proofs.Numerals.{without, in_part, number_whole, value_whole}
use Rattle.header.specs.Steps.{stated_of}

-- the number n, where the test holds
abbrev number : ℕ → Bool → Option ℕ
number n b = elim b [ true ↦ Some n | false ↦ None ]

module _ (v : List ℕ) (d : Digits) (e : d ≡ digits_at 19 v) where
  pub stated_none : d.count ≡ 0 → None ≡ stated_of v
  stated_none z = sym (ap (number (number_of v)) (without 19 (lit≤ tt) v d e z))

  pub stated_part : (d.count ≡ length v → ⊥) → None ≡ stated_of v
  stated_part part = sym (ap (number (number_of v)) (in_part 19 (lit≤ tt) v d e part))

  pub stated_whole : d.count ≡ length v → then_some (not (eqb d.count 0)) d.value ≡ stated_of v
  stated_whole whole = go (eqb d.count 0) refl
    where
      go : (b : Bool) → eqb d.count 0 ≡ b → then_some (not b) d.value ≡ stated_of v
      go true h = stated_none (eqb-true d.count 0 h)
      go false h =
          let came = eqb-false d.count 0 h in
          ap Some (value_whole 19 (lit≤ tt) v d e came whole)
          ∙ sym (ap (number (number_of v)) (number_whole 19 (lit≤ tt) v d e came whole))
