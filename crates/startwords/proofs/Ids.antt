-- Which request-id digits are, by what they write.
-- Assumes nothing.
use mathlib.Core.Path.{◌≡◌, refl}
use mathlib.Core.Bool.{Bool, true, false, not}
use Prim.Native.Nat.{ℕ, ◌+◌}
use lib.Dec.{eqb, leb}
use borrow.Author.Tests.{eq-eqb, ne_eqb}
use Rattle.std.specs.Bool.{then_some}
use Rattle.std.specs.Prelude.{Option, Some, None}
use Rattle.digits.specs.declared.Digits.{Digits}
use Rattle.digits.specs.declared.Numeral.{Numeral}
use Rattle.startwords.specs.Runs.{id_of}

module _ (at : ℕ) (d : Digits) where
  abbrev id : Numeral
  id = record { value = d.value; next = at + d.count }

  pub id_none : d.count ≡ 0 → then_some (not (eqb d.count 0)) id ≡ id_of at d
  id_none h = rw (eq-eqb d.count 0 h, id_of)

  pub id_some : (d.count ≡ 0 → ⊥) → then_some (leb d.value 4294967295) id ≡ id_of at d
  id_some h = rw (ne_eqb d.count 0 h, id_of) (go (leb d.value 4294967295))
    where
      go : (b : Bool) → ◌≡◌ {A = Option Numeral} (then_some b id) (elim b [ true ↦ Some id | false ↦ None ])
      go true = refl
      go false = refl
