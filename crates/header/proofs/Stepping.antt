-- A line judged on the way: what it is, by what the code found.
-- Assumes nothing.
use mathlib.Core.Path.{◌≡◌, refl, sym, subst, ◌∙◌}
use mathlib.Core.Bool.{Bool, true, false}
use mathlib.Core.List.{List}
use Prim.Native.Nat.{ℕ, ◌+◌, ◌≤◌}
use native.Mathlib.Omega.{arith}
use lib.ListN.{length, drop}
use Rattle.std.specs.Prelude.{Option, Some, None}
use Rattle.message.specs.Message.{part}
use Rattle.message.specs.Fields as F
use Rattle.message.specs.Fields.{empty, field, field_line}
use Rattle.message.specs.Known.{known_of}
use Rattle.message.specs.declared.Known.{Known}
use Rattle.message.proofs.Rows.{Row, field_line_lem}
use Rattle.names.specs.Steps.{may_come}
use Rattle.fieldlines.specs.Steps.{line_of}
use Rattle.header.specs.Steps.{step_of}
use Rattle.fieldlines.specs.declared.Field.{Field}
use Rattle.fieldlines.specs.declared.Line.{Line}
use Rattle.header.specs.declared.Step.{Step}
use Rattle.header.proofs.Values.{as_field}

abbrev NameInside : ℕ → Option Line → Type 0
NameInside n (Some (Line.Field x next)) = x.name.start + x.name.len ≤ n
NameInside n _ = Unit {0}

named : (at n : ℕ) (l : F.Line) → Row at n l → NameInside n (line_of l)
named at n F.Line.malformed r = tt
named at n (empty next) r = tt
named at n (field x next) r = omega (arith, r.0, r.1)

-- the name of a line that is a field lies in the frame
pub name_inside : (f : List ℕ) (at : ℕ) (r : Option Line) → r ≡ line_of (field_line at (drop at f))
    → (x : Field) (next : ℕ) → r ≡ Some (Line.Field x next)
    → x.name.start + x.name.len ≤ length f
name_inside f at r e x next h =
    subst (NameInside (length f)) (sym e ∙ h) (named at (length f) (field_line at (drop at f)) (field_line_lem at f))

module _ (params : Bool) (n mask : ℕ) (f : List ℕ) where
  -- a field that may come
  pub record Comes (l : F.Line) (x : Field) (k : Known) (next : ℕ) : Type 0 where
    pub at_line : l ≡ field (as_field x) next
    pub with_name : k ≡ known_of (part f x.name)
    pub may : may_come params n mask k ≡ true

  -- a line that fails judgement 2
  abbrev pub Spoils : F.Line → Type 0
  Spoils F.Line.malformed = Unit {0}
  Spoils (empty b) = ⊥
  Spoils (field x next) = may_come params n mask (known_of (part f x.name)) ≡ false

  -- what a line is, by the step
  abbrev pub Steps : F.Line → Option Step → Type 0
  Steps l None = Spoils l
  Steps l (Some (Step.End b)) = l ≡ empty b
  Steps l (Some (Step.Field x k next)) = Comes l x k next

  pub steps : (l : F.Line) → Steps l (step_of params n mask f l)
  steps F.Line.malformed = tt
  steps (empty b) = refl
  steps (field x next) = go (may_come params n mask (known_of (part f x.name))) refl
    where
      go : (t : Bool) → may_come params n mask (known_of (part f x.name)) ≡ t
          → Steps (field x next) (elim t [
            | true ↦ Some (Step.Field (record { name = x.name; value = x.value }) (known_of (part f x.name)) next)
            | false ↦ None
          ])
      go true e = record { at_line = refl; with_name = refl; may = e }
      go false e = e
