-- `values::kill_of` meets its contract.
-- Assumes nothing.
use Prim.Native.Nat.{ℕ}
use mathlib.Core.Path.{◌≡◌, refl, sym, ap, ap₂, ◌∙◌}
use mathlib.Core.Bool.{Bool, true, false}
use Rattle.std.proofs.Common.{Option, Some, None}
use mathlib.Core.Option.{some}
use mathlib.Core.List.{List}
use Rattle.octets.specs.Octets.{bytes}
use Rattle.message.specs.Folds.{joined}
use Rattle.message.proofs.Theorems.JudgedAlike.{texts_alike}
use Rattle.values.specs.Values.{kill_of}
use Rattle.values.proofs.kill_of.Goals as goal

-- a flag says the same as it stands and as joined
kill_alike : (v : List ℕ) → kill_of true (some (joined v)) ≡ kill_of true (some v)
kill_alike v =
    ap₂ {C = Option Bool} (λ a b. elim a [ true ↦ Some true | false ↦ elim b [ true ↦ Some false | false ↦ None ] ])
    (texts_alike (bytes "true") refl v) (texts_alike (bytes "false") refl v)

pub returns : goal.returns
returns c =
    rw c.in-Some.is (c.flag.ensures ∙ ap (λ v. kill_of true (some v)) c.part.ensures ∙ sym (kill_alike _))
