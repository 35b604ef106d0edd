-- `channelnumbers::tidy_editions` tidies each edition, then stores zeros. The invariant: i editions are tidied. Assumes nothing.
use Prim.Native.Nat.{◌*◌}
use mathlib.Core.Path.{◌≡◌}
use mathlib.Core.Option.{some}
use mathlib.Core.List.{List}
use Rattle.synth.specs.declared.Edition.{Edition}
use Rattle.channelnumbers.specs.Steps.{Stored}
use Rattle.channelnumbers.specs.Numbers.{editions_numbers, editions_from}
use Rattle.channelnumbers.proofs.tidy_editions.Given as goal

abbrev pub invariant-loop-i : goal.invariant-loop-i
invariant-loop-i l = (es : List Edition) → editions_from l.kind 65 l.count l.initial.ws ≡ some es → Stored l.initial.ws 65 (editions_numbers l.kind es) (l.i * 6) l.ws
