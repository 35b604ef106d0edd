-- `sizes::cancelled_size` meets its contract. The invariant: n is the size of the events so far, and at most cap. Assumes nothing.
use mathlib.Core.Path.{◌≡◌}
use Prim.Native.Nat.{◌≤◌}
use lib.ListN.{length, take}
use Rattle.answer.specs.declared.Kind.{Kind}
use Rattle.sizes.proofs.Events.{cancelled}
use Rattle.sizes.proofs.cancelled_size.Given as goal

abbrev pub invariant-loop-id : goal.invariant-loop-id
invariant-loop-id l = (l.n ≡ length (cancelled Kind.Recognizer l.name (take l.id-index l.ids))) × (l.n ≤ length l.out)
