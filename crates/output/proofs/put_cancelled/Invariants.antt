-- `output::put_cancelled` meets its contract. The invariant: the events so far are written from `at` to p. Assumes nothing.
use lib.ListN.{take}
use Rattle.writers.specs.Buffer.{Wrote}
use Rattle.answer.specs.declared.Kind.{Kind}
use Rattle.sizes.proofs.Events.{cancelled}
use Rattle.output.proofs.put_cancelled.Given as goal

abbrev pub invariant-loop-id : goal.invariant-loop-id
invariant-loop-id l = Wrote l.initial.out l.at (cancelled Kind.Recognizer l.name (take l.id-index l.ids)) l.out l.p
