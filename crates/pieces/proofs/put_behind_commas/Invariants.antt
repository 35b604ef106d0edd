-- `pieces::put_behind_commas` meets its contract. The invariant: the ids so far are written from `at` to p. Assumes nothing.
use lib.ListN.{take}
use Rattle.writers.specs.Buffer.{Wrote}
use Rattle.answer.specs.IdList.{behind_commas}
use Rattle.pieces.proofs.put_behind_commas.Given as goal

abbrev pub invariant-loop-id : goal.invariant-loop-id
invariant-loop-id l = Wrote l.initial.out l.at (behind_commas (take l.id-index l.ids)) l.out l.p
