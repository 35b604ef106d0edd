-- `channelnumbers::push_edition` moves three editions and stores the new one in front of them. The invariant: i of
-- their numbers are moved. Assumes nothing.
use lib.ListN.{drop}
use Rattle.channelnumbers.specs.Steps.{Stored}
use Rattle.channelnumbers.proofs.push_edition.Given as goal

abbrev pub invariant-loop-i : goal.invariant-loop-i
invariant-loop-i l = Stored l.initial.ws 71 (drop 65 l.old) l.i l.ws
