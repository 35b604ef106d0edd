-- `channelnumbers::save_thresholds` meets its contract. The invariant: i thresholds stand in their places. Assumes nothing.
use mathlib.Core.List.{map}
use Rattle.queue.specs.Queue.{level_in}
use Rattle.channelnumbers.specs.Steps.{Stored}
use Rattle.channelnumbers.proofs.save_thresholds.Given as goal

abbrev pub invariant-loop-i : goal.invariant-loop-i
invariant-loop-i l = Stored l.initial.ws 12 (map level_in l.thresholds) l.i l.ws
