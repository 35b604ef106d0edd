-- `channelnumbers::save_queue` meets its contract. The invariant: i entries stand in their places. Assumes nothing.
use mathlib.Core.List.{map}
use Rattle.channelnumbers.specs.Steps.{Stored, stored}
use Rattle.channelnumbers.proofs.save_queue.Given as goal

abbrev pub invariant-loop-i : goal.invariant-loop-i
invariant-loop-i l = Stored l.initial.ws 4 (map stored l.numbers) l.i l.ws
