-- `channelnumbers::save_name` meets its contract. The invariant: i bytes stand in their places. Assumes nothing.
use Rattle.channelnumbers.specs.Steps.{Stored}
use Rattle.channelnumbers.proofs.save_name.Given as goal

abbrev pub invariant-loop-i : goal.invariant-loop-i
invariant-loop-i l = Stored l.initial.ws 20 l.bytes l.i l.ws
