-- `whose::has_line` meets its contract. The loop's invariant: a CRLF stands from the start on exactly if one stands
-- from here on. Assumes nothing.
use mathlib.Core.Path.{◌≡◌}
use lib.ListN.{drop}
use Rattle.whose.specs.Steps.{has_line}
use Rattle.whose.proofs.has_line.Given as goal

abbrev pub invariant-loop-i : goal.invariant-loop-i
invariant-loop-i l = has_line (drop l.at l.s) ≡ has_line (drop l.i l.s)
