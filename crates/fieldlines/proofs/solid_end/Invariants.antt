-- `fieldlines::solid_end` meets its contract. The loop's invariant: what is left of the text has the same bytes without
-- the gaps at its end.
-- Assumes nothing.
use mathlib.Core.Path.{◌≡◌}
use Rattle.octets.specs.Octets.{classes}
use Rattle.message.specs.Fields.{trim_end}
use Rattle.fieldlines.proofs.Runs.{text}
use Rattle.fieldlines.proofs.solid_end.Given as goal

abbrev pub invariant-loop-e : goal.invariant-loop-e
invariant-loop-e l = l.class ≡ classes → trim_end (text l.f l.at l.end) ≡ trim_end (text l.f l.at l.e)
