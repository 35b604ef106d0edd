-- `values::threshold_of` meets its contract.
-- Assumes nothing.
use mathlib.Core.Path.{ap, ◌∙◌}
use Rattle.synth.specs.Levels.{level_in}
use Rattle.synth.proofs.Theorems.ValuesJudgedAlike.{level_alike}
use Rattle.values.specs.Values.{millionths_in}
use Rattle.values.proofs.threshold_of.Goals as goal

pub returns : goal.returns
returns c =
    rw (c.in-Some.is, level_alike)
    (c.millionths.ensures ∙ ap (λ v. millionths_in (level_in v)) c.part.ensures)
