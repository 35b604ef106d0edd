-- `levels::single` divides once.
-- Assumes nothing.
use borrow.Author.Rules.{rules}
use Rattle.synth.specs.Levels.{quotient}
use Rattle.levels.proofs.single.Goals as goal

pub returns : goal.returns
unfolding quotient
returns c = search rules
