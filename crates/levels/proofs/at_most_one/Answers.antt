-- `levels::at_most_one` meets its contract.
-- Assumes nothing.
use borrow.Author.Rules.{rules}
use Rattle.synth.specs.Levels.{quotient}
use Rattle.levels.proofs.at_most_one.Goals as goal

pub returns : goal.returns
unfolding quotient
returns c = search rules
