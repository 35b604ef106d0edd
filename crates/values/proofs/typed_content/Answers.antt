-- `values::typed_content` meets its contract: the tests in the judgement's order.
-- Assumes nothing.
use borrow.Author.Rules.{rules}
use Rattle.synth.specs.Judgement.{unless, ◌then◌}
use Rattle.values.proofs.typed_content.Goals as goal

pub returns-then-body-eq0 : goal.returns-then-body-eq0
unfolding unless ◌then◌
returns-then-body-eq0 c = search rules

pub returns-then-not-is_type_of : goal.returns-then-not-is_type_of
unfolding unless ◌then◌
returns-then-not-is_type_of c = search rules

pub returns : goal.returns
unfolding unless ◌then◌
returns c = search rules
