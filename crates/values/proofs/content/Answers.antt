-- `values::content` meets its contract: the fields in the judgement's order.
-- Assumes nothing.
use mathlib.Core.Path.{ap, ◌∙◌}
use borrow.Author.Rules.{rules}
use Rattle.synth.specs.Judgement.{unless, ◌then◌}
use Rattle.synth.proofs.Theorems.ValuesJudgedAlike.{types_alike}
use Rattle.values.specs.Values.{typed_content}
use Rattle.values.proofs.content.Goals as goal

pub returns-in_default : goal.returns-in_default
unfolding unless ◌then◌
returns-in_default c = search rules

pub returns-in_default-2 : goal.returns-in_default-2
unfolding unless ◌then◌
returns-in_default-2 c = search rules

pub returns : goal.returns
unfolding unless ◌then◌
returns c =
    let a = c.args in
    rw (c.in-Some-Some.is-0, c.in-Some-Some.is-1, types_alike)
    (c.typed_content.ensures ∙ ap (λ t. typed_content a.m t a.body) c.part.ensures)
