-- `digits::run_at` meets its contract. Assumes nothing.
use mathlib.Core.Path.{ap, ◌∙◌}
use native.Mathlib.Omega.{arith}
use lib.ListN.{drop, length-drop}
use Rattle.digits.specs.Steps.{digits_at}
use Rattle.std.proofs.lemmas.List.{drop-take}
use Rattle.digits.proofs.Scanning.{digits_front, digits_few}
use Rattle.digits.proofs.run_at.Goals as goal

pub returns-then-s-at-clause-digits : goal.returns-then-s-at-clause-digits
returns-then-s-at-clause-digits c =
    let a = c.args in
    let x = length-drop a.at a.s.now in
    c.run.ensures.digits ∙ digits_few a.most (drop a.at a.s.now) a.most (omega arith) (omega arith)

pub returns-else-s-at-clause-digits : goal.returns-else-s-at-clause-digits
returns-else-s-at-clause-digits c =
    let a = c.args in
    c.run-else-s-at.ensures.digits ∙ ap (digits_at 19) (drop-take a.at a.most a.s.now)
    ∙ digits_front a.most (drop a.at a.s.now) a.most (omega arith)
