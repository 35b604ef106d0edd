-- `startwords::text` meets its contract. Assumes nothing.
use mathlib.Core.Path.{sym, ◌∙◌}
use native.Mathlib.Omega.{arith}
use borrow.Author.Tests.{lt-leb}
use Rattle.startwords.proofs.Positions.{begins_same, begins_short}
use Rattle.startwords.proofs.text.Goals as goal

pub returns-then-t-rest-clause-value : goal.returns-then-t-rest-clause-value
returns-then-t-rest-clause-value c = let a = c.args in c.equal.ensures ∙ sym (begins_same a.t.now a.rest.now (omega arith))

pub returns-else-t-rest-clause-value : goal.returns-else-t-rest-clause-value
returns-else-t-rest-clause-value c =
    let a = c.args in
    lt-leb _ _ (omega arith) ∙ sym (begins_short a.t.now a.rest.now (omega arith))
