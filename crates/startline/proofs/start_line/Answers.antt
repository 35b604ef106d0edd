-- `startline::start_line` meets its contract: the first byte decides which kind the line can be. Assumes nothing.
use mathlib.Core.Path.{sym, ◌∙◌}
use native.Mathlib.Omega.{arith}
use lib.ListN.{drop_of_length-le}
use Rattle.readers.proofs.Positions.{here}
use Rattle.startline.proofs.FirstWord.{start_none, start_response, start_named}
use Rattle.startline.proofs.start_line.Goals as goal

pub returns-then-f-k : goal.returns-then-f-k
returns-then-f-k c =
    let a = c.args in
    sym (start_none a.k a.f.now (drop_of_length-le a.f.now {i = a.k} (omega arith)))

pub returns-then-is_digit : goal.returns-then-is_digit
returns-then-is_digit c =
    let a = c.args in
    c.response.ensures ∙ sym (start_response a.k a.f.now _ _ (here a.f.now a.k (omega arith)) (sym c.is_digit.ensures ∙ c.if-is_digit.true))

pub returns-else-is_digit : goal.returns-else-is_digit
returns-else-is_digit c =
    let a = c.args in
    c.named.ensures ∙ sym (start_named a.k a.f.now _ _ (here a.f.now a.k (omega arith)) (sym c.is_digit.ensures ∙ c.if-is_digit.false))
