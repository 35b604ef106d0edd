-- `tracewriter::can_be_left` meets its contract. Assumes nothing.
use Rattle.tracewriter.proofs.Counting.{left_nothing}
use Rattle.tracewriter.proofs.can_be_left.Goals as goal

pub returns-then-used-eq0 : goal.returns-then-used-eq0
returns-then-used-eq0 c = let a = c.args in left_nothing a.out.now a.used a.count c.if-used-eq0.true
