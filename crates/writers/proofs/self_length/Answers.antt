-- `writers::self_length` meets its contract. Assumes nothing.
use Rattle.writers.proofs.SelfLength.{counted_twice}
use Rattle.writers.proofs.self_length.Goals as goal

pub returns : goal.returns
returns c = counted_twice c.min-b.ensures c.width.ensures.0 c.width-2.ensures.0
