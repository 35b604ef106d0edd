-- `queue::is_empty` looks at the count. Assumes nothing.
use Rattle.queue.proofs.Queues.{empty_is}
use Rattle.queue.proofs.is_empty.Goals as goal

pub returns : goal.returns
returns c = rw (empty_is c.args.q _ c.well_formed.0)
