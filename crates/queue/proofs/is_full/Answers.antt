-- `queue::is_full` compares the count with the kind's most. Assumes nothing.
use Rattle.queue.proofs.Queues.{count_is}
use Rattle.queue.proofs.is_full.Goals as goal

pub returns : goal.returns
returns c = rw (count_is c.args.q _ c.well_formed.1.0, c.most.ensures.0)
