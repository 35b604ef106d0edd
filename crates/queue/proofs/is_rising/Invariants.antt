-- `queue::is_rising` tests that ids rise. The loop's invariant: the ids from the next on, each from `from` on, decide for all of
-- them. Assumes nothing.
use mathlib.Core.Path.{◌≡◌}
use lib.ListN.{drop}
use Rattle.lists.specs.Lists.{ascends}
use Rattle.queue.proofs.Queues.{ids_in}
use Rattle.queue.proofs.is_rising.Given as goal

abbrev pub invariant-loop-n : goal.invariant-loop-n
invariant-loop-n l = ascends 0 (ids_in l.n-items) l.end ≡ ascends l.from (ids_in (drop l.n-index l.n-items)) l.end
