-- `queue::without_active` moves all entries but the first one place to the front. The loop's invariant: i of them are moved.
-- Assumes nothing.
use mathlib.Core.Path.{◌≡◌}
use lib.ListN.{length}
use Rattle.queue.specs.Queue.{entries_of}
use Rattle.queue.proofs.Shifts.{Moved}
use Rattle.queue.proofs.without_active.Given as goal

abbrev pub invariant-loop-i : goal.invariant-loop-i
invariant-loop-i l = record {
  long : length l.numbers ≡ 16;
  as_many : length l.thresholds ≡ 16;
  moved : Moved (entries_of l.old l.levels) l.i (entries_of l.numbers l.thresholds);
}
