-- `queue::list_held` lists the id of every entry that is counted. The loop's invariant: the first i are those of the first i
-- entries. Assumes nothing.
use mathlib.Core.Path.{◌≡◌}
use lib.ListN.{length, take}
use Rattle.queue.proofs.Queues.{ids_in}
use Rattle.queue.proofs.list_held.Given as goal

abbrev pub invariant-loop-i : goal.invariant-loop-i
invariant-loop-i l = record {
  long : length l.ids ≡ 16;
  listed : take l.i l.ids ≡ ids_in (take l.i l.numbers);
}
