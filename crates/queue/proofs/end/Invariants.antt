-- `queue::end` deals the entries out by their bits. The loop's invariant: those kept, and what is to be kept from place i on, are
-- all that remain; the same of the ids listed. Assumes nothing.
use Prim.Native.Nat.{◌≤◌}
use mathlib.Core.Path.{◌≡◌}
use mathlib.Core.Bool.{true, false}
use mathlib.Core.List.{List, ◌++◌}
use lib.ListN.{length, take, drop}
use Rattle.synth.specs.Channel.{ids as ids_of}
use Rattle.synth.specs.declared.Entry.{Entry}
use Rattle.queue.specs.Queue.{entries_of, marked}
use Rattle.queue.proofs.end.Given as goal

abbrev pub invariant-loop-i : goal.invariant-loop-i
invariant-loop-i l = let queue : List Entry = take l.count (entries_of l.old l.levels) in record {
  room : l.left ≤ l.i;
  listed : l.gone ≤ l.i;
  long : length l.numbers ≡ 16;
  as_many : length l.thresholds ≡ 16;
  places : length l.ids ≡ 16;
  kept : marked false l.mask 0 queue ≡ take l.left (entries_of l.numbers l.thresholds) ++ marked false l.mask l.i (drop l.i queue);
  ended : ids_of (marked true l.mask 0 queue) ≡ take l.gone l.ids ++ ids_of (marked true l.mask l.i (drop l.i queue));
}
