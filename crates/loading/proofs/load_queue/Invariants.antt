-- `loading::load_queue` meets its contract. The invariant of each loop: the bits of i numbers are gathered, and i of
-- what they say are loaded. Assumes nothing.
use mathlib.Core.Path.{◌≡◌}
use lib.ListN.{length, replicate}
use Rattle.loading.proofs.Loading.{Gathered, Leveled}
use Rattle.loading.proofs.load_queue.Given as goal

abbrev pub invariant-loop-i : goal.invariant-loop-i
invariant-loop-i l = record {
  long : length l.numbers ≡ 16;
  gathered : Gathered 33 (λ n. n) 4 l.ws l.numbers l.bits l.i;
}

abbrev pub invariant-loop-j : goal.invariant-loop-j
invariant-loop-j l = record {
  long : length l.thresholds ≡ 16;
  none : l.j ≡ 0 → l.thresholds ≡ replicate 16 0;
  leveled : Leveled l.initial.all_fit l.ws l.thresholds l.all_fit l.j;
}
