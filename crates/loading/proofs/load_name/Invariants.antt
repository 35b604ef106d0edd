-- `loading::load_name` meets its contract. The invariant: the bits of i numbers are gathered, and i bytes are loaded.
-- Assumes nothing.
use mathlib.Core.Path.{◌≡◌}
use lib.ListN.{length}
use Rattle.loading.proofs.Loading.{Gathered}
use Rattle.loading.proofs.load_name.Given as goal

abbrev pub invariant-loop-i : goal.invariant-loop-i
invariant-loop-i l = record {
  long : length l.bytes ≡ 44;
  gathered : Gathered 8 (λ n. n) 20 l.ws l.bytes l.bits l.i;
}
