-- `writers::put_bytes` meets its contract. The invariant: the first k bytes of `src` are written from `at` on. Assumes nothing.
use Prim.Native.Nat.{◌+◌}
use lib.ListN.{take}
use Rattle.writers.specs.Buffer.{Wrote}
use Rattle.writers.proofs.put_bytes.Given as goal

abbrev pub invariant-loop-k : goal.invariant-loop-k
invariant-loop-k l = Wrote l.initial.out l.at (take l.k l.src) l.out (l.at + l.k)
