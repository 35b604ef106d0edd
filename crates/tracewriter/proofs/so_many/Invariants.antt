-- `tracewriter::so_many` meets its contract. Assumes nothing.
use Rattle.std.proofs.Common.{◌≡◌, ◌-◌}
use Rattle.traces.specs.Traces.{frames_in, so_many}
use Rattle.tracewriter.proofs.so_many.Given as goal

abbrev pub invariant-loop : goal.invariant-loop
invariant-loop l = so_many l.count (frames_in l.s) ≡ so_many (l.count - l.counter) (frames_in l.rest)
