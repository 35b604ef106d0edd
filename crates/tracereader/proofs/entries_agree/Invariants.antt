-- `tracereader::entries_agree` meets its contract. Assumes nothing.
use Prim.Native.Nat.{◌≤◌}
use mathlib.Core.Path.{◌≡◌}
use lib.ListN.{take, drop}
use Rattle.traces.specs.Traces.{frames_in}
use Rattle.tracereader.specs.Steps.{entries_agree, agrees_from}
use Rattle.tracereader.proofs.entries_agree.Given as goal

abbrev pub invariant-loop-k : goal.invariant-loop-k
invariant-loop-k l = (l.i ≤ l.index.begin)
    × (entries_agree l.f l.index.begin l.index.count
    ≡ agrees_from l.f l.index.begin l.index.count l.k l.i (frames_in (drop l.i (take l.index.begin l.f))))
