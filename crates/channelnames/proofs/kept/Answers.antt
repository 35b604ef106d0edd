-- `channelnames::kept` puts zeros after a name that fits. Assumes nothing.
use mathlib.Core.List.{List, ◌++◌}
use Prim.Native.Nat.{ℕ}
use mathlib.Core.Path.{ap}
use lib.ListN.{length}
use Rattle.std.proofs.lemmas.List.{drop-replicate}
use Rattle.channelnames.specs.declared.Name.{Name}
use Rattle.channelnames.proofs.kept.Goals as goal

pub returns-clause-value : goal.returns-clause-value
returns-clause-value c fits =
    let v = c.args.v.now in
    let behind : List ℕ → Name = λ l. record { bytes = v ++ l; size = length v } in
    rw c.copy_from_slice.ensures.after (ap behind (drop-replicate (length v) 44 0))
