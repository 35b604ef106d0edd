-- `loading::editions_kept` meets its contract. The invariant: i editions can be kept. Assumes nothing.
use Prim.Native.Nat.{ℕ, ◌+◌, ◌*◌, ◌<◌}
use mathlib.Core.Path.{◌≡◌}
use mathlib.Core.Bool.{true}
use Rattle.synth.specs.Settings.{settings}
use Rattle.channelnumbers.specs.Numbers.{edition_from}
use Rattle.loading.specs.Steps.{edition_kept}
use Rattle.loading.proofs.editions_kept.Given as goal

abbrev pub invariant-loop-i : goal.invariant-loop-i
invariant-loop-i l = (k : ℕ) → k < l.i → edition_kept l.kind (edition_from (settings l.kind) (65 + k * 6) l.ws) ≡ true
