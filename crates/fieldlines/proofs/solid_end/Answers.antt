-- `fieldlines::solid_end` meets its contract.
-- Assumes nothing.
use mathlib.Core.Path.{sym, ap, ◌∙◌}
use native.Mathlib.Omega.{arith}
use lib.ListN.{length}
use Rattle.octets.specs.Octets.{is_gap}
use Rattle.octets.proofs.Bits.{gap_bit}
use Rattle.fieldlines.proofs.Runs.{solid_less, solid_stop}
use Rattle.fieldlines.proofs.solid_end.Goals as goal

pub returns-then-not-is_of : goal.returns-then-not-is_of
returns-then-not-is_of c =
    let a = c.args in
    let e = c.loop-e.e in (
      omega arith,
      λ t. let stop = solid_stop a.f.now a.at e (omega arith) (omega arith)
          (sym (c.is_of.ensures t is_gap gap_bit) ∙ c.if-not-is_of.true) in
          omega (arith, stop, ap length (c.loop-e.invariant t)),
    )

pub loop-e-preserved : goal.loop-e-preserved
loop-e-preserved c = λ t.
    let a = c.args in
    c.loop-e.invariant t ∙ solid_less a.f.now a.at c.loop-e.e (omega arith) (omega arith)
    (sym (c.is_of.ensures t is_gap gap_bit) ∙ c.if-not-is_of.false)
