-- `fieldlines::folded` meets its contract.
-- Assumes nothing.
use mathlib.Core.Path.{sym, ap, ◌∙◌}
use Prim.Native.Nat.{◌+◌}
use native.Mathlib.Omega.{arith}
use lib.ListN.{length-take}
use Rattle.std.specs.Prelude.{Some}
use Rattle.octets.specs.Octets.{is_gap}
use Rattle.octets.proofs.Bits.{gap_bit}
use Rattle.fieldlines.specs.Steps.{line_of, field_to}
use Rattle.fieldlines.specs.declared.Field.{Field}
use Rattle.fieldlines.specs.declared.Line.{Line}
use Rattle.fieldlines.proofs.Lining.{field_done}
use Rattle.fieldlines.proofs.folded.Goals as goal

pub returns : goal.returns
returns c t =
    let a = c.args in
    let f = a.f.now in
    let next = c.folds_end-next in
    let v = c.class_end_by_one-v in
    ap (λ (x : Field). Some (Line.Field x (next.result + 2))) (c.placed.ensures t)
    ∙ field_done f a.at a.n next.result (sym c.ends.ensures ∙ c.if-not-ends.false) (omega (arith, next.ensures.0))
    v.result (v.ensures.2 t is_gap gap_bit)
    (omega (arith, v.ensures.1, next.ensures.0, next.ensures.1, length-take next.result f))
    ∙ ap (λ e. line_of (field_to f a.at a.n e)) (next.ensures.2 t)
