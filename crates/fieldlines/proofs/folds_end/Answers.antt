-- `fieldlines::folds_end` meets its contract.
-- Assumes nothing.
use mathlib.Core.Path.{sym, ◌∙◌}
use Prim.Native.Nat.{◌+◌}
use native.Mathlib.Omega.{arith}
use Rattle.octets.specs.Octets.{is_value}
use Rattle.octets.proofs.Bits.{value_bit}
use Rattle.fieldlines.proofs.Ending.{fold_in, fold_over, values_over, values_done, folds_done}
use Rattle.fieldlines.proofs.folds_end.Goals as goal

pub loop-i-init : goal.loop-i-init
loop-i-init c =
    let a = c.args in
    let r = c.class_end-i.ensures in
    record {
      onward = r.0;
      inside = r.1 c.requires;
      runs = λ t. let e = r.2 t is_value value_bit in (values_over a.f.now a.at _ e, values_done a.f.now a.at _ e);
    }

pub loop-i-preserved : goal.loop-i-preserved
loop-i-preserved c =
    let f = c.args.f.now in
    let l = c.loop-i in
    let r = c.class_end-i-in-loop-i.ensures in
    let fold = sym c.goes_on.ensures ∙ c.loop-i-test.true in
    let room = fold_in f l.i fold in
    record {
      onward = omega (arith, r.0, l.invariant.onward);
      inside = r.1 (omega arith);
      runs = λ t. let e = r.2 t is_value value_bit in (
        (l.invariant.runs t).0 ∙ fold_over f l.i fold ∙ values_over f (l.i + 2) _ e,
        values_done f (l.i + 2) _ e,
      );
    }

pub returns : goal.returns
returns c =
    let f = c.args.f.now in
    let l = c.loop-i in
    let done = folds_done f l.i (sym c.goes_on.ensures ∙ c.loop-i-test.false) in (
      l.invariant.onward,
      l.invariant.inside,
      λ t. sym ((l.invariant.runs t).0 ∙ done (l.invariant.runs t).1),
    )
