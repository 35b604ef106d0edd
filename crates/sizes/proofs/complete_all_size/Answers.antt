-- `sizes::complete_all_size` meets its contract: nothing, or the first event and the others. Assumes nothing.
use mathlib.Core.Path.{ap}
use native.Mathlib.Omega.{arith}
use lib.ListN.{length}
use Rattle.answer.specs.declared.Kind.{Kind}
use Rattle.sizes.proofs.Events.{all_none, all_length}
use Rattle.sizes.proofs.complete_all_size.Goals as goal

pub returns-in_default : goal.returns-in_default
returns-in_default c =
    let a = c.args in
    omega (arith, ap length (all_none Kind.Recognizer a.name.now a.cause a.ids.now c.in_default.ensures.cases))

pub returns : goal.returns
returns c =
    grind (arith, all_length Kind.Recognizer c.args.name.now c.args.cause c.in-Some.ensures.cases.0)
