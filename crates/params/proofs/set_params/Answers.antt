-- `params::set_params` sets all, or none. Assumes nothing.
use mathlib.Core.Path.{sym, ◌∙◌, refl}
use Rattle.synth.specs.declared.Method.{Method}
use Rattle.outcomes.specs.Outcomes.{asked}
use Rattle.outcomes.proofs.Making.{makes_failed}
use Rattle.params.proofs.Coming.{plainly, set_illegal, set_legal}
use Rattle.params.proofs.set_params.Goals as goal

pub returns-in_default : goal.returns-in_default
returns-in_default c = λ v of now major minor fs (told, stand).
    let a = c.args in
    let to = c.change.ensures major minor a.id fs told stand in
    plainly c.plain.ensures
    (makes_failed v (asked major minor Method.SetParams a.id fs) a.state a.q 404
    refl c.failed.ensures
    (set_illegal v a.state a.q a.kind of major minor a.id fs stand a.set now
    (sym c.in_default.is ∙ to)))

pub returns : goal.returns
returns c = λ v of now major minor fs (told, stand).
    let a = c.args in
    let to = c.change.ensures major minor a.id fs told stand in
    set_legal v a.state a.q a.kind of major minor a.id fs stand a.set now
    (sym c.in-Some.is ∙ to)
    c.list_none.ensures c.succeeded.ensures
