-- `klarvesimo::conclude` saves what a handled call left. Assumes nothing.
use mathlib.Core.Path.{ap, subst, ◌∙◌}
use Rattle.calls.specs.Promise.{Promise}
use Rattle.klarvesimo.specs.Steps.{told_of}
use Rattle.klarvesimo.proofs.Calling.{answered, refused}
use Rattle.klarvesimo.proofs.conclude.Goals as goal

pub returns-in-Ok-clause-face : goal.returns-in-Ok-clause-face
returns-in-Ok-clause-face c = λ l is lent out after p.
    let q = subst (λ r. Promise l.last l.channel is.editions lent out r after) c.in-Ok.is p in
    rw (c.tell-told.ensures ∙ ap told_of c.in-Ok.is)
    (answered c.args.channel.now out lent l is after _ q c.save_after.ensures)

pub returns-in-Err-clause-face : goal.returns-in-Err-clause-face
returns-in-Err-clause-face c = λ l is lent out after p.
    let q = subst (λ r. Promise l.last l.channel is.editions lent out r after) c.in-Err.is p in
    rw (c.tell-told.ensures ∙ ap told_of c.in-Err.is) (refused c.args.channel.now out lent l is after _ q)
