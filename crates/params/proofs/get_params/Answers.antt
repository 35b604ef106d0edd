-- `params::get_params` tells what is asked for. Assumes nothing.
use mathlib.Core.Path.{◌∙◌}
use Rattle.params.proofs.Asking.{told_named}
use Rattle.params.proofs.Coming.{get_told}
use Rattle.params.proofs.get_params.Goals as goal

pub returns : goal.returns
returns c = λ set f v of now major minor fs (told, stand).
    let a = c.args in
    get_told v a.state a.q a.kind of major minor a.id fs stand
    (c.asked_by.ensures ∙ told_named f a.h fs told a.kind)
    c.list_none.ensures c.succeeded.ensures
