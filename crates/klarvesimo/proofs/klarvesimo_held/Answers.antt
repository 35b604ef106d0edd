-- `klarvesimo::klarvesimo_held` tells what `list` listed. Assumes nothing.
use mathlib.Core.Path.{◌≡◌, ap, subst}
use Rattle.klarvesimo.specs.Face.{listing, listed, held_face}
use Rattle.klarvesimo.proofs.Holding.{count_again}
use Rattle.klarvesimo.proofs.klarvesimo_held.Goals as goal

pub returns-in-Ok : goal.returns-in-Ok
returns-in-Ok c =
    let a = c.args in
    rw (count_again a.count.now c.in-Ok.held)
    (ap (listed a.count.now)
    (subst (λ r. listing r c.list.new.ids ≡ held_face a.channel.now a.ids.now) c.in-Ok.is c.list.ensures))
