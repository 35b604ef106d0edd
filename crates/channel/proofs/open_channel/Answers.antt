-- `channel::open_channel` keeps a well-formed name, and an empty one where it is refused. Assumes nothing.
use mathlib.Core.Path.{sym, ◌∙◌}
use mathlib.Core.List.{[]}
use native.Mathlib.Omega.{arith}
use Rattle.channelnames.proofs.Fits.{name_fits_lem}
use Rattle.channel.proofs.Opening.{opens, refuses, opened_as}
use Rattle.channel.proofs.open_channel.Goals as goal

pub returns-then-well_named : goal.returns-then-well_named
returns-then-well_named c =
    let name = c.args.name.now in
    let yes = sym c.well_named.ensures ∙ c.if-well_named.true in
    let fits = name_fits_lem name yes in
    opened_as 0 name fits (c.kept.ensures.value fits) c.fresh.ensures (opens name yes)

pub returns-else-well_named : goal.returns-else-well_named
returns-else-well_named c =
    let name = c.args.name.now in
    let no = sym c.well_named.ensures ∙ c.if-well_named.false in
    opened_as 10 [] (omega arith) (c.kept-else-well_named.ensures.value (omega arith)) c.fresh-else-well_named.ensures (refuses name no)
