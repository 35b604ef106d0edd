-- `klarvesimo::klarvesimo_back` loads the channel, and concludes the call. Assumes nothing.
use mathlib.Core.Path.{ap}
use mathlib.Core.List.{[]}
use Rattle.synth.specs.Calls.{back}
use Rattle.klarvesimo.specs.Face.{gone, back_face}
use Rattle.klarvesimo.proofs.Calling.{back_promised}
use Rattle.klarvesimo.proofs.klarvesimo_back.Goals as goal

pub returns : goal.returns
unfolding back_face
returns c =
    let a = c.args in
    let is = c.load-l.ensures in
    let found = rw c.kind_by.ensures at c.edition_at-found.ensures in
    ap gone (c.conclude.ensures.face _ is (back a.number) [] [] (back_promised a.channel.now a.number _ is _ found c.go_back.ensures))
