-- `klarvesimo::klarvesimo_handle` loads the channel, and concludes the call. Assumes nothing.
use mathlib.Core.Path.{sym, ap, ◌∙◌}
use Rattle.synth.specs.Calls.{input}
use Rattle.klarvesimo.specs.Face.{counted}
use Rattle.klarvesimo.proofs.klarvesimo_handle.Goals as goal

pub returns : goal.returns
returns c =
    let a = c.args in
    let is = c.load-l.ensures in
    rw (c.tell-told.ensures ∙ sym c.conclude.ensures.told)
    (ap (counted a.counts.now)
    (c.conclude.ensures.face _ is (input a.s.now) a.out.now _ (c.handle-call.ensures is.editions is.set is.fit)))
