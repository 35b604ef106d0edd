-- `klarvesimo::klarvesimo_report` loads the channel, and concludes the call. Assumes nothing.
use mathlib.Core.Path.{sym, ap, ◌∙◌}
use Rattle.synth.specs.Calls.{report}
use Rattle.klarvesimo.specs.Face.{reported}
use Rattle.klarvesimo.proofs.klarvesimo_report.Goals as goal

pub returns : goal.returns
returns c =
    let a = c.args in
    let is = c.load-l.ensures in
    rw (c.tell.ensures ∙ sym c.conclude.ensures.told)
    (ap (reported a.written.now)
    (c.conclude.ensures.face _ is (report a.cause a.score) a.out.now _ (c.report-call.ensures is.editions is.fit)))
