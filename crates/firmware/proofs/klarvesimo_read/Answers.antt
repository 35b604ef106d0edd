-- `firmware::klarvesimo_read` meets its contract. Assumes nothing.
use mathlib.Core.Path.{sym, ap, ◌∙◌}
use Rattle.firmware.specs.Face.{called}
use Rattle.firmware.proofs.Faces.{size, set_again, read_refused, read_whole}
use Rattle.firmware.proofs.klarvesimo_read.Goals as goal
use Rattle.firmware.proofs.klarvesimo_read.Goals.{in-Ok, in-Err}

pub slice_bounds-read_frame-end : goal.slice_bounds-read_frame-end
slice_bounds-read_frame-end c = let a = c.args in sym (size a.s.now a.out.now c.in-Ok.frame (sym c.frame.ensures ∙ c.in-Ok.is))

pub returns : goal.returns
returns c =
    let a = c.args in
    elim c.match-frame.branch [
      | in-Ok w ↦
          rw (w.read-is, w.out-is, set_again a.consumed.now 0 w.read_frame-read.result.consumed)
          (ap (called a.consumed.now) (w.read_frame-read.ensures ∙ read_whole a.s.now a.out.now w.in-Ok.frame (sym c.frame.ensures ∙ w.in-Ok.is)))
      | in-Err w ↦
          rw (w.read-is, w.out-is, w.number.ensures, set_again a.consumed.now 0 0)
          (ap (called a.consumed.now) (read_refused a.s.now a.out.now w.in-Err.why (sym c.frame.ensures ∙ w.in-Err.is)))
    ]
