-- `firmware::klarvesimo_frame` meets its contract. Assumes nothing.
use mathlib.Core.Path.{sym, ap, ◌∙◌}
use Rattle.firmware.specs.Face.{framed, frame_face}
use Rattle.firmware.proofs.klarvesimo_frame.Goals as goal

pub returns-in-Ok : goal.returns-in-Ok
unfolding frame_face
returns-in-Ok c = c.hand_over_frame.ensures ∙ ap (λ x. framed x c.args.out.now) (sym c.in-Ok.is ∙ c.frame.ensures)

pub returns-in-Err : goal.returns-in-Err
unfolding frame_face
returns-in-Err c = rw c.number.ensures (ap (λ x. framed x c.args.out.now) (sym c.in-Err.is ∙ c.frame.ensures))
