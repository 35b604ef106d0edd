-- `writing::klarvesimo_write_event` meets its contract. Assumes nothing.
use native.Mathlib.Omega.{arith}
use Rattle.writing.proofs.Telling.{cause_refused, completed}
use Rattle.writing.proofs.klarvesimo_write_event.Goals as goal

pub returns-then-cause_count-cause : goal.returns-then-cause_count-cause
returns-then-cause_count-cause c =
    let a = c.args in
    cause_refused a.name.now a.written.now a.out.now a.id a.cause (omega arith)

pub returns : goal.returns
returns c =
    let a = c.args in
    let w = c.complete.ensures in
    completed a.name.now a.written.now a.out.now a.id a.cause (omega arith) _ _ _ w.value w.out_after c.tell.ensures
