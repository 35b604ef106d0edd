-- `writing::klarvesimo_write_response` meets its contract, by the laws of the file Telling. Assumes nothing.
use Rattle.writing.proofs.Telling.{tells}
use Rattle.writing.proofs.klarvesimo_write_response.Goals as goal

pub returns-in_default : goal.returns-in_default
returns-in_default c = rw c.in_default.ensures

pub returns : goal.returns
returns c =
    let w = c.respond.ensures in
    rw c.in-Some.ensures (tells _ c.args.written.now c.args.out.now _ _ _ w.value w.out_after c.tell.ensures)
