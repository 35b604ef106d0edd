-- `told::put_recognizer` meets its contract: three fields, one behind the other. Assumes nothing.
use Rattle.writers.proofs.Put.{◌▸◌}
use Rattle.told.proofs.Asked.{of_recognizer}
use Rattle.told.proofs.put_recognizer.Goals as goal

pub returns : goal.returns
returns c =
    let a = c.args in
    rw (← of_recognizer a.e a.asked)
    (c.put_field-p.ensures.0
    ▸ c.put_field-q.ensures.0
    ▸ c.put_field.ensures.0)
