-- `told::put_synthesizer` meets its contract: two fields, one behind the other. Assumes nothing.
use Rattle.writers.proofs.Put.{◌▸◌}
use Rattle.told.proofs.Asked.{of_synthesizer}
use Rattle.told.proofs.put_synthesizer.Goals as goal

pub returns : goal.returns
returns c =
    let a = c.args in
    rw (← of_synthesizer a.e a.asked)
    (c.put_field-p.ensures.0
    ▸ c.put_field.ensures.0)
