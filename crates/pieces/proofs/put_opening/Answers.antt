-- `pieces::put_opening` meets its contract: three runs, one behind the other. Assumes nothing.
use Rattle.writers.proofs.Put.{◌▸◌}
use Rattle.pieces.specs.Steps.{opening_text}
use Rattle.pieces.proofs.put_opening.Goals as goal

pub returns : goal.returns
unfolding opening_text
returns c = c.put_bytes-a.ensures
    ▸ c.put_digits-b.ensures
    ▸ c.put_bytes.ensures
