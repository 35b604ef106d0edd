-- `writers::put_three` meets its contract. Assumes nothing.
use Rattle.writers.specs.Decimal.{three_digits}
use Rattle.writers.proofs.put_three.Goals as goal

pub returns : goal.returns
unfolding three_digits
returns c = c.put_bytes.ensures
