-- `writers::width` meets its contract. Assumes nothing.
use native.Mathlib.Omega.{arith}
use Rattle.writers.proofs.Digits.{width_powers}
use Rattle.writers.proofs.width.Goals as goal

pub returns : goal.returns
returns c = omega (arith, width_powers c.args.n c.ilog10.result (omega arith) (omega arith))
