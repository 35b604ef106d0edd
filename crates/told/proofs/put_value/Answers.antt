-- `told::put_value` meets its contract: each arm is told which setting it has. Assumes nothing.
use native.Mathlib.Omega.{arith}
use Rattle.writers.proofs.Digits.{width_64}
use Rattle.writers.proofs.Put.{wrote_none}
use Rattle.told.proofs.put_value.Goals as goal

pub put_digits-requires : goal.put_digits-requires
put_digits-requires c = omega (arith, width_64 c.in-Millis.n (omega arith))

pub returns-in-Unset : goal.returns-in-Unset
returns-in-Unset c =
    let a = c.args in
    rw c.in-Unset.is (wrote_none a.out.now a.at (omega arith), omega arith)

pub returns-in-Millis : goal.returns-in-Millis
returns-in-Millis c = rw c.in-Millis.is (c.put_digits.ensures, omega (arith, width_64 c.in-Millis.n (omega arith)))
