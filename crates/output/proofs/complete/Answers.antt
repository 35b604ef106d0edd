-- `output::complete` meets its contract. Assumes nothing.
use native.Mathlib.Omega.{arith}
use Rattle.answer.specs.Written.{written}
use Rattle.answer.specs.Answers as A
use Rattle.output.proofs.Delivered.{fits, refused}
use Rattle.output.proofs.complete.Goals as goal

pub returns-then-out-size : goal.returns-then-out-size
returns-then-out-size c =
    let a = c.args in
    let both = refused (written (A.complete a.kind a.name.now a.id a.cause)) a.out.now (omega arith) in record { value = both.0; out_after = both.1 }

pub returns : goal.returns
returns c = let both = fits c.put_complete.ensures in record { value = both.0; out_after = both.1 }
