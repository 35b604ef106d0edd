-- `output::tell` meets its contract. Assumes nothing.
use native.Mathlib.Omega.{arith}
use Rattle.sizes.specs.Steps.{telling_of}
use Rattle.output.proofs.Delivered.{fits, refused}
use Rattle.output.proofs.tell.Goals as goal

pub returns-then-out-size : goal.returns-then-out-size
returns-then-out-size c =
    let a = c.args in
    let both = refused (telling_of a.name.now a.a a.fields.now) a.out.now (omega arith) in record { value = both.0; out_after = both.1 }

pub returns : goal.returns
returns c = let both = fits c.put_telling-end.ensures in record { value = both.0; out_after = both.1 }
