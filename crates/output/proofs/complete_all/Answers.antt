-- `output::complete_all` meets its contract: too long, nothing, or the first event and the others. Assumes nothing.
use native.Mathlib.Omega.{arith}
use Rattle.writers.proofs.Put.{◌▸◌, wrote_none}
use Rattle.answer.specs.Written.{written_all}
use Rattle.answer.specs.Answers.{completes}
use Rattle.answer.specs.declared.Kind.{Kind}
use Rattle.sizes.proofs.Events.{all_none, all_some, all_length}
use Rattle.output.proofs.Delivered.{fits, refused}
use Rattle.output.proofs.complete_all.Goals as goal

pub returns-then-out-all : goal.returns-then-out-all
returns-then-out-all c =
    let a = c.args in
    let both = refused (written_all (completes Kind.Recognizer a.name.now a.ids.now a.cause)) a.out.now (omega arith) in record { value = both.0; out_after = both.1 }

pub returns-in_default : goal.returns-in_default
returns-in_default c =
    let a = c.args in
    let none = all_none Kind.Recognizer a.name.now a.cause a.ids.now c.in_default.ensures.cases in
    let both = fits (wrote_none a.out.now 0 (omega arith)) in
    record { value = rw none both.0; out_after = rw none both.1 }

pub put_complete-p-requires : goal.put_complete-p-requires
put_complete-p-requires c =
    let all = all_length Kind.Recognizer c.args.name.now c.args.cause c.in-Some.ensures.cases.0 in
    record { size_value = omega arith; size_in_bounds = omega arith }

pub put_cancelled-requires : goal.put_cancelled-requires
put_cancelled-requires c = omega (arith, all_length Kind.Recognizer c.args.name.now c.args.cause c.in-Some.ensures.cases.0)

pub returns : goal.returns
returns c =
    let a = c.args in
    let both = fits
    (rw (← all_some Kind.Recognizer a.name.now a.cause c.in-Some.ensures.cases.0)
    (c.put_complete-p.ensures ▸ c.put_cancelled.ensures)) in record { value = both.0; out_after = both.1 }
