-- `told::put_field` meets its contract: four runs, one behind the other, or nothing. Assumes nothing.
use Prim.Native.Nat.{ℕ}
use native.Mathlib.Omega.{arith}
use mathlib.Core.List.{List}
use Rattle.writers.proofs.Put.{◌▸◌, wrote_none}
use Rattle.message.specs.Message.{Field}
use Rattle.answer.specs.Written.{field_text}
use Rattle.synth.specs.Settings.{setting_text}
use Rattle.told.proofs.Asked.{one_field, no_field}
use Rattle.told.proofs.put_field.Goals as goal

pub returns-then-not-asked : goal.returns-then-not-asked
returns-then-not-asked c =
    let a = c.args in
    let f : Field (List ℕ) = record { name = a.name.now; value = setting_text a.x } in
    (rw (← no_field c.if-not-asked.true f) (wrote_none a.out.now a.at (omega arith)), omega arith)

pub returns : goal.returns
unfolding field_text
returns c =
    let a = c.args in
    let f : Field (List ℕ) = record { name = a.name.now; value = setting_text a.x } in
    let w =
    c.put_bytes-p.ensures
    ▸ c.put_bytes-q.ensures
    ▸ c.put_value-r.ensures.0
    ▸ c.put_bytes.ensures in
    (rw (← one_field c.if-not-asked.false f) w, omega arith)
