-- `octets::equal_by_four` meets its contract. Assumes nothing.
use mathlib.Core.Path.{sym, ◌∙◌}
use native.Mathlib.Omega.{arith}
use Rattle.octets.proofs.Packed.{packed_step}
use Rattle.octets.proofs.equal_by_four.Goals as goal

pub returns : goal.returns
returns c =
    let a = c.args in
    let e = sym c.half.ensures ∙ c.if-half.false ∙ c.half-2.ensures in
    c.equal_by_one-2.ensures
    ∙ sym (packed_step a.a.now a.b.now (λ i. omega (arith, c.type_inv.a i)) (λ i. omega (arith, c.type_inv.b i)) 4 a.at
    (omega arith) (omega arith) e)
