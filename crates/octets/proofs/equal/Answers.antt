-- `octets::equal` meets its contract. The loop's invariant: the texts are of one length, and what is left of them
-- decides. Assumes nothing.
use mathlib.Core.Path.{sym, ◌∙◌}
use native.Mathlib.Omega.{arith}
use Rattle.octets.proofs.Texts.{same_lengths}
use Rattle.octets.proofs.Packed.{packed_stop, packed_step}
use Rattle.octets.proofs.equal.Goals as goal

pub returns-then-a-b : goal.returns-then-a-b
returns-then-a-b c = let a = c.args in sym (same_lengths a.a.now a.b.now c.if-a-b.true)

pub returns-then-word : goal.returns-then-word
returns-then-word c = let a = c.args in
    let l = c.loop-i in
    sym (l.invariant.2 ∙ packed_stop a.a.now a.b.now 8 l.i
    (λ e. c.if-word.true (c.word.ensures ∙ e ∙ sym c.word-in-loop-i.ensures)))

pub loop-i-preserved : goal.loop-i-preserved
loop-i-preserved c = let a = c.args in
    let l = c.loop-i in
    let e = sym c.word.ensures ∙ c.if-word.false ∙ c.word-in-loop-i.ensures in (
      omega arith,
      l.invariant.1,
      l.invariant.2
          ∙ packed_step a.a.now a.b.now (λ i. omega (arith, c.type_inv.a i)) (λ i. omega (arith, c.type_inv.b i)) 8 l.i
          (omega arith) (omega arith) e,
    )
