-- `tracereader::entries_agree` meets its contract. Assumes nothing.
use Rattle.std.proofs.Common.{arith, sym, ap, ◌∙◌}
use Rattle.std.proofs.lemmas.Grind.{common_steps}
use Rattle.std.proofs.lemmas.Slice.{between_is}
use Rattle.framing.specs.Framing.{framing}
use Rattle.tracereader.proofs.Indexing.{ended, left_start, left_end, left_over, left_other, left_unframed}
use Rattle.tracereader.proofs.Indexing.{left_within, left_on}
use Rattle.tracereader.proofs.entries_agree.Goals as goal

pub loop-k-init : goal.loop-k-init
loop-k-init c = grind (arith, common_steps, left_start (ended c.requires c.type_inv.f))

pub returns-then-number_at-i : goal.returns-then-number_at-i
returns-then-number_at-i c =
    grind (arith, common_steps, left_other (ended c.requires c.type_inv.f) c.loop-k.k c.loop-k.i)

pub returns-in_default : goal.returns-in_default
returns-in_default c =
    grind (arith, common_steps, left_unframed (ended c.requires c.type_inv.f) c.loop-k.k c.loop-k.i, between_is)

pub overflow_add-i : goal.overflow_add-i
overflow_add-i c =
    grind (arith, common_steps, left_within (ended c.requires c.type_inv.f) c.loop-k.k c.loop-k.i, between_is)

pub loop-k-preserved : goal.loop-k-preserved
loop-k-preserved c =
    let e = ended c.requires c.type_inv.f in
    let x = c.in-Ok.frame in
    let b = between_is c.args.f.now c.loop-k.i c.args.index.begin in
    let is = ap framing (sym b) ∙ sym c.frame.ensures ∙ c.in-Ok.is in (
      left_within e c.loop-k.k c.loop-k.i (omega arith) x is,
      c.loop-k.invariant.1
          ∙ left_on e c.loop-k.k c.loop-k.i (omega arith) x is (sym c.number_at.ensures.0 ∙ c.if-number_at-i.false),
    )

pub returns : goal.returns
returns c =
    let e = ended c.requires c.type_inv.f in
    grind (arith, common_steps, left_end e c.loop-k.k c.loop-k.i, left_over e c.loop-k.k c.loop-k.i)
