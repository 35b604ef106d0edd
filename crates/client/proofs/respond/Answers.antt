-- `client::respond` writes the answer under the channel's name. Assumes nothing.
use mathlib.Core.Path.{sym, ap, ◌∙◌}
use native.Mathlib.Omega.{arith}
use lib.Seq.{length-take-le}
use Rattle.output.specs.Delivery.{counted, delivered}
use Rattle.answer.specs.Written.{written}
use Rattle.answer.specs.Answers.{response_of}
use lib.ListN.{take}
use Rattle.channelnames.proofs.Names.{bytes_44, within}
use Rattle.outcomes.proofs.Making.{listed_16}
use Rattle.client.proofs.respond.Goals as goal

pub returns-then-o-gt-MOST : goal.returns-then-o-gt-MOST
returns-then-o-gt-MOST c = record {
  value = λ h. absurd (omega (arith, h, c.if-o-gt-MOST.true));
  out_after = λ h. absurd (omega (arith, h, c.if-o-gt-MOST.true));
}

pub shared_ref_as_front-respond : goal.shared_ref_as_front-respond
shared_ref_as_front-respond c = omega (arith, bytes_44 c.args.name _ c.well_formed.0, c.requires)

pub slice_bounds-respond-end : goal.slice_bounds-respond-end
slice_bounds-respond-end c =
    let name = c.args.name in
    sym (length-take-le name.size name.bytes (omega (arith, bytes_44 name _ c.well_formed.0, c.requires)))

pub shared_ref_as_front-ids : goal.shared_ref_as_front-ids
shared_ref_as_front-ids c = omega (arith, listed_16 c.args.o _ c.well_formed.1.0, c.if-o-gt-MOST.false)

pub slice_bounds-ids-end : goal.slice_bounds-ids-end
slice_bounds-ids-end c =
    let l = c.args.o.listed in
    sym (length-take-le l.count l.ids (omega (arith, listed_16 c.args.o _ c.well_formed.1.0, c.if-o-gt-MOST.false)))

pub returns : goal.returns
returns c =
    let a = c.args in
    let named = sym (within a.name c.requires) in
    let r = c.respond.ensures in record {
      value = λ h. r.value ∙ ap (λ n. counted (written (response_of n a.o.answer (take a.o.listed.count a.o.listed.ids))) a.out.now) named;
      out_after = λ h. r.out_after ∙ ap (λ n. delivered (written (response_of n a.o.answer (take a.o.listed.count a.o.listed.ids))) a.out.now) named;
    }
