-- `queue::end` deals the entries out by their bits. Assumes nothing.
use mathlib.Core.Path.{sym, ap, ◌∙◌}
use mathlib.Core.Bool.{true, false}
use mathlib.Core.List.{◌++◌}
use native.Mathlib.Omega.{arith}
use lib.ListN.{length, take}
use lib.Seq.{length-take-le}
use Rattle.synth.specs.Channel.{ids as ids_of}
use Rattle.queue.specs.Queue.{entries_of}
use Rattle.queue.proofs.Queues.{entries_in, numbers_16, levels_16, count_is, within}
use Rattle.queue.proofs.Turns.{passed, number_kept, id_listed, all_kept_lem, all_listed}
use borrow.Author.Rules.{rules}
use Rattle.queue.proofs.end.Goals as goal

pub returns-then-count-gt-MOST : goal.returns-then-count-gt-MOST
returns-then-count-gt-MOST c = record {
  ends = λ few. absurd (omega (arith, few, count_is c.args.q _ c.well_formed.0, c.if-count-gt-MOST.true));
  value = λ many. λ i. record { listed = c.list_none-listed.ensures i; queue = c.args.q };
}

pub loop-i-preserved-then-ends : goal.loop-i-preserved-then-ends
loop-i-preserved-then-ends c =
    let mask = c.args.mask in
    let q = c.args.q in
    let l = c.loop-i in
    let inv = l.invariant in
    let set = sym c.bit-ends.ensures ∙ c.if-ends.true in
    let olds = numbers_16 q _ c.well_formed.0 in
    let many = levels_16 q _ c.well_formed.0 ∙ sym olds in record {
      room = omega arith;
      listed = omega arith;
      long = inv.long;
      as_many = inv.as_many;
      places = search rules;
      kept = inv.kept ∙ ap (λ r. take l.left (entries_of l.numbers l.thresholds) ++ r) (passed mask q.numbers q.thresholds many q.count l.i l.gone (omega arith) (omega arith) false (rw set));
      ended = rw c.id_in.ensures (inv.ended ∙ id_listed mask q.numbers q.thresholds many q.count l.i l.gone (omega arith) (omega arith) l.ids (omega arith) set);
    }

pub loop-i-preserved : goal.loop-i-preserved
loop-i-preserved c =
    let mask = c.args.mask in
    let q = c.args.q in
    let l = c.loop-i in
    let inv = l.invariant in
    let clear = sym c.bit-ends.ensures ∙ c.if-ends.false in
    let olds = numbers_16 q _ c.well_formed.0 in
    let many = levels_16 q _ c.well_formed.0 ∙ sym olds in record {
      room = omega arith;
      listed = omega arith;
      long = search rules;
      as_many = search rules;
      places = inv.places;
      kept = inv.kept ∙ number_kept mask q.numbers q.thresholds many q.count l.i l.left (omega arith) (omega arith) l.numbers l.thresholds (inv.as_many ∙ sym inv.long) (omega arith) clear;
      ended = inv.ended ∙ ap (λ r. take l.gone l.ids ++ ids_of r) (passed mask q.numbers q.thresholds many q.count l.i l.left (omega arith) (omega arith) true (rw clear));
    }

pub returns : goal.returns
returns c =
    let q = c.args.q in
    let mask = c.args.mask in
    let l = c.loop-i in
    let few = c.if-count-gt-MOST.false in
    let done = c.loop-i-test.false in
    let rest = l.invariant.kept ∙ all_kept_lem mask (entries_in q) q.count l.i l.left done (entries_of l.numbers l.thresholds) in
    let gone = sym (l.invariant.ended ∙ all_listed mask (entries_in q) q.count l.i l.gone done l.ids) in record {
      ends = λ _. rw (within q few)
          (record {
            lists = record { shown = gone; counted = sym (length-take-le l.gone l.ids (omega arith)) ∙ ap length gone; few = omega arith };
            left = within (record { numbers = l.numbers; thresholds = l.thresholds; count = l.left }) (omega arith) ∙ sym rest;
          });
      value = λ many. absurd (omega (arith, many, few, count_is q _ c.well_formed.0));
    }
