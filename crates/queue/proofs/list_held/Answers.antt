-- `queue::list_held` lists the id of every entry that is counted. Assumes nothing.
use mathlib.Core.Path.{◌≡◌, sym, ◌∙◌}
use native.Mathlib.Omega.{arith}
use lib.ListN.{length-map}
use Rattle.queue.specs.Queue.{list_of}
use Rattle.queue.proofs.Queues.{held_ids, count_is, numbers_16}
use Rattle.queue.proofs.Turns.{ids_more}
use borrow.Author.Rules.{rules}
use Rattle.queue.proofs.list_held.Goals as goal

pub returns-then-count-gt-MOST : goal.returns-then-count-gt-MOST
returns-then-count-gt-MOST c = record {
  lists = λ few. absurd (omega (arith, few, count_is c.args.q _ c.well_formed.0, c.if-count-gt-MOST.true));
  value = λ many. c.list_none.ensures;
}

pub loop-i-preserved : goal.loop-i-preserved
loop-i-preserved c =
    let q = c.args.q in
    let l = c.loop-i in
    let room = numbers_16 q _ c.well_formed.0 in record {
      long = search rules;
      listed = rw c.id_in.ensures (ids_more q.numbers l.ids l.i (omega arith) (omega arith) l.invariant.listed);
    }

pub returns : goal.returns
returns c =
    let q = c.args.q in
    let left = c.if-count-gt-MOST.false in
    let e : c.loop-i.i ≡ q.count = omega arith in record {
      lists = λ few. record {
        shown = (rw e at c.loop-i.invariant.listed) ∙ sym (held_ids q _ c.well_formed.0 left);
        counted = sym (length-map (list_of q) _ ∙ count_is q _ c.well_formed.0);
        few = left;
      };
      value = λ many. absurd (omega (arith, many, left, count_is q _ c.well_formed.0));
    }
