-- `queue::without_active` moves all entries but the first one place to the front. Assumes nothing.
use Prim.Native.Nat.{ℕ, suc, ◌-◌}
use mathlib.Core.Path.{◌≡◌, sym, ap, ◌∙◌}
use native.Mathlib.Omega.{arith}
use lib.ListN.{length, take}
use Rattle.queue.proofs.Queues.{entries_in, numbers_16, levels_16, count_is, within}
use Rattle.queue.proofs.Shifts.{one_more, behind_first}
use borrow.Author.Rules.{rules}
use Rattle.queue.proofs.without_active.Goals as goal

pub returns-then-q-eq0 : goal.returns-then-q-eq0
returns-then-q-eq0 c =
    let many = count_is c.args.q _ c.well_formed.0 in
    λ e queue l. λ few. absurd (omega (arith, many, ap length l, c.if-q-eq0.true))

pub returns-then-q-gt-MOST : goal.returns-then-q-gt-MOST
returns-then-q-gt-MOST c =
    let many = count_is c.args.q _ c.well_formed.0 in
    λ e queue l. λ few. absurd (omega (arith, many, few, ap length l, c.if-q-gt-MOST.true))

pub loop-i-preserved : goal.loop-i-preserved
loop-i-preserved c =
    let q = c.args.q in
    let l = c.loop-i in
    let inv = l.invariant in
    let olds = numbers_16 q _ c.well_formed.0 in
    let levels = levels_16 q _ c.well_formed.0 in record {
      long = search rules;
      as_many = search rules;
      moved = one_more q.numbers q.thresholds (levels ∙ sym olds) l.numbers l.thresholds (inv.as_many ∙ sym inv.long) l.i (omega arith) (omega arith) inv.moved;
    }

pub returns : goal.returns
returns c =
    let q = c.args.q in
    let l = c.loop-i in
    let few = c.if-q-gt-MOST.false in
    let some : suc (q.count - 1) ≡ q.count = omega (arith, c.if-q-eq0.false) in
    let all : l.i ≡ q.count - 1 = omega arith in
    λ e queue h. λ room.
    within _ (omega arith)
    ∙ (rw all at l.invariant.moved)
    ∙ behind_first (q.count - 1) (entries_in q) e queue (ap (λ (n : ℕ). take n (entries_in q)) some ∙ sym (within q few) ∙ h)
