-- `loading::load_queue` meets its contract. Assumes nothing.
use Prim.Native.Nat.{◌+◌, ◌≤◌}
use mathlib.Core.Path.{◌≡◌, refl, ◌∙◌}
use native.Mathlib.Nat.{le_trans}
use native.Mathlib.Omega.{arith}
use lib.ListN.{length-set}
use Rattle.synth.specs.Kinds.{most}
use Rattle.synth.proofs.Channels.{most_16}
use Rattle.channelnumbers.specs.Steps.{threshold_count}
use Rattle.channelnumbers.proofs.Saving.{thresholds_8}
use Rattle.loading.proofs.Loading.{gathered_none, gathered_more, leveled_none, leveled_more, count_most, queue_part}
use Rattle.loading.proofs.load_queue.Goals as goal
use Rattle.loading.proofs.load_queue.Goals.{After-count_where-count}

-- no more are counted than the kind has
counted : (c : After-count_where-count) → c.count_where-count.result ≤ most c.args.kind
counted c =
    let a = c.args in
    rw c.count_where-count.ensures (count_most a.ws.now a.kind _ c.front_fits-fits.ensures)

pub loop-i-init : goal.loop-i-init
loop-i-init c = record { long = refl; gathered = gathered_none c.args.ws.now _ (omega arith) }

pub loop-i-preserved : goal.loop-i-preserved
loop-i-preserved c =
    let a = c.args in
    let l = c.loop-i in
    let few = le_trans (counted (goal.at.loop-i-preserved c).After-count_where-count) (most_16 a.kind) in record {
      long = length-set l.numbers l.i _ ∙ l.invariant.long;
      gathered = gathered_more a.ws.now l.numbers l.bits l.i _ (omega arith) (λ t. refl) l.invariant.gathered;
    }

pub loop-j-init : goal.loop-j-init
loop-j-init c = record { long = refl; none = λ z. refl; leveled = leveled_none _ c.args.ws.now _ }

pub loop-j-preserved : goal.loop-j-preserved
loop-j-preserved c =
    let a = c.args in
    let l = c.loop-j in
    let many = c.threshold_count-j-end in
    let few : many.result ≤ 8 =
    rw many.ensures (thresholds_8 a.kind c.count_where-count.result (counted (goal.at.loop-j-preserved c).After-count_where-count)) in record {
      long = length-set l.thresholds l.j _ ∙ l.invariant.long;
      none = λ z. absurd (let y : l.j + 1 ≡ 0 = z in omega arith);
      leveled = leveled_more _ a.ws.now l.thresholds l.all_fit _ l.j _ (omega arith) refl (λ t. c.threshold_at.ensures t) l.invariant.leveled;
    }

pub returns : goal.returns
returns c =
    let a = c.args in
    let l = c.loop-i in
    let m = c.loop-j in
    let count = c.count_where-count in
    let end : l.i ≡ count.result = omega arith in
    let levels : m.j ≡ threshold_count a.kind count.result = omega (arith, c.threshold_count-j-end.ensures) in
    queue_part a.ws.now a.kind l.numbers m.thresholds c.count_where.result l.invariant.long m.invariant.long _
    c.front_fits-fits.ensures count.ensures
    (rw end at l.invariant.gathered) (rw levels at m.invariant.leveled) (rw levels at m.invariant.none)
    refl c.count_where.ensures
