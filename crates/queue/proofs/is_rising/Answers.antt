-- `queue::is_rising` tests that ids rise. Assumes nothing.
use Prim.Native.Nat.{◌≤◌, ◌<◌}
use mathlib.Core.Path.{◌≡◌, sym, ◌∙◌}
use mathlib.Core.Bool.{◌&&◌}
use native.Mathlib.Omega.{arith}
use lib.Dec.{leb}
use lib.ListN.{length, take}
use borrow.Author.Tests.{le-leb, lt-leb}
use Rattle.lists.specs.Lists.{ascends}
use Rattle.synth.specs.Kinds.{most}
use Rattle.synth.specs.Channel.{ids}
use Rattle.queue.specs.Queue.{list_of}
use Rattle.queue.proofs.Queues.{ids_in, held_ids, count_is}
use Rattle.queue.proofs.Turns.{rising_stop, rising_more, rising_done}
use Rattle.queue.proofs.is_rising.Goals as goal
use Rattle.queue.proofs.is_rising.Goals.{After-most}

pub returns-then-most-count : goal.returns-then-most-count
returns-then-most-count c =
    let q = c.args.q in
    let most = c.most in
    let many : most.result < length (list_of q) = rw (count_is q _ c.well_formed.1.0) c.if-most-count.true in
    rw (← most.ensures.0, lt-leb (length (list_of q)) most.result many)

pub loop-n-preserved : goal.loop-n-preserved
loop-n-preserved c =
    let q = c.args.q in
    let l = c.loop-n in
    c.loop-n.invariant
    ∙ rw (c.from-id.ensures, c.id_in.ensures) (rising_more (take q.count q.numbers) l.n-index l.from c.args.end c.loop-n-test.true (rw (← c.id_in.ensures, ← c.from-id.ensures) c.if-id-from.false))

-- where no more are outstanding than may be, the ids alone decide
ids_decide : (c : After-most) → c.args.q.count ≤ c.most.result
    → ascends 0 (ids_in (take c.args.q.count c.args.q.numbers)) c.args.end
    ≡ (leb (length (list_of c.args.q)) (most c.args.kind) && ascends 0 (ids (list_of c.args.q)) c.args.end)
ids_decide c few =
    let q = c.args.q in
    let held : length (list_of q) ≤ c.most.result = rw (count_is q _ c.well_formed.1.0) few in
    rw (← c.most.ensures.0, le-leb (length (list_of q)) c.most.result held, held_ids q _ c.well_formed.1.0 (omega arith))

pub returns-then-id-from : goal.returns-then-id-from
returns-then-id-from c =
    let q = c.args.q in
    let l = c.loop-n in
    let stop = rising_stop (take q.count q.numbers) l.n-index l.from c.args.end c.loop-n-test.true (rw (← c.id_in.ensures, ← c.from-id.ensures) c.if-id-from.true) in
    sym (l.invariant ∙ stop) ∙ ids_decide (goal.at.returns-then-id-from c).After-most c.if-most-count.false

pub returns : goal.returns
returns c =
    let q = c.args.q in
    let l = c.loop-n in
    sym (l.invariant ∙ rising_done (take q.count q.numbers) l.n-index l.from c.args.end c.loop-n-test.false)
    ∙ ids_decide (goal.at.returns c).After-most c.if-most-count.false
