-- `queue::join` stores the entry past the last one, and counts it, where there is room. Assumes nothing.
use Prim.Native.Nat.{◌+◌, ◌<◌, ◌≤◌}
use mathlib.Core.Path.{◌≡◌, refl, ap, ◌∙◌}
use native.Mathlib.Numerals.{add-one}
use native.Mathlib.Omega.{arith}
use lib.ListN.{length, take, set}
use lib.Seq.{take-suc-set}
use Rattle.queue.specs.Queue.{entry_in}
use Rattle.queue.proofs.Queues.{level_same, entries_in, as_many, entries_16, count_is, within, entry_set}
use Rattle.queue.proofs.join.Goals as goal

pub returns-then-n-ge-MOST : goal.returns-then-n-ge-MOST
returns-then-n-ge-MOST c = record {
  result_value = λ room level. absurd (omega (arith, room, count_is c.args.q _ c.well_formed.0, c.if-n-ge-MOST.true));
  value = λ full. refl;
}

pub returns : goal.returns
returns c =
    let e = c.args.e in
    let q = c.args.q in
    let l : length (entries_in q) ≡ 16 = entries_16 q _ c.well_formed.0 in
    let left : q.count < 16 = c.if-n-ge-MOST.false in
    let h : q.count < length (entries_in q) = omega arith in
    let more : q.count + 1 ≤ 16 = omega arith in
    let number = c.number in
    let told : e.threshold ≤ 1000000 → entry_in number.result e.threshold ≡ e =
    λ level. let same = level_same e.threshold level in
    λ i. record { id = number.ensures.0 i; kill = number.ensures.1 i; threshold = same i } in
    let stored = entry_set q.numbers q.thresholds q.count number.result e.threshold (as_many q _ c.well_formed.0) in record {
      result_value = λ room level. within _ more ∙ ap (take (q.count + 1)) (stored ∙ ap (set (entries_in q) q.count) (told level)) ∙ rw (within q (omega arith), add-one, take-suc-set);
      value = λ full. absurd (omega (arith, full, left, count_is q _ c.well_formed.0));
    }
