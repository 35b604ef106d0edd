-- `channelnumbers::save` writes zeros, the four numbers in front, the queue's and the name's. Assumes nothing.
use mathlib.Core.Path.{◌≡◌, ap, ◌∙◌}
use mathlib.Core.List.{List, map, ◌++◌}
use Prim.Native.Nat.{ℕ}
use native.Mathlib.Omega.{arith}
use lib.ListN.{length, take, drop}
use lib.Seq.{length-take-le}
use Rattle.synth.proofs.Channels.{most_16}
use Rattle.channelnames.specs.Names.{name_of, kind_by}
use Rattle.channelnumbers.specs.Steps.{stored}
use Rattle.channelnumbers.proofs.Saving.{zeros, four_zeros, counted, sized, saved_numbers}
use Rattle.channelnumbers.proofs.save.Goals as goal
use Rattle.channelnumbers.proofs.save.Goals.{then-c-gt-MOST-via-then-c-gt-MOST, then-c-gt-MOST-via-else-c-gt-MOST+then-c-gt-LONGEST}

pub returns-then-c-gt-MOST : goal.returns-then-c-gt-MOST
returns-then-c-gt-MOST c =
    let ch = c.args.c in
    let many = counted ch _ c.well_formed.1.0 in
    let size = sized ch _ c.well_formed.1.0 in
    let most = most_16 (kind_by (name_of ch.name)) in
    λ es short few. absurd (elim c.then-c-gt-MOST.branch [
      | then-c-gt-MOST-via-then-c-gt-MOST b ↦ omega (arith, few, most, many, b.if-c-gt-MOST.true)
      | then-c-gt-MOST-via-else-c-gt-MOST+then-c-gt-LONGEST b ↦ omega (arith, short, size, b.if-c-gt-LONGEST.true)
    ])

pub returns : goal.returns
returns c =
    let kind = c.kind_by-kind in
    let ch = c.args.c in
    let good = c.well_formed.1.0 in
    let w = c.args.ws.now in
    let many : length (take 64 w) ≡ 64 = length-take-le 64 w (omega arith) in
    let zeroed : c.fill.new.self ++ drop 64 w ≡ zeros 64 ++ drop 64 w =
    ap (λ (l : List ℕ). l ++ drop 64 w) (c.fill.ensures.after (λ y h. h) ∙ ap zeros many) in
    let queued = four_zeros w (map stored ch.queue.numbers) _ _ _ _ _ _ zeroed c.save_queue.ensures in
    let leveled = rw kind.ensures at c.save_thresholds.ensures in
    λ es short few.
    saved_numbers ch _ good c.args.last es (rw (← counted ch _ good) few) c.if-c-gt-LONGEST.false (drop 64 w)
    queued leveled c.save_name.ensures c.state_number.ensures c.first_above.ensures.0
