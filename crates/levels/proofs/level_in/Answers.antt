-- `levels::level_in` meets its contract.
-- Assumes nothing.
use mathlib.Core.Path.{sym, ap, ◌∙◌}
use Prim.Native.Nat.{◌+◌, ◌-◌, ◌*◌, ◌^◌}
use borrow.Author.Rules.{rules}
use lib.Dec.{lit<, lit≤}
use lib.ListN.{get_or}
use Rattle.synth.specs.Levels.{level_in}
use Rattle.levels.proofs.Levels.{first_bounds, no_first, first_alone, Begun, no_point, few, no_digits}
use Rattle.levels.proofs.Levels.{more_behind, value_below, with_places}
use Rattle.levels.proofs.level_in.Goals as goal
use Rattle.levels.proofs.level_in.Goals.{Else-v-eq1}
use Rattle.levels.proofs.level_in.Goals.{then-d-eq0-via-then-d-eq0, then-d-eq0-via-else-d-eq0+then-v-d}

-- past the test of the length
begun : (c : Else-v-eq1) → Begun c.args.v.now
begun c = record { some = search rules; more = c.if-v-eq1.false; first = search rules }

pub returns-then-v-eq0 : goal.returns-then-v-eq0
unfolding level_in
returns-then-v-eq0 c = search rules

pub returns-then-not-is_first : goal.returns-then-not-is_first
returns-then-not-is_first c = sym (no_first _ (search rules))

pub digits_of-requires : goal.digits_of-requires
digits_of-requires c =
    let f = first_bounds (get_or c.args.v.now 0 0) (search rules) in
    (f.0, f.1, lit≤ tt, lit< tt)

pub returns-then-v-eq1 : goal.returns-then-v-eq1
returns-then-v-eq1 c =
    c.at_most_one.ensures
    ∙ first_alone _ c.if-v-eq1.true (search rules) _
    (c.digits_of.ensures ∙ ap (λ x. (x - 48) * 1 + 0) (search rules))

pub returns-then-v-ne46 : goal.returns-then-v-ne46
returns-then-v-ne46 c =
    sym (no_point _ (begun (goal.at.returns-then-v-ne46 c).Else-v-eq1) c.if-v-ne46.true)

pub returns-then-d-eq0 : goal.returns-then-d-eq0
returns-then-d-eq0 c =
    let d = c.digits_at-d in
    let b = begun (goal.at.returns-then-d-eq0 c).Else-v-eq1 in
    elim c.then-d-eq0.branch [
      | then-d-eq0-via-then-d-eq0 w ↦ sym (no_digits _ b d.result d.ensures w.if-d-eq0.true)
      | then-d-eq0-via-else-d-eq0+then-v-d w ↦ sym (more_behind _ b d.result d.ensures w.if-v-d.true)
    ]

pub digits_of-requires-2 : goal.digits_of-requires-2
digits_of-requires-2 c =
    let d = c.digits_at-d in
    let b = begun (goal.at.digits_of-requires-2 c).Else-v-eq1 in
    let f = first_bounds (get_or c.args.v.now 0 0) (search rules) in
    (f.0, f.1, few _ b d.result d.ensures, value_below _ b d.result d.ensures c.if-d-eq0.false c.if-v-d.false)

pub at_most_one-requires-2 : goal.at_most_one-requires-2
at_most_one-requires-2 c =
    few _ (begun (goal.at.at_most_one-requires-2 c).Else-v-eq1) c.digits_at-d.result c.digits_at-d.ensures

pub returns : goal.returns
returns c =
    let d = c.digits_at-d in
    c.at_most_one-2.ensures
    ∙ with_places _ (begun (goal.at.returns c).Else-v-eq1) d.result d.ensures c.if-d-eq0.false c.if-v-d.false
    c.if-v-ne46.false _
    (c.digits_of-2.ensures ∙ ap (λ x. (x - 48) * 10 ^ d.result.count + d.result.value) (search rules))
