-- `engine::report` refuses a channel that has not its shape before all, then a cause that its kind has not, then a score
-- that is no number, then a channel from which no report is awaited. Assumes nothing.
use Prim.Native.Nat.{◌≤◌, ◌<◌}
use mathlib.Core.Path.{sym, ◌∙◌}
use native.Mathlib.Omega.{arith}
use lib.ListN.{length}
use Rattle.answer.specs.Answers.{cause_names}
use Rattle.channel.specs.Channel.{view}
use Rattle.channel.proofs.Parts.{unshaped}
use Rattle.calls.proofs.Leaving.{turned, leaves_refused, unsound_refused}
use Rattle.engine.proofs.Reports.{no_such_cause, no_number, nothing_awaited, ends, has_active}
use Rattle.engine.proofs.report.Goals as goal

pub returns-then-not-is_shaped : goal.returns-then-not-is_shaped
returns-then-not-is_shaped c = λ es whole.
    let a = c.args in
    leaves_refused a.out.now c.into.ensures
    (unsound_refused (view a.last a.c es) _
    (unshaped (view a.last a.c es) (sym (c.is_shaped.ensures es) ∙ c.if-not-is_shaped.true)))

pub returns-then-cause_count-cause : goal.returns-then-cause_count-cause
returns-then-cause_count-cause c = λ es whole.
    let a = c.args in
    let sane = whole ∙ sym (c.is_shaped.ensures es) ∙ c.if-not-is_shaped.false in
    let k = c.kind-kind in
    let above : length (cause_names k.result) ≤ a.cause = omega (arith, c.cause_count.ensures, c.if-cause_count-cause.true) in
    leaves_refused a.out.now c.into-then-cause_count-cause.ensures
    (no_such_cause (view a.last a.c es) k.result (sym k.ensures) a.cause a.score (length a.out.now) sane above)

pub returns-then-is_none : goal.returns-then-is_none
returns-then-is_none c = λ es whole.
    let a = c.args in
    let sane = whole ∙ sym (c.is_shaped.ensures es) ∙ c.if-not-is_shaped.false in
    let k = c.kind-kind in
    let has : a.cause < length (cause_names k.result) = omega (arith, c.cause_count.ensures, c.if-cause_count-cause.false) in
    leaves_refused a.out.now c.into-then-is_none.ensures
    (no_number (view a.last a.c es) k.result (sym k.ensures) a.cause a.score (length a.out.now) sane has
    (sym c.is_none.ensures ∙ c.if-is_none.true))

pub returns-then-not-awaits : goal.returns-then-not-awaits
returns-then-not-awaits c = λ es whole.
    let a = c.args in
    let sane = whole ∙ sym (c.is_shaped.ensures es) ∙ c.if-not-is_shaped.false in
    let k = c.kind-kind in
    let has : a.cause < length (cause_names k.result) = omega (arith, c.cause_count.ensures, c.if-cause_count-cause.false) in
    leaves_refused a.out.now c.into-then-not-awaits.ensures
    (nothing_awaited (view a.last a.c es) k.result (sym k.ensures) a.cause a.score (length a.out.now) sane has
    (sym c.is_none.ensures ∙ c.if-is_none.false) (sym c.awaits.ensures ∙ c.if-not-awaits.true))

pub complete-requires : goal.complete-requires
complete-requires c = λ es. sym (c.is_shaped.ensures es) ∙ c.if-not-is_shaped.false

pub returns : goal.returns
returns c = λ es whole.
    let a = c.args in
    let v = view a.last a.c es in
    let sane = whole ∙ sym (c.is_shaped.ensures es) ∙ c.if-not-is_shaped.false in
    let k = c.kind-kind in
    let has : a.cause < length (cause_names k.result) = omega (arith, c.cause_count.ensures, c.if-cause_count-cause.false) in
    let awaited = sym c.awaits.ensures ∙ c.if-not-awaits.false in
    let active = has_active v sane awaited in
    turned (sym (ends v k.result (sym k.ensures) a.cause a.score (length a.out.now) sane has
    (sym c.is_none.ensures ∙ c.if-is_none.false) awaited active.entry active.others active.queued))
    (c.complete.ensures es active.entry active.others active.queued)
