-- `judgement::judge_fields` fails early, or goes on with this id as the last one seen. Assumes nothing.
use mathlib.Core.Path.{refl, sym, ap, subst, ◌∙◌}
use Rattle.std.proofs.Common.{Some}
use Rattle.channel.specs.Channel.{view_on}
use Rattle.values.specs.Values.{verdict_of}
use Rattle.outcomes.specs.Outcomes.{asked}
use Rattle.outcomes.proofs.Making.{makes_failed}
use Rattle.params.specs.Doing.{Does}
use Rattle.judgement.proofs.Order.{early_fails, early_passes, plain_does}
use Rattle.judgement.proofs.judge_fields.Goals as goal

pub returns-in-Err : goal.returns-in-Err
returns-in-Err c = λ k h few fit is es moment major minor fs good t.
    let a = c.args in
    let v = view_on a.last a.c es in
    let said = c.early.ensures h a.asks v major minor a.m fs refl refl (good, t) in
    rw c.fails.ensures (plain_does refl
    (makes_failed v (asked major minor a.m a.id fs) a.c.state a.c.queue _ refl refl
    (early_fails v major minor a.m a.id fs _ (ap verdict_of (sym c.in-Err.is) ∙ said))))

pub returns : goal.returns
returns c = λ k h few fit is es moment major minor fs good t.
    let a = c.args in
    let v = view_on a.last a.c es in
    let d = c.act.result in
    let said = c.early.ensures h a.asks v major minor a.m fs refl refl (good, t) in
    let passed = early_passes v major minor a.m a.id fs (ap verdict_of (sym c.in_default.is) ∙ said) in
    subst (Does (view_on (Some a.id) a.c es) d.outcome d.effect) (sym passed)
    (c.act.ensures few fit is (view_on (Some a.id) a.c es) (sym k) moment major minor fs t)
