-- `params::act`: 403 before all, then by the method. Assumes nothing.
use Prim.Native.Nat.{ℕ}
use mathlib.Core.Path.{◌≡◌, sym, ap, subst, ◌∙◌, refl}
use mathlib.Core.Bool.{Bool, true, false, not}
use mathlib.Core.List.{List}
use Rattle.message.specs.Message.{Fields}
use Rattle.synth.specs.Request.{is_params}
use Rattle.synth.specs.declared.Method.{Method}
use Rattle.values.specs.Steps.{meets}
use Rattle.request.specs.Telling.{Tells}
use Rattle.outcomes.specs.Outcomes.{asked}
use Rattle.outcomes.proofs.Making.{makes_failed}
use Rattle.params.specs.Doing.{DoesOn}
use Rattle.params.proofs.Standing.{all_stand, forbidden_met}
use Rattle.params.proofs.Coming.{one_of, plainly, forbidden}
use borrow.Author.Tests.{not-true, not-false}
use Rattle.params.proofs.act.Goals as goal
use Rattle.params.proofs.act.Goals.{After-is_set, After-meets, Else-meets}

barred : (c : After-meets) (fs : Fields (List ℕ)) → let a = c.args in
    Tells true a.f.now a.h fs → not (all_stand a.kind fs) ≡ c.meets.result
barred c fs told =
    let a = c.args in
    sym (c.meets.ensures ∙ ap (meets a.h.mask) c.forbidden_bits.ensures
    ∙ forbidden_met a.f.now a.h fs told a.kind)

stands : (c : Else-meets) (fs : Fields (List ℕ)) → not (all_stand c.args.kind fs) ≡ c.meets.result → all_stand c.args.kind fs ≡ true
stands c fs met = not-false _ (met ∙ c.if-meets.false)

is_method : (c : After-is_set) (b : Bool) → let m = c.args.m in
    is_params m ≡ true → c.is_set.result ≡ b → m ≡ elim b [ true ↦ Method.SetParams | false ↦ Method.GetParams ]
is_method c b e f =
    one_of c.args.m e
    ∙ ap (λ (b : Bool). elim b [ true ↦ Method.SetParams | false ↦ Method.GetParams ]) (sym c.is_set.ensures ∙ f)

pub returns-then-meets : goal.returns-then-meets
returns-then-meets c = λ e v of now major minor fs told.
    let a = c.args in
    plainly c.plain.ensures
    (makes_failed v (asked major minor a.m a.id fs) a.state a.q 403
    refl c.failed.ensures
    (forbidden v a.state a.q a.kind of major minor a.id fs a.m e
    (not-true _ (barred (goal.at.returns-then-meets c).After-meets fs told ∙ c.if-meets.true))))

pub returns-then-is_set : goal.returns-then-is_set
returns-then-is_set c = λ e.
    let a = c.args in
    subst (λ (m : Method). DoesOn a.kind a.set a.state a.q m a.id
    (λ r. Tells true a.f.now a.h r.fields) c.set_params.result)
    (sym (is_method (goal.at.returns-then-is_set c).After-is_set true e c.if-is_set.true))
    (λ v of now major minor fs told.
    c.set_params.ensures v of now major minor fs
    (told, stands (goal.at.returns-then-is_set c).Else-meets fs (barred (goal.at.returns-then-is_set c).After-meets fs told)))

pub returns : goal.returns
returns c = λ e.
    let a = c.args in
    subst (λ (m : Method). DoesOn a.kind a.set a.state a.q m a.id
    (λ r. Tells true a.f.now a.h r.fields) c.get_params.result)
    (sym (is_method (goal.at.returns c).After-is_set false e c.if-is_set.false))
    (λ v of now major minor fs told.
    c.get_params.ensures a.set a.f.now v of now major minor fs
    (told, stands (goal.at.returns c).Else-meets fs (barred (goal.at.returns c).After-meets fs told)))
