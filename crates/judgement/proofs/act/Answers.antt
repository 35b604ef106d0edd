-- `judgement::act` hands SET-PARAMS and GET-PARAMS on, and makes what the other methods come to an answer alone.
-- Assumes nothing.
use Prim.Native.Nat.{ℕ}
use mathlib.Core.Path.{sym, subst, ◌∙◌}
use mathlib.Core.Bool.{Bool}
use mathlib.Core.List.{List}
use Rattle.answer.specs.declared.Kind.{Kind}
use Rattle.synth.specs.declared.Edition.{Edition}
use Rattle.synth.specs.declared.Method.{Method}
use Rattle.synth.specs.declared.State.{State}
use Rattle.queue.specs.declared.Queue.{Queue}
use Rattle.header.specs.declared.Header.{Header}
use Rattle.request.specs.Telling.{Tells}
use Rattle.params.specs.Doing.{DoesOn}
use Rattle.params.specs.declared.Done.{Done}
use Rattle.judgement.proofs.Order.{plain_does}
use Rattle.judgement.proofs.act.Goals as goal

-- what is shown, by which names count
abbrev Shown : Kind → Edition → State → Queue → Method → ℕ → List ℕ → Header → Done → Bool → Type 0
Shown k set state q m id f h d asks = DoesOn k set state q m id (λ r. Tells asks f h r.fields) d

pub returns-then-asks : goal.returns-then-asks
returns-then-asks c = λ few fit is.
    let a = c.args in
    subst (Shown a.kind a.c.set a.c.state a.c.queue a.m a.id a.f.now a.h c.act.result)
    (sym c.if-asks.true) (c.act.ensures (sym is ∙ c.if-asks.true))

pub returns : goal.returns
returns c = λ few fit is.
    let a = c.args in
    let plain = c.if-asks.false in
    subst (Shown a.kind a.c.set a.c.state a.c.queue a.m a.id a.f.now a.h c.plain.result)
    (sym plain)
    (λ v of moment major minor fs told.
    plain_does c.plain.ensures (c.act-2.ensures few fit (sym is ∙ plain) v of moment major minor fs told))
