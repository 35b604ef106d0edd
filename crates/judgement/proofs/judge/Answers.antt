-- `judgement::judge` looks at the fields where the version is 2.0. Assumes nothing.
use mathlib.Core.Path.{◌≡◌, refl, sym, ap, ap₂, subst, ◌∙◌}
use mathlib.Core.Bool.{Bool, true}
use mathlib.Core.List.{List}
use Rattle.message.specs.Message.{request, part, on_fields}
use Rattle.message.specs.Reading.{asks_params, fields_from}
use Rattle.synth.specs.Kinds.{kind_of, method_in}
use Rattle.synth.specs.Settings.{is_edition_of}
use Rattle.synth.specs.Request.{method_of, is_params}
use Rattle.synth.specs.States as S
use Rattle.synth.specs.declared.Edition.{Edition}
use Rattle.synth.specs.declared.Method.{Method}
use Rattle.channelnames.specs.Names.{name_of}
use Rattle.channel.specs.Channel.{view_on}
use Rattle.request.specs.Telling.{Told}
use Rattle.outcomes.specs.Outcomes.{asked}
use Rattle.outcomes.proofs.Making.{makes_failed}
use Rattle.judgement.specs.Judged.{from_fields, Judges}
use Rattle.judgement.specs.declared.Judged.{Judged}
use Rattle.judgement.proofs.Order.{outdated, current, not_good, early_fails, plain_does}
use Rattle.judgement.proofs.Asking.{named_params}
use Rattle.judgement.proofs.judge.Goals as goal
use Rattle.judgement.proofs.judge.Goals.{After-read}

pub returns-then-not-is_current : goal.returns-then-not-is_current
returns-then-not-is_current c = λ h few fit es moment.
    let a = c.args in
    let v = view_on a.last a.c es in
    let fs = on_fields (part a.f.now) (fields_from (asks_params a.f.now (request a.name a.id)) a.f.now a.at) in
    let m = method_in (kind_of (name_of a.c.name)) (method_of (part a.f.now a.name)) in
    rw c.fails.ensures (plain_does refl
    (makes_failed v (asked a.major a.minor m a.id fs) a.c.state a.c.queue 502 refl refl
    (outdated v a.major a.minor m a.id fs (sym c.is_current.ensures ∙ c.if-not-is_current.true))))

-- where the version is 2.0, what comes of the method and the fields as the code has them is what comes of the request
goes_on : (c : After-read) (es : List Edition) (j : Judged) → let a = c.args in
    let v = view_on a.last a.c es in
    let fs = on_fields (part a.f.now) (fields_from c.is_params-asks.result a.f.now a.at) in
    let r = asked a.major a.minor c.method_in-m.result a.id fs in
    Judges v j (S.after_early (from_fields v r) v r)
    → Judges v j (S.judge v (asked a.major a.minor (method_in (kind_of (name_of a.c.name)) (method_of (part a.f.now a.name)))
    a.id (on_fields (part a.f.now) (fields_from (asks_params a.f.now (request a.name a.id)) a.f.now a.at))))
goes_on c es j judged =
    let a = c.args in
    let v = view_on a.last a.c es in
    let f = a.f.now in
    let m = c.method_in-m.result in
    let asks = c.is_params-asks.result in
    let named = c.method_in-m.ensures
    ∙ ap₂ method_in c.kind-kind.ensures (c.method.ensures ∙ ap method_of c.part.ensures) in
    let known : asks ≡ asks_params f (request a.name a.id) =
    c.is_params-asks.ensures ∙ ap is_params named ∙ named_params (kind_of (name_of a.c.name)) (part f a.name) in
    let fs = on_fields (part f) (fields_from asks f a.at) in
    let goes = current v a.major a.minor m a.id fs (sym c.is_current.ensures ∙ c.if-not-is_current.false) in
    subst (λ (x : Bool). Judges v j (S.judge v
    (asked a.major a.minor (method_in (kind_of (name_of a.c.name)) (method_of (part f a.name))) a.id
    (on_fields (part f) (fields_from x f a.at)))))
    known
    (subst (λ (m : Method). Judges v j (S.judge v (asked a.major a.minor m a.id fs))) named
    (subst (Judges v j) (sym goes) judged))

pub returns-in_default : goal.returns-in_default
returns-in_default c = λ h few fit es moment.
    let a = c.args in
    let v = view_on a.last a.c es in
    let m = c.method_in-m.result in
    let asks = c.is_params-asks.result in
    let fs = on_fields (part a.f.now) (fields_from asks a.f.now a.at) in
    let bad = subst (λ h. Told asks a.f.now h fs) c.in_default.is c.read.ensures in
    goes_on (goal.at.returns-in_default c).After-read es _
    (rw c.fails-in_default.ensures (plain_does refl
    (makes_failed v (asked a.major a.minor m a.id fs) a.c.state a.c.queue 404 refl refl
    (early_fails v a.major a.minor m a.id fs 404 (not_good v a.major a.minor m a.id fs bad)))))

pub returns : goal.returns
returns c = λ h few fit es moment.
    let a = c.args in
    let k = c.kind-kind.ensures in
    let asks = c.is_params-asks.result in
    let fs = on_fields (part a.f.now) (fields_from asks a.f.now a.at) in
    let told = subst (λ h. Told asks a.f.now h fs) c.in-Some.is c.read.ensures in
    let fits = subst (λ x. is_edition_of x a.c.set ≡ true) (sym k) fit in
    goes_on (goal.at.returns c).After-read es _
    (c.judge_fields.ensures k h few fits c.is_params-asks.ensures es moment a.major a.minor fs told.0 told.1)
