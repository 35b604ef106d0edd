-- `client::write` goes by the effect. Assumes nothing.
use mathlib.Core.Path.{ap, subst, ◌∙◌}
use Rattle.output.specs.Delivery.{counted, delivered}
use Rattle.channelnames.specs.Names.{name_of}
use Rattle.params.specs.Doing.{EndsTelling}
use Rattle.client.proofs.Messages.{lists, listed_written, told_written}
use Rattle.client.proofs.write.Goals as goal

pub respond-requires : goal.respond-requires
respond-requires c = c.requires

pub tell-requires : goal.tell-requires
tell-requires c = c.requires

pub returns-in-Nothing : goal.returns-in-Nothing
returns-in-Nothing c = λ v d n s does.
    let a = c.args in
    let e = listed_written (name_of a.name) n (lists v a.done.outcome c.in-Nothing.is) does in
    let r = c.respond.ensures in (
      r.value does.few ∙ ap (λ l. counted l a.out.now) e,
      r.out_after does.few ∙ ap (λ l. delivered l a.out.now) e,
    )

pub returns-in-Tell : goal.returns-in-Tell
returns-in-Tell c = λ v d n s does.
    let a = c.args in
    let of = c.in-Tell.is in
    let e = told_written (name_of a.name) a.set _ n s of does in
    let ends = subst (λ x. EndsTelling x a.done.outcome) of does.ends in
    let r = c.tell.ensures in (
      r.value ends ∙ ap (λ l. counted l a.out.now) e,
      r.out_after ends ∙ ap (λ l. delivered l a.out.now) e,
    )
