-- `client::deliver` writes the answer, or refuses. Assumes nothing.
use mathlib.Core.Path.{refl, ap, ◌∙◌}
use Rattle.synth.specs.Channel.{View, with_last}
use Rattle.queue.specs.Queue.{list_of}
use Rattle.channel.specs.Channel.{view}
use Rattle.calls.proofs.Leaving.{leaves_too_long, leaves_answer}
use Rattle.settings.specs.Kept.{further_on}
use Rattle.client.proofs.Messages.{left_is}
use Rattle.client.proofs.deliver.Goals as goal

pub write-requires : goal.write-requires
write-requires c = c.requires

pub returns-in_err-written : goal.returns-in_err-written
returns-in_err-written c = λ es d n m.
    let a = c.args in
    let v = with_last a.j.last (view a.last a.c es) in
    let r = c.write.ensures v d refl n m in
    leaves_too_long a.last a.c es a.consumed a.out.now _ d refl _ r.0 _ r.1
    c.in_err-written.was c.from_residual.result c.from_residual.ensures.1

pub returns : goal.returns
returns c = λ es d n m.
    let a = c.args in
    let o = a.j.done.outcome in
    let v = with_last a.j.last (view a.last a.c es) in
    let r = c.write.ensures v d refl n m in
    let next = c.with_queue.result in
    let left = left_is a.j.last a.c next o.state (list_of o.queue) a.j.done.effect (c.with_queue.ensures a.j.last) es in
    leaves_answer a.last a.c es a.consumed a.out.now _ d refl _ r.0 _ r.1
    _ c.in_ok-written.was a.j.last next c.made.result
    (ap (λ x. view a.j.last next (further_on x es)) c.made.ensures ∙ left ∙ m.left)
    (ap (λ (v : View). v.name) (c.with_queue.ensures a.j.last es))
