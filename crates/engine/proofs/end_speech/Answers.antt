-- `engine::end_speech` writes the event for the active one, or refuses. Assumes nothing.
use Prim.Native.Nat.{◌<◌}
use mathlib.Core.Path.{sym, ap, ◌∙◌}
use mathlib.Core.List.{[]}
use native.Mathlib.Omega.{arith}
use Rattle.std.proofs.Common.{None}
use lib.ListN.{length}
use lib.Seq.{length-take-le}
use Rattle.answer.specs.declared.Kind.{Kind}
use Rattle.synth.specs.Channel.{View, with_queue}
use Rattle.synth.specs.States.{while_any, ends_one}
use Rattle.synth.specs.declared.State.TheVariants.{Idle, Speaking}
use Rattle.queue.specs.Queue.{list_of}
use Rattle.channelnames.proofs.Names.{within}
use Rattle.channel.specs.Channel.{view}
use Rattle.channel.proofs.Parts.{bytes_44, size_short}
use Rattle.calls.proofs.Leaving.{leaves_too_long, leaves_answer}
use Rattle.engine.proofs.Reports.{queue_within, event_written}
use Rattle.engine.proofs.end_speech.Goals as goal

pub shared_ref_as_front-name : goal.shared_ref_as_front-name
shared_ref_as_front-name c =
    let ch = c.args.c in
    omega (arith, bytes_44 ch _ c.well_formed.1.0, size_short ch _ c.well_formed.1.0 c.args.last [] (c.requires []))

pub slice_bounds-name-end : goal.slice_bounds-name-end
slice_bounds-name-end c =
    let ch = c.args.c in
    sym (length-take-le ch.name.size ch.name.bytes (omega (arith, bytes_44 ch _ c.well_formed.1.0, size_short ch _ c.well_formed.1.0 c.args.last [] (c.requires []))))

pub returns-in_err-written : goal.returns-in_err-written
returns-in_err-written c = λ es e queue q.
    let a = c.args in
    let v = view a.last a.c es in
    let named = within a.c.name (size_short a.c _ c.well_formed.1.0 a.last [] (c.requires [])) in
    let says = event_written v _ _ e queue a.cause q c.active-active.ensures named in
    let w = c.complete.ensures in
    leaves_too_long a.last a.c es 0 a.out.now _ (ends_one Kind.Synthesizer Idle Speaking e queue v a.cause) says _ w.value _ w.out_after
    c.in_err-written.was c.from_residual.result c.from_residual.ensures.1

pub returns : goal.returns
returns c = λ es e queue q.
    let a = c.args in
    let v = view a.last a.c es in
    let named = within a.c.name (size_short a.c _ c.well_formed.1.0 a.last [] (c.requires [])) in
    let says = event_written v _ _ e queue a.cause q c.active-active.ensures named in
    let short : length queue < 16 = omega (arith, queue_within v (c.requires es), ap length q) in
    let rest = c.without_active-rest.ensures e queue q short in
    let w = c.complete.ensures in
    let next = c.with_queue.ensures a.last es in
    leaves_answer a.last a.c es 0 a.out.now _ (ends_one Kind.Synthesizer Idle Speaking e queue v a.cause) says _ w.value _ w.out_after
    _ c.in_ok-written.was a.last c.with_queue.result None
    (next ∙ (λ i. with_queue (c.while_any-state.ensures i) (list_of c.without_active-rest.result) v) ∙ (λ i. with_queue (while_any Idle Speaking (rest i)) (rest i) v))
    (ap (λ (x : View). x.name) next)
