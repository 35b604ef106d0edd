-- `engine::end_recognitions` writes the events of those marked, or refuses. Assumes nothing.
use mathlib.Core.Path.{◌≡◌, sym, ◌∙◌, ap}
use mathlib.Core.List.{List, []}
use native.Mathlib.Omega.{arith}
use Rattle.std.proofs.Common.{None}
use mir.Val.{Val}
use denote.Laws.{Is}
use lib.ListN.{length}
use lib.Seq.{length-take-le}
use Rattle.synth.specs.Channel.{View, with_queue}
use Rattle.synth.specs.States.{while_any}
use Rattle.synth.specs.declared.State.TheVariants.{Recognizing, Recognized}
use Rattle.queue.specs.Queue.{list_of}
use Rattle.queue.specs.declared.Ended.{Ended}
use Rattle.queue.specs.contracts.Ended.{the_row}
use Rattle.queue.proofs.Queues.{length_of}
use Rattle.channelnames.proofs.Names.{within}
use Rattle.channel.specs.Channel.{view}
use Rattle.channel.proofs.Parts.{bytes_44, size_short}
use Rattle.calls.proofs.Leaving.{leaves_too_long, leaves_answer}
use Rattle.engine.proofs.Reports.{queue_within, events_written}
use Rattle.engine.specs.Endings.{ends_marked}
use Rattle.engine.proofs.end_recognitions.Goals as goal

listed_16 : (r : Ended) (vs : List Val) → Is the_row r vs → length r.listed.ids ≡ 16
listed_16 r vs good = search length_of

pub shared_ref_as_front-name : goal.shared_ref_as_front-name
shared_ref_as_front-name c =
    let ch = c.args.c in
    omega (arith, bytes_44 ch _ c.well_formed.1.0, size_short ch _ c.well_formed.1.0 c.args.last [] (c.requires []))

pub slice_bounds-name-end : goal.slice_bounds-name-end
slice_bounds-name-end c =
    let ch = c.args.c in
    sym (length-take-le ch.name.size ch.name.bytes (omega (arith, bytes_44 ch _ c.well_formed.1.0, size_short ch _ c.well_formed.1.0 c.args.last [] (c.requires []))))

pub shared_ref_as_front-ids : goal.shared_ref_as_front-ids
shared_ref_as_front-ids c =
    let r = c.end-ended in
    omega (arith, listed_16 r.result _ r.type_inv, (r.ensures.ends (queue_within (view c.args.last c.args.c []) (c.requires []))).lists.few)

pub slice_bounds-ids-end : goal.slice_bounds-ids-end
slice_bounds-ids-end c =
    let r = c.end-ended in
    let few = (r.ensures.ends (queue_within (view c.args.last c.args.c []) (c.requires []))).lists.few in
    sym (length-take-le r.result.listed.count r.result.listed.ids (omega (arith, listed_16 r.result _ r.type_inv, few)))

pub returns-in_err-written : goal.returns-in_err-written
returns-in_err-written c = λ es.
    let a = c.args in
    let v = view a.last a.c es in
    let named = within a.c.name (size_short a.c _ c.well_formed.1.0 a.last [] (c.requires [])) in
    let ended = c.end-ended.ensures.ends (queue_within v (c.requires es)) in
    let says = events_written v a.mask _ _ a.cause ended.lists.shown named in
    let w = c.complete_all.ensures in
    leaves_too_long a.last a.c es 0 a.out.now _ (ends_marked a.mask v a.cause) says _ w.value _ w.out_after
    c.in_err-written.was c.from_residual.result c.from_residual.ensures.1

pub returns : goal.returns
returns c = λ es.
    let a = c.args in
    let v = view a.last a.c es in
    let named = within a.c.name (size_short a.c _ c.well_formed.1.0 a.last [] (c.requires [])) in
    let ended = c.end-ended.ensures.ends (queue_within v (c.requires es)) in
    let says = events_written v a.mask _ _ a.cause ended.lists.shown named in
    let w = c.complete_all.ensures in
    let next = c.with_queue.ensures a.last es in
    leaves_answer a.last a.c es 0 a.out.now _ (ends_marked a.mask v a.cause) says _ w.value _ w.out_after
    _ c.in_ok-written.was a.last c.with_queue.result None
    (next ∙ (λ i. with_queue (c.while_any-state.ensures i) (list_of c.end-ended.result.queue) v)
    ∙ (λ i. with_queue (while_any Recognized Recognizing (ended.left i)) (ended.left i) v))
    (ap (λ (x : View). x.name) next)
