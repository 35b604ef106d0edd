-- `methods::stop_named` asks which of the ids held the list names; those end. Assumes nothing.
use Prim.Native.Nat.{◌≤◌}
use mathlib.Core.Path.{sym, ap, ◌∙◌, refl}
use mathlib.Core.Option.{some}
use native.Mathlib.Omega.{arith}
use lib.ListN.{length, length-map}
use lib.Seq.{length-take-le}
use Rattle.message.specs.Folds.{joined}
use Rattle.answer.specs.IdList.{is_id_list}
use Rattle.idlist.specs.Named.{named_in}
use Rattle.synth.specs.Channel.{with_queue, ids}
use Rattle.synth.specs.Judgement.{optional}
use Rattle.synth.specs.declared.Method.{Method}
use Rattle.queue.specs.Queue.{list_of}
use Rattle.queue.proofs.Queues.{ids_16}
use Rattle.outcomes.specs.Outcomes.{asked}
use Rattle.outcomes.proofs.Making.{makes_failed}
use Rattle.methods.proofs.Methods.{stop_illegal, stop_legal}
use Rattle.methods.proofs.Stops.{held_few, named_joined, named_illegal, named_those, named_end}
use Rattle.methods.proofs.stop_named.Goals as goal

pub slice_bounds-named-end : goal.slice_bounds-named-end
slice_bounds-named-end c =
    let l = c.list_held-held.result in
    sym (length-take-le l.count l.ids (omega (arith, ids_16 l _ c.list_held-held.type_inv, held_few (list_of c.args.q) l (c.list_held-held.ensures.lists, c.list_held-held.ensures.value))))

pub returns-in_default : goal.returns-in_default
returns-in_default c = λ few v major minor fs told.
    let a = c.args in
    let asks = c.named.ensures ∙ named_joined a.v.now _ in
    let illegal = named_illegal (joined a.v.now) _ asks c.in_default.is in
    makes_failed v (asked major minor Method.Stop a.id fs) a.state a.q 404 refl c.failed.ensures
    (stop_illegal (with_queue a.state (list_of a.q) v) major minor a.id fs (ap (optional is_id_list) (sym told.1) ∙ illegal))

pub returns : goal.returns
returns c = λ few v major minor fs told.
    let a = c.args in
    let held = ids (list_of a.q) in
    let all = c.list_held-held.ensures.lists few in
    let asks = c.named.ensures ∙ named_joined a.v.now _
    ∙ ap (named_in (joined a.v.now)) all.shown in
    let short : length held ≤ 16 = rw length-map few in
    let those = named_those (joined a.v.now) held _ asks c.in-Some.is short in
    named_end a.state a.q v (asked major minor Method.Stop a.id fs) told.0 (joined a.v.now) _ those.1 (c.end.ensures few)
    (stop_legal (with_queue a.state (list_of a.q) v) major minor a.id fs (some (joined a.v.now)) told.1 those.0)
