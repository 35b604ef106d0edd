-- `queue::list_active` lists the first entry's id, where one is counted. Assumes nothing.
use mathlib.Core.Path.{◌≡◌, sym, ap, ◌∙◌}
use mathlib.Core.List.{◌∷◌, []}
use native.Mathlib.Omega.{arith}
use lib.ListN.{length}
use Rattle.synth.specs.States.{active as active_in}
use Rattle.queue.specs.Queue.{list_of}
use Rattle.queue.proofs.Queues.{numbers_16, levels_16, count_is, none_in, active_is, active_listed, none_listed}
use Rattle.queue.proofs.list_active.Goals as goal

pub returns-then-q-eq0 : goal.returns-then-q-eq0
returns-then-q-eq0 c = rw (c.list_none.ensures, none_in c.args.q c.if-q-eq0.true) none_listed

pub returns : goal.returns
returns c =
    let q = c.args.q in
    let left = c.if-q-eq0.false in
    let is = active_is q (numbers_16 q _ c.well_formed.0) (levels_16 q _ c.well_formed.0) left in
    let listed : c.id_in.result ∷ [] ≡ active_in (list_of q) =
    ap (λ n. n ∷ []) c.id_in.ensures ∙ ap (λ e. e.id ∷ []) is ∙ active_listed (list_of q) (λ z. left (sym (count_is q _ c.well_formed.0) ∙ z)) in
    record { shown = listed; counted = ap length listed; few = omega arith }
