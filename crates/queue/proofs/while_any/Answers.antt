-- `queue::while_any` goes by the count. Assumes nothing.
use mathlib.Core.Path.{sym, ◌∙◌}
use Rattle.queue.specs.Queue.{list_of}
use Rattle.queue.proofs.Queues.{count_is, none_last, some_stays}
use Rattle.queue.proofs.while_any.Goals as goal

pub returns-then-q-eq0 : goal.returns-then-q-eq0
returns-then-q-eq0 c =
    let q = c.args.q in
    sym (none_last c.args.last c.args.state (list_of q) (count_is q _ c.well_formed.1.1.0 ∙ c.if-q-eq0.true))

pub returns-else-q-eq0 : goal.returns-else-q-eq0
returns-else-q-eq0 c =
    let q = c.args.q in
    sym (some_stays c.args.last c.args.state (list_of q) (λ z. c.if-q-eq0.false (sym (count_is q _ c.well_formed.1.1.0) ∙ z)))
