-- `queue::active` gives the first entry, where one is counted. Assumes nothing.
use mathlib.Core.Path.{sym, ap}
use Rattle.queue.specs.Queue.{first}
use Rattle.queue.proofs.Queues.{numbers_16, levels_16, none_in, active_is}
use Rattle.queue.proofs.active.Goals as goal

pub returns-then-q-eq0 : goal.returns-then-q-eq0
returns-then-q-eq0 c = sym (ap first (none_in c.args.q c.if-q-eq0.true))

pub returns : goal.returns
returns c =
    let q = c.args.q in
    rw (c.id_in.ensures, c.kill_in.ensures, c.level_in.ensures)
    (active_is q (numbers_16 q _ c.well_formed.0) (levels_16 q _ c.well_formed.0) c.if-q-eq0.false)
