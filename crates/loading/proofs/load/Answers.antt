-- `loading::load` puts the parts together. Assumes nothing.
use Rattle.loading.proofs.Loading.{loads}
use Rattle.loading.proofs.Settings.{first_set}
use Rattle.loading.proofs.load.Goals as goal

pub returns : goal.returns
returns c =
    let queued = rw c.kind_by-kind.ensures at c.load_queue-queue.ensures in
    let ws = c.args.ws.now in
    let set = rw c.kind_by-kind.ensures at (first_set c.kind_by-kind.result ws c.edition_in.ensures) in
    loads ws _ _ _ c.load_name-name.ensures queued
    c.state_at-state.ensures c.last_at.ensures set
