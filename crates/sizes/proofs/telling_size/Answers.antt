-- `sizes::telling_size` meets its contract. Assumes nothing.
use Rattle.sizes.proofs.Messages.{telling_measured}
use Rattle.sizes.proofs.telling_size.Goals as goal

pub returns : goal.returns
returns c =
    let a = c.args in
    rw (telling_measured a.name.now a.a a.fields.now, ← c.words_size.ensures.0)
    c.message_size.ensures
