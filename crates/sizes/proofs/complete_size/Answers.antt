-- `sizes::complete_size` meets its contract. Assumes nothing.
use Rattle.sizes.proofs.Messages.{event_measured}
use Rattle.sizes.proofs.complete_size.Goals as goal

pub returns : goal.returns
returns c =
    let a = c.args in
    rw (
      event_measured a.kind a.name.now a.id a.cause,
      ← c.event_name.ensures.text,
      ← c.cause_name.ensures.text,
      ← c.from.ensures,
      ← c.width.ensures.0,
    )
    c.message_size.ensures
