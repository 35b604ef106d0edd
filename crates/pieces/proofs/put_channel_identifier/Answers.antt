-- `pieces::put_channel_identifier` meets its contract: name and colon, value, CRLF. Assumes nothing.
use Rattle.writers.proofs.Put.{◌▸◌}
use Rattle.answer.specs.Written.{field_text}
use Rattle.pieces.proofs.put_channel_identifier.Goals as goal

pub returns : goal.returns
unfolding field_text
returns c = c.put_bytes-p.ensures
    ▸ c.put_bytes-q.ensures
    ▸ c.put_bytes.ensures
