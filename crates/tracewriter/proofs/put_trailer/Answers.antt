-- `tracewriter::put_trailer` meets its contract. Assumes nothing.
use Rattle.std.proofs.Common.{append_assoc}
use Rattle.writers.proofs.Put.{◌▸◌}
use Rattle.tracewriter.proofs.put_trailer.Goals as goal

pub returns : goal.returns
returns c = rw append_assoc at (c.put_four-p.ensures ▸ c.put_four-q.ensures ▸ c.put_bytes.ensures)
