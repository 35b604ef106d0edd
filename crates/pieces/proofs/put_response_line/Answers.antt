-- `pieces::put_response_line` meets its contract: six runs, one behind the other. Assumes nothing.
use native.Mathlib.Omega.{arith}
use Rattle.writers.proofs.Digits.{three_length}
use Rattle.writers.proofs.Put.{◌▸◌}
use Rattle.answer.specs.Written.{start_text}
use Rattle.pieces.proofs.put_response_line.Goals as goal

pub put_bytes-s-requires : goal.put_bytes-s-requires
put_bytes-s-requires c = grind (arith, three_length c.args.a.status.code)

pub put_state-t-requires : goal.put_state-t-requires
put_state-t-requires c = grind (arith, three_length c.args.a.status.code)

pub put_bytes-requires : goal.put_bytes-requires
put_bytes-requires c = grind (arith, three_length c.args.a.status.code)

pub returns : goal.returns
unfolding start_text
returns c = rw (← c.from.ensures)
    (c.put_digits-p.ensures
    ▸ c.put_bytes-q.ensures
    ▸ c.put_three-r.ensures
    ▸ c.put_bytes-s.ensures
    ▸ c.put_state-t.ensures
    ▸ c.put_bytes.ensures)
