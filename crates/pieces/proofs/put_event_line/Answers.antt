-- `pieces::put_event_line` meets its contract: four runs, one behind the other. Assumes nothing.
use Prim.Native.Nat.{ℕ}
use mathlib.Core.Path.{◌≡◌, sym}
use mathlib.Core.List.{List, ◌++◌, append_assoc}
use Rattle.octets.specs.Octets.{bytes, crlf}
use Rattle.writers.specs.Decimal.{digits}
use Rattle.writers.proofs.Put.{◌▸◌}
use Rattle.message.specs.Message.{event}
use Rattle.message.specs.declared.RequestState.TheVariants.{Complete}
use Rattle.answer.specs.Written.{start_text}
use Rattle.pieces.proofs.put_event_line.Goals as goal

-- the four runs are the line
event_line_lem : (name : List ℕ) (id : ℕ) → name ++ bytes " " ++ digits id ++ bytes " COMPLETE\r\n" ≡ start_text (event name id Complete) ++ crlf
unfolding start_text
event_line_lem name id = sym (three (name ++ bytes " " ++ digits id) (bytes " ") (bytes "COMPLETE") crlf)
  where
    three : (a x b y : List ℕ) → a ++ x ++ b ++ y ≡ a ++ (x ++ b ++ y)
    three a x b y = simp append_assoc

pub returns : goal.returns
returns c = rw (← event_line_lem _ c.args.id, ← c.event_name.ensures.text, ← c.from.ensures)
    (c.put_bytes-p.ensures ▸ c.put_bytes-q.ensures ▸ c.put_digits-r.ensures ▸ c.put_bytes.ensures)
