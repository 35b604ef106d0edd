-- `header::next_step` meets its contract.
-- Assumes nothing.
use mathlib.Core.Path.{ap, ◌∙◌}
use Rattle.std.specs.Prelude.{Some}
use Rattle.header.proofs.Stepping.{name_inside}
use Rattle.header.proofs.next_step.Goals as goal

pub known_of-k-requires : goal.known_of-k-requires
known_of-k-requires c =
    let a = c.args in
    name_inside a.f.now a.at c.field_line.result (c.field_line.ensures c.requires) c.in-Field.x c.in-Field.next
    (c.in_ok-next.was ∙ ap Some c.in-Field.is)
