-- `header::number` meets its contract, by the digits at the front.
-- Assumes nothing.
use mathlib.Core.Path.{ap, ◌∙◌}
use Rattle.std.specs.Bool.{then_some}
use lib.ListN.{length}
use Rattle.std.proofs.lemmas.Bool.{ne_eqb}
use Rattle.header.proofs.Lengths.{stated_part, stated_whole}
use Rattle.header.proofs.number.Goals as goal
use Rattle.header.proofs.number.Goals.{then-d-v, else-d-v}

pub returns : goal.returns
returns c =
    let d = c.digits_at-d in
    let v = c.args.v.now in
    c.then_some.ensures ∙ elim c.if-d-v.branch [
      | then-d-v w ↦ ap (λ b. then_some b d.result.value) w.then_some-is
          ∙ stated_whole v d.result d.ensures w.if-d-v.true
      | else-d-v w ↦ ap (λ b. then_some b d.result.value) (w.then_some-is ∙ ne_eqb d.result.count (length v) w.if-d-v.false)
          ∙ stated_part v d.result d.ensures w.if-d-v.false
    ]
