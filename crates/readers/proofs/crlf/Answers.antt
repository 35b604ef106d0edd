-- `readers::crlf` meets its contract. Assumes nothing.
use mathlib.Core.Path.{sym, ◌∙◌}
use Rattle.readers.proofs.Positions.{crlf_from}
use Rattle.readers.proofs.crlf.Goals as goal

pub returns-then-has : goal.returns-then-has
returns-then-has c =
    let a = c.args in
    c.has-then-has.ensures ∙ sym (crlf_from a.f.now a.at (sym c.has.ensures ∙ c.if-has.true))
