-- `digits::digits_at` meets its contract. Assumes nothing.
use mathlib.Core.Path.{ap, ap₂, ◌∙◌}
use lib.ListN.{drop}
use Rattle.std.proofs.lemmas.List.{drop_min}
use Rattle.digits.specs.Steps.{digits_at}
use Rattle.digits.proofs.Scanning.{digits_capped}
use Rattle.digits.proofs.digits_at.Goals as goal

pub returns : goal.returns
returns c =
    let a = c.args in
    c.run_at-value.ensures.digits
    ∙ ap₂ (λ n l. digits_at n l) c.min.ensures (ap (λ n. drop n a.s.now) c.min-from.ensures ∙ drop_min a.at a.s.now)
    ∙ digits_capped a.most (drop a.at a.s.now)
