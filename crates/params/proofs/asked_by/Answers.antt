-- `params::asked_by` asks for the settings named, or for all. Assumes nothing.
use mathlib.Core.Path.{◌≡◌, sym, ap, ◌∙◌}
use mathlib.Core.Bool.{Bool}
use Rattle.told.specs.Told.{told}
use Rattle.values.specs.Steps.{meets}
use Rattle.params.specs.Steps.{setting_bits}
use Rattle.params.proofs.Asking.{asks_named, asks_all}
use Rattle.params.proofs.asked_by.Goals as goal
use Rattle.params.proofs.asked_by.Goals.{After-meets}

met : (c : After-meets) (b : Bool) → c.meets.result ≡ b
    → let a = c.args in meets a.mask (setting_bits a.kind) ≡ b
met c b e =
    ap (meets c.args.mask) (sym c.setting_bits-all.ensures) ∙ sym c.meets.ensures ∙ e

pub returns-then-meets : goal.returns-then-meets
returns-then-meets c =
    let a = c.args in
    asks_named a.mask a.kind (met (goal.at.returns-then-meets c).After-meets _ c.if-meets.true)

pub returns : goal.returns
returns c =
    let a = c.args in
    ap (told a.kind) c.setting_bits-all.ensures
    ∙ asks_all a.mask a.kind (met (goal.at.returns c).After-meets _ c.if-meets.false)
