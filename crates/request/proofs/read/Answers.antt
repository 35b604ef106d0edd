-- `request::read` meets its contract.
-- Assumes nothing.
use mathlib.Core.Path.{sym, subst}
use Rattle.message.specs.Message.{part, on_fields}
use Rattle.message.specs.Reading.{fields_from}
use Rattle.message.proofs.Says.{fields_from_lem}
use Rattle.request.specs.Telling.{Told}
use Rattle.request.proofs.Telling.{told}
use Rattle.request.proofs.read.Goals as goal

pub returns : goal.returns
returns c =
    let a = c.args in
    let f = a.f.now in
    let x = fields_from a.params f a.at in
    subst (λ h. Told a.params f h (on_fields (part f) x)) (sym c.read_header.ensures.0)
    (told a.params f a.at x (fields_from_lem a.params f a.at))
