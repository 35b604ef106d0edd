-- `readers::text` meets its contract: the two tests say which way the definition goes. Assumes nothing.
use mathlib.Core.Path.{refl, sym, ◌∙◌}
use Rattle.readers.proofs.Scanning.{placed_by}
use Rattle.readers.proofs.text.Goals as goal

pub returns-then-starts_with : goal.returns-then-starts_with
returns-then-starts_with c =
    let a = c.args in
    placed_by a.s.now a.t.now a.at _ c.min.ensures _ _ (sym c.if-starts_with.true ∙ c.starts_with.ensures.value) refl

pub returns-then-starts_with-2 : goal.returns-then-starts_with-2
returns-then-starts_with-2 c =
    let a = c.args in
    placed_by a.s.now a.t.now a.at _ c.min.ensures _ _ (sym c.if-starts_with.false ∙ c.starts_with.ensures.value)
    (sym c.if-starts_with-2.true ∙ c.starts_with-2.ensures.value)

pub returns : goal.returns
returns c =
    let a = c.args in
    placed_by a.s.now a.t.now a.at _ c.min.ensures _ _ (sym c.if-starts_with.false ∙ c.starts_with.ensures.value)
    (sym c.if-starts_with-2.false ∙ c.starts_with-2.ensures.value)
