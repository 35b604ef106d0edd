-- `whose::behind_opening` meets its contract. Assumes nothing.
use mathlib.Core.Path.{sym, ◌∙◌}
use mathlib.Core.Bool.{false≢true}
use Rattle.whose.proofs.Looking.{opened_told, opened_wrong}
use Rattle.whose.proofs.behind_opening.Goals as goal

pub returns-in-Some : goal.returns-in-Some
returns-in-Some c =
    let a = c.args in
    opened_told a.front.length a.front.opening.stated a.s.now _ c.looked_at.ensures c.if-stated-front.false
    _ c.in-Some.line.next _ c.id_in.ensures c.in-Some.ensures

pub returns-in-None-2 : goal.returns-in-None-2
returns-in-None-2 c =
    let a = c.args in
    opened_wrong a.front.length a.front.opening.stated a.s.now _ c.looked_at.ensures c.if-stated-front.false
    c.in-None.ensures (λ e. absurd (false≢true (sym e ∙ sym c.has_line.ensures ∙ c.if-not-has_line.false)))

pub returns-in-None-2-2 : goal.returns-in-None-2-2
returns-in-None-2-2 c =
    let a = c.args in
    opened_wrong a.front.length a.front.opening.stated a.s.now _ c.looked_at.ensures c.if-stated-front.false
    c.in-None.ensures (λ _. sym c.may_come.ensures ∙ c.if-may_come.false)
