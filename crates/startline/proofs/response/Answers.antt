-- `startline::response` meets its contract: what is left behind the request-id, at each `return`. Assumes nothing.
use mathlib.Core.Path.{refl, sym, ◌∙◌}
use Rattle.std.specs.Prelude.{Some, None}
use Rattle.startline.specs.Rules.{from_status}
use Rattle.startline.proofs.Said.{ended_space, ended_stray}
use Rattle.startline.proofs.Judged.{id_found}
use Rattle.startline.proofs.response.Goals as goal

pub returns-in_err-id : goal.returns-in_err-id
returns-in_err-id c =
    let a = c.args in
    rw c.from_residual.ensures (sym (id_found a.f.now from_status a.at None (sym c.in_err-id.was ∙ c.request_id.ensures)))

pub returns-then-not-has : goal.returns-then-not-has
returns-then-not-has c =
    let a = c.args in
    let id = c.in_ok-id.id in
    sym (id_found a.f.now from_status a.at (Some id) (sym c.in_ok-id.was ∙ c.request_id.ensures)
    ∙ ended_stray (from_status id.value) a.f.now id.next refl (sym c.has.ensures ∙ c.if-not-has.true))

pub returns : goal.returns
returns c =
    let a = c.args in
    let id = c.in_ok-id.id in
    c.status.ensures ∙ sym (id_found a.f.now from_status a.at (Some id) (sym c.in_ok-id.was ∙ c.request_id.ensures)
    ∙ ended_space (from_status id.value) a.f.now id.next (sym c.has.ensures ∙ c.if-not-has.false))
