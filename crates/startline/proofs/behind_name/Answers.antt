-- `startline::behind_name` meets its contract: what is left behind the request-id, at each `return`. Assumes nothing.
use mathlib.Core.Path.{◌≡◌, refl, sym, ap, ◌∙◌}
use lib.ListN.{drop}
use Rattle.std.specs.Prelude.{Some, None}
use Rattle.message.specs.Message.{event}
use Rattle.startline.specs.Rules.{said, told, last_word, from_end, behind_name}
use Rattle.startline.proofs.Said.{ended_line, ended_other, ended_space, told_same}
use Rattle.startline.proofs.Judged.{id_found}
use Rattle.startline.proofs.LastWord.{last_by, last_told}
use Rattle.startline.proofs.behind_name.Goals as goal
use Rattle.startline.proofs.behind_name.Goals.{After-last_state}

-- at the last word
last : (c : After-last_state) →
    let a = c.args in
    told (behind_name a.name) a.at (said (drop a.at a.f.now)) ≡ last_by (event a.name c.in_ok-id.id.value) c.last_state.result
last c =
    let a = c.args in
    let id = c.in_ok-id.id in
    let start = event a.name id.value in
    id_found a.f.now (from_end a.name) a.at (Some id) (sym c.in_ok-id.was ∙ c.request_id.ensures)
    ∙ ended_space (from_end a.name id.value) a.f.now id.next (sym c.has.ensures ∙ c.if-not-has.false)
    ∙ told_same (from_end a.name id.value) (last_word start) _ (λ w ws. refl) _ ∙ last_told start _ _ ∙ ap (last_by start) (sym c.last_state.ensures)

pub returns-in_err-id : goal.returns-in_err-id
returns-in_err-id c =
    let a = c.args in
    rw c.from_residual.ensures (sym (id_found a.f.now (from_end a.name) a.at None (sym c.in_err-id.was ∙ c.request_id.ensures)))

pub returns-then-crlf : goal.returns-then-crlf
returns-then-crlf c =
    let a = c.args in
    let id = c.in_ok-id.id in
    sym (id_found a.f.now (from_end a.name) a.at (Some id) (sym c.in_ok-id.was ∙ c.request_id.ensures)
    ∙ ended_line (from_end a.name id.value) a.f.now id.next (sym c.crlf.ensures ∙ c.if-crlf.true))

pub returns-then-not-has : goal.returns-then-not-has
returns-then-not-has c =
    let a = c.args in
    let id = c.in_ok-id.id in
    sym (id_found a.f.now (from_end a.name) a.at (Some id) (sym c.in_ok-id.was ∙ c.request_id.ensures)
    ∙ ended_other (from_end a.name id.value) a.f.now id.next (sym c.crlf.ensures ∙ c.if-crlf.false) (sym c.has.ensures ∙ c.if-not-has.true))

pub returns-in_err-last : goal.returns-in_err-last
returns-in_err-last c =
    rw c.from_residual-in_err-last.ensures (sym (last (goal.at.returns-in_err-last c).After-last_state ∙ ap (last_by _) c.in_err-last.was))

pub returns : goal.returns
returns c = sym (last (goal.at.returns c).After-last_state ∙ ap (last_by _) c.in_ok-last.was)
