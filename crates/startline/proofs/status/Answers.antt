-- `startline::status` meets its contract: what is left behind the status, at each `return`. Assumes nothing.
use mathlib.Core.Path.{◌≡◌, refl, sym, ap, ◌∙◌}
use Prim.Native.Nat.{◌+◌}
use native.Mathlib.Omega.{arith}
use lib.ListN.{drop}
use Rattle.message.specs.Message.{response}
use Rattle.startline.specs.Rules.{said, told, last_word, from_status}
use Rattle.startline.proofs.Said.{ended_space, ended_stray}
use Rattle.startwords.proofs.Positions.{digits_end}
use Rattle.startline.proofs.Judged.{status_wrong, status_left}
use Rattle.startline.proofs.LastWord.{last_by, last_told}
use Rattle.startline.proofs.status.Goals as goal
use Rattle.startline.proofs.status.Goals.{After-last_state, then-digits-ne3-via-then-digits-ne3, then-digits-ne3-via-else-digits-ne3+then-not-has}

-- at the last word
last : (c : After-last_state) →
    let a = c.args in
    told (from_status a.id) a.at (said (drop a.at a.f.now)) ≡ last_by (response a.id c.digits_at-digits.result.value) c.last_state.result
last c =
    let a = c.args in
    let d = c.digits_at-digits in
    let start = response a.id d.result.value in
    let four : a.at + 3 + 1 ≡ a.at + 4 = omega arith in
    status_left a.f.now a.id a.at _ d.ensures c.if-digits-ne3.false
    ∙ ended_space (last_word start) a.f.now (a.at + 3) (sym c.has.ensures ∙ c.if-not-has.false)
    ∙ ap (λ n. told (last_word start) n (said (drop n a.f.now))) four ∙ last_told start _ _ ∙ ap (last_by start) (sym c.last_state.ensures)

pub overflow_add-at : goal.overflow_add-at
overflow_add-at c =
    let a = c.args in
    let d = c.digits_at-digits in
    omega (arith, digits_end 3 a.f.now a.at d.result d.ensures)

pub returns-then-digits-ne3 : goal.returns-then-digits-ne3
returns-then-digits-ne3 c =
    let a = c.args in
    let d = c.digits_at-digits in
    elim c.then-digits-ne3.branch [
      | then-digits-ne3-via-then-digits-ne3 w ↦ sym (status_wrong a.f.now a.id a.at _ d.ensures w.if-digits-ne3.true)
      | then-digits-ne3-via-else-digits-ne3+then-not-has w ↦
          sym (status_left a.f.now a.id a.at _ d.ensures w.if-digits-ne3.false
          ∙ ended_stray (last_word (response a.id d.result.value)) a.f.now (a.at + 3) refl (sym w.has.ensures ∙ w.if-not-has.true))
    ]

pub returns-in_err-last : goal.returns-in_err-last
returns-in_err-last c = rw c.from_residual.ensures (sym (last (goal.at.returns-in_err-last c).After-last_state ∙ ap (last_by _) c.in_err-last.was))

pub returns : goal.returns
returns c = sym (last (goal.at.returns c).After-last_state ∙ ap (last_by _) c.in_ok-last.was)
