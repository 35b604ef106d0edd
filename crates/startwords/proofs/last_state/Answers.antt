-- `startwords::last_state` meets its contract. Assumes nothing.
use mathlib.Core.Path.{sym, ◌∙◌}
use borrow.Author.Rules.{rules}
use lib.ListN.{length, drop_of_length-le}
use Rattle.std.proofs.lemmas.Slice.{between_to_end}
use Rattle.startwords.specs.Runs.{last_at}
use Rattle.startwords.proofs.last_state.Goals as goal

pub returns-in_err-rest : goal.returns-in_err-rest
unfolding last_at
returns-in_err-rest c =
    let a = c.args in
    rw (c.from_residual.ensures, last_at, drop_of_length-le a.f.now {i = a.at} (search rules))

pub returns-then-text : goal.returns-then-text
unfolding last_at
returns-then-text c =
    let a = c.args in
    let r = c.in_ok-rest.ensures.lookup.0.2 ∙ between_to_end a.f.now a.at (length a.f.now) (search rules) in
    rw (sym r, last_at, sym c.text.ensures.value ∙ c.if-text.true)

pub returns-then-text-2 : goal.returns-then-text-2
unfolding last_at
returns-then-text-2 c =
    let a = c.args in
    let r = c.in_ok-rest.ensures.lookup.0.2 ∙ between_to_end a.f.now a.at (length a.f.now) (search rules) in
    rw (
      sym r,
      last_at,
      sym c.text.ensures.value ∙ c.if-text.false,
      sym c.text-else-text.ensures.value ∙ c.if-text-2.true,
    )

pub returns-then-text-3 : goal.returns-then-text-3
unfolding last_at
returns-then-text-3 c =
    let a = c.args in
    let r = c.in_ok-rest.ensures.lookup.0.2 ∙ between_to_end a.f.now a.at (length a.f.now) (search rules) in
    rw (
      sym r,
      last_at,
      sym c.text.ensures.value ∙ c.if-text.false,
      sym c.text-else-text.ensures.value ∙ c.if-text-2.false,
      sym c.text-else-text-2.ensures.value ∙ c.if-text-3.true,
    )

pub returns-else-text-3 : goal.returns-else-text-3
unfolding last_at
returns-else-text-3 c =
    let a = c.args in
    let r = c.in_ok-rest.ensures.lookup.0.2 ∙ between_to_end a.f.now a.at (length a.f.now) (search rules) in
    rw (
      sym r,
      last_at,
      sym c.text.ensures.value ∙ c.if-text.false,
      sym c.text-else-text.ensures.value ∙ c.if-text-2.false,
      sym c.text-else-text-2.ensures.value ∙ c.if-text-3.false,
    )
