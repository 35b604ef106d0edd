-- `startline::named` meets its contract: what is left behind the name, at each `return`. Assumes nothing.
use mathlib.Core.Path.{◌≡◌, refl, sym, ap, ◌∙◌}
use Prim.Native.Nat.{◌-◌}
use native.Mathlib.Omega.{arith}
use lib.ListN.{drop, drop_of_length-le}
use Rattle.message.specs.StartLines.{starts_capital}
use Rattle.startline.specs.Rules.{behind_name}
use Rattle.startline.proofs.Said.{ended_space, ended_stray}
use Rattle.readers.proofs.Positions.{here}
use Rattle.startline.proofs.Judged.{name_wrong, name_long, name_left}
use Rattle.startline.proofs.named.Goals as goal
use Rattle.startline.proofs.named.Goals.{After-is_capital, then-len-gt-LONGEST_NAME-via-then-len-gt-LONGEST_NAME, then-len-gt-LONGEST_NAME-via-else-len-gt-LONGEST_NAME+then-not-has}

-- what the first byte is
first : (c : After-is_capital) → starts_capital (drop c.args.at c.args.f.now) ≡ c.is_capital.result
first c =
    let a = c.args in
    ap starts_capital (here a.f.now a.at (omega arith)) ∙ sym c.is_capital.ensures

pub returns-then-f-at : goal.returns-then-f-at
returns-then-f-at c =
    let a = c.args in
    sym (name_wrong a.f.now a.at (ap starts_capital (drop_of_length-le a.f.now {i = a.at} (omega arith))))

pub returns-then-not-is_capital : goal.returns-then-not-is_capital
returns-then-not-is_capital c =
    let a = c.args in
    sym (name_wrong a.f.now a.at (first (goal.at.returns-then-not-is_capital c).After-is_capital ∙ c.if-not-is_capital.true))

pub returns-then-len-gt-LONGEST_NAME : goal.returns-then-len-gt-LONGEST_NAME
returns-then-len-gt-LONGEST_NAME c =
    let a = c.args in
    let e = c.name_end-end in
    let capital = first (goal.at.returns-then-len-gt-LONGEST_NAME c).After-is_capital ∙ c.if-not-is_capital.false in
    elim c.then-len-gt-LONGEST_NAME.branch [
      | then-len-gt-LONGEST_NAME-via-then-len-gt-LONGEST_NAME w ↦ sym (name_long a.f.now a.at _ e.ensures w.if-len-gt-LONGEST_NAME.true)
      | then-len-gt-LONGEST_NAME-via-else-len-gt-LONGEST_NAME+then-not-has w ↦
          sym (name_left a.f.now a.at _ e.ensures capital w.if-len-gt-LONGEST_NAME.false
          ∙ ended_stray (behind_name (record { start = a.at; len = e.result - a.at })) a.f.now e.result refl (sym w.has.ensures ∙ w.if-not-has.true))
    ]

pub returns : goal.returns
returns c =
    let a = c.args in
    let e = c.name_end-end in
    let capital = first (goal.at.returns c).After-is_capital ∙ c.if-not-is_capital.false in
    c.behind_name.ensures ∙ sym (name_left a.f.now a.at _ e.ensures capital c.if-len-gt-LONGEST_NAME.false
    ∙ ended_space (behind_name (record { start = a.at; len = e.result - a.at })) a.f.now e.result (sym c.has.ensures ∙ c.if-not-has.false))
