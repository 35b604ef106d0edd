-- `loading::edition_at` reads the edition in the place before its number. Assumes nothing.
use Prim.Native.Nat.{ℕ, suc, ◌≤◌}
use mathlib.Core.Path.{◌≡◌, sym, ap, ◌∙◌}
use native.Mathlib.Omega.{arith}
use lib.ListN.{length}
use Rattle.synth.specs.Settings.{edition_at}
use Rattle.synth.proofs.Theorems.Editions.{not_zero}
use Rattle.settings.specs.Kept.{as_further}
use Rattle.loading.proofs.Settings.{as_many, few, not_there, numbered}
use Rattle.loading.proofs.edition_at.Goals as goal
use Rattle.loading.proofs.edition_at.Goals.{then-place-ge-MOST-via-then-place-ge-MOST, then-place-ge-MOST-via-else-place-ge-MOST+then-ws-place}

pub returns-in_err-place : goal.returns-in_err-place
returns-in_err-place c es is h =
    let a = c.args in
    let none : a.number ≡ 0 = omega arith in
    c.from_residual.ensures ∙ ap as_further (sym (ap (λ (n : ℕ). edition_at n es) none ∙ not_zero es))

pub returns-then-place-ge-MOST : goal.returns-then-place-ge-MOST
returns-then-place-ge-MOST c es is h =
    let a = c.args in
    let k = c.in_ok-place.place in
    let before : suc k ≡ a.number = omega arith in
    let past : length es ≤ k = elim c.then-place-ge-MOST.branch [
      | then-place-ge-MOST-via-then-place-ge-MOST w ↦ omega (arith, few a.kind a.ws.now es is h, w.if-place-ge-MOST.true)
      | then-place-ge-MOST-via-else-place-ge-MOST+then-ws-place w ↦ omega (arith, as_many a.kind a.ws.now es is h, w.if-ws-place.true)
    ] in
    not_there a.kind a.ws.now es is h k past ∙ ap (λ (n : ℕ). as_further (edition_at n es)) before

pub returns : goal.returns
returns c es is h =
    let a = c.args in
    let k = c.in_ok-place.place in
    let before : suc k ≡ a.number = omega arith in
    numbered a.kind a.ws.now es is h k c.if-ws-place.false c.edition_in.ensures
    ∙ ap (λ (n : ℕ). as_further (edition_at n es)) before
