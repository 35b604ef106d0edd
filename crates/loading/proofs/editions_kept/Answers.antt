-- `loading::editions_kept` meets its contract. Assumes nothing.
use Prim.Native.Nat.{ℕ, ◌+◌, ◌*◌}
use mathlib.Core.Path.{◌≡◌, sym, ◌∙◌}
use mathlib.Core.Bool.{true, ◌&&◌}
use mathlib.Core.Logic.{inl, inr}
use native.Mathlib.Omega.{arith}
use lib.Dec.{leb}
use lib.ListN.{get_or}
use borrow.Author.Count.{below_more}
use borrow.Author.Tests.{le-leb, lt-leb}
use Rattle.synth.specs.Settings.{settings}
use Rattle.channelnumbers.specs.Numbers.{edition_from}
use Rattle.loading.specs.Steps.{edition_kept}
use Rattle.loading.proofs.Settings.{last_off, unfit_many, unfit_one, all_fit}
use Rattle.loading.proofs.editions_kept.Goals as goal

pub returns-then-n-eq0 : goal.returns-then-n-eq0
returns-then-n-eq0 c =
    let a = c.args in
    let n = get_or a.ws.now 64 0 in
    unfit_many a.kind a.ws.now (elim c.then-n-eq0.either [
      | inl none ↦ rw (lt-leb 1 n (omega (arith, none)))
      | inr many ↦ rw (lt-leb n 4 (omega (arith, many))) (sym (last_off (leb 1 n)))
    ])

pub loop-i-preserved : goal.loop-i-preserved
loop-i-preserved c =
    let a = c.args in
    let P : ℕ → Type 0 = λ k. edition_kept a.kind (edition_from (settings a.kind) (65 + k * 6) a.ws.now) ≡ true in
    below_more P c.loop-i.i c.loop-i.invariant (sym c.edition_fits.ensures ∙ c.if-not-edition_fits.false)

pub returns-then-not-edition_fits : goal.returns-then-not-edition_fits
returns-then-not-edition_fits c =
    let a = c.args in
    unfit_one a.kind a.ws.now c.loop-i.i c.loop-i-test.true (sym c.edition_fits.ensures ∙ c.if-not-edition_fits.true)

pub returns : goal.returns
returns c =
    let a = c.args in
    let n = get_or a.ws.now 64 0 in
    let few : (leb 1 n && leb n 4) ≡ true = rw (le-leb 1 n (omega arith), le-leb n 4 (omega arith)) in
    all_fit a.kind a.ws.now few (λ k h. c.loop-i.invariant k (omega arith))
