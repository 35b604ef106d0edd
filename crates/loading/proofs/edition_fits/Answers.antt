-- `loading::edition_fits` goes by the kind, and tests one setting after the other. Assumes nothing.
use Prim.Native.Nat.{◌+◌}
use mathlib.Core.Path.{◌≡◌, sym, ◌∙◌}
use mathlib.Core.Bool.{Bool, true, false, ◌&&◌}
use native.Mathlib.Omega.{arith}
use lib.ListN.{get_or}
use Rattle.loading.specs.Steps.{is_own}
use Rattle.loading.proofs.Settings.{two_fit, three_fit}
use Rattle.loading.proofs.edition_fits.Goals as goal
use Rattle.loading.proofs.edition_fits.Goals.{Joined-setting_fits-2, then-setting_fits-2, else-setting_fits-2}

on : {a : Bool} (b : Bool) → a ≡ true → (a && b) ≡ b
on b e = rw e

off : {a : Bool} (b : Bool) → a ≡ false → (a && b) ≡ false
off b e = rw e

pub returns-then-setting_fits : goal.returns-then-setting_fits
returns-then-setting_fits c =
    let a = c.args in
    let first = sym c.setting_fits.ensures ∙ c.if-setting_fits.true in
    rw c.in-Synthesizer.is (c.setting_fits-then-setting_fits.ensures ∙ sym (two_fit a.at a.ws.now ∙ on _ first))

pub returns-else-setting_fits : goal.returns-else-setting_fits
returns-else-setting_fits c =
    let a = c.args in
    let first = sym c.setting_fits.ensures ∙ c.if-setting_fits.false in
    rw c.in-Synthesizer.is (c.if-setting_fits.false ∙ sym (two_fit a.at a.ws.now ∙ off _ first))

-- the first two of a recognizer's
both_fit : (c : Joined-setting_fits-2) → let ws = c.args.ws.now in let at = c.args.at in
    c.if-setting_fits-2.value ≡ (is_own 2 10000000000000000000 (get_or ws at 0) (get_or ws (at + 1) 0) && is_own 3 1000001 (get_or ws (at + 2) 0) (get_or ws (at + 2 + 1) 0))
both_fit c =
    elim c.if-setting_fits-2.branch [
      | then-setting_fits-2 w ↦ rw (sym c.setting_fits-in-Recognizer.ensures ∙ w.if-setting_fits-2.true) (w.value-is ∙ w.setting_fits-then-setting_fits-2.ensures)
      | else-setting_fits-2 w ↦ rw (sym c.setting_fits-in-Recognizer.ensures ∙ w.if-setting_fits-2.false) (w.value-is ∙ w.if-setting_fits-2.false)
    ]

pub returns-then-setting_fits-3 : goal.returns-then-setting_fits-3
returns-then-setting_fits-3 c =
    let a = c.args in
    let four : a.at + 4 ≡ a.at + 2 + 2 = omega arith in
    let first = sym (both_fit (goal.at.returns-then-setting_fits-3 c).Joined-setting_fits-2) ∙ c.if-setting_fits-3.true in
    rw c.in-Recognizer.is (rw four at c.setting_fits-then-setting_fits-3.ensures ∙ sym (three_fit a.at a.ws.now ∙ on _ first))

pub returns-else-setting_fits-3 : goal.returns-else-setting_fits-3
returns-else-setting_fits-3 c =
    let a = c.args in
    let first = sym (both_fit (goal.at.returns-else-setting_fits-3 c).Joined-setting_fits-2) ∙ c.if-setting_fits-3.false in
    rw c.in-Recognizer.is (c.if-setting_fits-3.false ∙ sym (three_fit a.at a.ws.now ∙ off _ first))
