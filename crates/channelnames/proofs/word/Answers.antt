-- `channelnames::word` counts the letters and digits at the front. Assumes nothing.
use mathlib.Core.Path.{◌≡◌, sym, ◌∙◌}
use native.Mathlib.Omega.{arith}
use lib.ListN.{length}
use Rattle.readers.proofs.Positions.{run_end, run_stop, run_step}
use Rattle.channelnames.proofs.word.Invariants.{test}
use Rattle.channelnames.proofs.word.Goals as goal

pub returns-then-not-is_letter_or_digit : goal.returns-then-not-is_letter_or_digit
returns-then-not-is_letter_or_digit c =
    let name = c.args.name.now in
    let no = sym c.is_letter_or_digit.ensures ∙ c.if-not-is_letter_or_digit.true in
    (sym (c.loop-i.invariant ∙ run_stop test name c.loop-i.i c.loop-i-test.true no), omega arith)

pub loop-i-preserved : goal.loop-i-preserved
loop-i-preserved c =
    let name = c.args.name.now in
    let yes = sym c.is_letter_or_digit.ensures ∙ c.if-not-is_letter_or_digit.false in
    c.loop-i.invariant ∙ run_step test name c.loop-i.i c.loop-i-test.true yes

pub returns : goal.returns
returns c =
    let name = c.args.name.now in
    let all : length name ≡ c.loop-i.i = omega arith in
    (all ∙ sym (c.loop-i.invariant ∙ run_end test name c.loop-i.i c.loop-i-test.false), omega arith)
