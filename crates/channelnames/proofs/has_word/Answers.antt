-- `channelnames::has_word` counts the letters and digits at the front. Assumes nothing.
use mathlib.Core.Path.{sym, ◌∙◌}
use borrow.Author.Tests.{eqb-true, eqb-false}
use Rattle.channelnames.proofs.Words.{no_word, no_run, run_front}
use Rattle.channelnames.proofs.has_word.Goals as goal

pub returns-then-k-lt-SHORT : goal.returns-then-k-lt-SHORT
returns-then-k-lt-SHORT c =
    let counted = c.word.ensures.0 in (
      λ e. sym counted ∙ eqb-true c.word.result c.args.k e,
      λ e. no_word c.args.name.now c.args.k c.requires (λ w. eqb-false c.word.result c.args.k e (counted ∙ w)),
    )

pub returns-else-k-lt-SHORT : goal.returns-else-k-lt-SHORT
returns-else-k-lt-SHORT c =
    let word = c.word-else-k-lt-SHORT in
    let counted = word.ensures.0 in (
      λ e. run_front c.args.name.now c.args.k c.requires (sym counted ∙ eqb-true word.result c.args.k e),
      λ e. no_run c.args.name.now c.args.k c.requires (λ w. eqb-false word.result c.args.k e (counted ∙ w)),
    )
