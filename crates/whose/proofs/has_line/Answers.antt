-- `whose::has_line` meets its contract. The loop's invariant: a CRLF stands from the start on exactly if one stands
-- from here on.
-- Assumes nothing.
use mathlib.Core.Path.{sym, ◌∙◌}
use borrow.Author.Rules.{rules}
use Rattle.whose.proofs.Looking.{line_here, line_later, line_nowhere}
use Rattle.whose.proofs.has_line.Goals as goal

pub returns-then-crlf : goal.returns-then-crlf
returns-then-crlf c =
    let l = c.loop-i in
    let s = c.args.s.now in
    sym (l.invariant ∙ line_here s l.i (sym c.crlf.ensures ∙ c.if-crlf.true))

pub loop-i-preserved : goal.loop-i-preserved
loop-i-preserved c =
    let l = c.loop-i in
    let s = c.args.s.now in
    l.invariant ∙ line_later s l.i (search rules) (sym c.crlf.ensures ∙ c.if-crlf.false)

pub returns : goal.returns
returns c =
    let l = c.loop-i in
    sym (l.invariant ∙ line_nowhere c.args.s.now l.i (search rules))
