-- `octets::alike` meets its contract. The loop's invariant: the texts are of one length, and alike where what is left
-- of them is. Assumes nothing.
use mathlib.Core.Path.{sym, ◌∙◌}
use Rattle.octets.proofs.Texts.{alike_same, alike_lengths}
use Rattle.octets.proofs.alike.Goals as goal

pub returns-then-equal : goal.returns-then-equal
returns-then-equal c = let args = c.args in
    sym (alike_same args.a.now args.b.now (sym c.equal.ensures ∙ c.if-equal.true))

pub returns-then-a-b : goal.returns-then-a-b
returns-then-a-b c = let args = c.args in sym
    (alike_lengths args.a.now args.b.now c.if-a-b.true)
