-- `judgement::for_us` compares the name, and then the id. Assumes nothing.
use mathlib.Core.Path.{sym, ap, ◌∙◌, refl}
use Rattle.message.specs.Folds.{joined}
use Rattle.synth.specs.Judgement.{fails}
use Rattle.channelnames.specs.Names.{name_of}
use Rattle.judgement.proofs.Order.{name_told, other_name, not_above, ours_above}
use Rattle.judgement.proofs.for_us.Goals as goal

pub returns-then-not-is_name : goal.returns-then-not-is_name
returns-then-not-is_name c = λ h v major minor m fs l n x.
    let a = c.args in
    ap fails refl
    ∙ other_name v major minor m a.id fs (joined a.v.now) x (name_told v (name_of a.name) a.v.now n h c.is_name.ensures ∙ c.if-not-is_name.true)

pub returns-then-not-is_above : goal.returns-then-not-is_above
returns-then-not-is_above c = λ h v major minor m fs l n x.
    let a = c.args in
    ap fails refl
    ∙ not_above v major minor m a.id fs (joined a.v.now) x (name_told v (name_of a.name) a.v.now n h c.is_name.ensures ∙ c.if-not-is_name.false)
    (rw l (sym c.is_above.ensures ∙ c.if-not-is_above.true))

pub returns : goal.returns
returns c = λ h v major minor m fs l n x.
    let a = c.args in
    ours_above v major minor m a.id fs (joined a.v.now) x (name_told v (name_of a.name) a.v.now n h c.is_name.ensures ∙ c.if-not-is_name.false)
    (rw l (sym c.is_above.ensures ∙ c.if-not-is_above.false))
