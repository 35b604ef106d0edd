-- `judgement::early` goes by the Channel-Identifier. Assumes nothing.
use mathlib.Core.Path.{sym, ap, ◌∙◌, refl}
use mathlib.Core.Option.{some}
use Rattle.message.specs.Folds.{joined}
use Rattle.synth.specs.Judgement.{fails}
use Rattle.values.specs.Values.{given_of}
use Rattle.judgement.proofs.Order.{nameless, named, address_told}
use Rattle.judgement.proofs.early.Goals as goal

pub returns-in_default : goal.returns-in_default
returns-in_default c = λ h asks v major minor m fs l n t.
    let a = c.args in
    let said = ap (given_of a.f.now) c.value.ensures ∙ address_told v major minor m a.id fs asks a.f.now a.h t.1 in
    ap fails refl
    ∙ nameless v major minor m a.id fs t.0 (ap (given_of a.f.now) (sym c.in_default.is) ∙ said)

pub returns : goal.returns
returns c = λ h asks v major minor m fs l n t.
    let a = c.args in
    let said = ap (given_of a.f.now) c.value.ensures ∙ address_told v major minor m a.id fs asks a.f.now a.h t.1 in
    let came = ap (λ v. some (joined v)) c.part.ensures ∙ ap (given_of a.f.now) (sym c.in-Some.is) ∙ said in
    c.for_us.ensures h v major minor m fs l n came ∙ named v major minor m a.id fs t.0 _ came
