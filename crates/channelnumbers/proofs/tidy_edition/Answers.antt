-- `channelnumbers::tidy_edition` stores the values that are kept, and by the kind a third or zeros. Assumes nothing.
use Prim.Native.Nat.{◌≤◌}
use Rattle.channelnumbers.proofs.Tidying.{synthesizer_tidied, recognizer_tidied}
use borrow.Author.Rules.{rules}
use Rattle.channelnumbers.proofs.tidy_edition.Goals as goal

pub returns-in-Synthesizer : goal.returns-in-Synthesizer
returns-in-Synthesizer c =
    let a = c.args in
    let room : a.at ≤ 83 = search rules in
    let first = c.value_kept.ensures in
    let second = c.value_kept-2.ensures in
    rw c.in-Synthesizer.is (λ e. synthesizer_tidied a.ws.now a.at _ _ room first second e c.told-ws)

pub returns-in-Recognizer : goal.returns-in-Recognizer
returns-in-Recognizer c =
    let a = c.args in
    let room : a.at ≤ 83 = search rules in
    let first = c.value_kept.ensures in
    let second = c.value_kept-2.ensures in
    let told = c.in-Recognizer.is in
    rw told (λ e. recognizer_tidied a.ws.now a.at _ _ room first second e _ c.value_kept-in-Recognizer.ensures c.told-ws)
