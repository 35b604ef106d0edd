-- `params::change_synthesizer` takes the two settings of a synthesizer. Assumes nothing.
use mathlib.Core.Path.{◌≡◌, refl, ap, ◌∙◌}
use borrow.Author.Rules.{rules}
use Rattle.synth.specs.Settings as S
use Rattle.synth.specs.Settings.{kill_on_barge_in, fetch_timeout}
use Rattle.values.specs.Values.{given_of}
use Rattle.params.proofs.Taking.{took}
use Rattle.params.proofs.Changing.{taken_for, due, two_taken}
use Rattle.params.proofs.change_synthesizer.Goals as goal
use Rattle.params.proofs.change_synthesizer.Goals.{After-take, After-take-2}

kill : (c : After-take) → let a = c.args in c.take.result ≡ due a.f.now a.h a.set kill_on_barge_in
kill c =
    let a = c.args in
    took S.flag _ _ _ c.take.ensures (λ p h. search rules)
    ∙ ap (λ g. taken_for kill_on_barge_in (given_of a.f.now g) a.set) c.value-kill_given.ensures

fetch : (c : After-take-2) → let a = c.args in c.take-2.result ≡ due a.f.now a.h a.set fetch_timeout
fetch c =
    let a = c.args in
    took S.millis _ _ _ c.take-2.ensures (λ p h. search rules)
    ∙ ap (λ g. taken_for fetch_timeout (given_of a.f.now g) a.set) c.value-fetch_given.ensures

pub returns-in_err-kill : goal.returns-in_err-kill
returns-in_err-kill c =
    let a = c.args in
    two_taken a.f.now a.h a.set (search rules) (kill (goal.at.returns-in_err-kill c).After-take) refl

pub returns-in_err-fetch : goal.returns-in_err-fetch
returns-in_err-fetch c =
    let a = c.args in
    let at = goal.at.returns-in_err-fetch c in
    two_taken a.f.now a.h a.set (search rules) (kill at.After-take) (fetch at.After-take-2)

pub returns : goal.returns
returns c =
    let a = c.args in
    let at = goal.at.returns c in
    two_taken a.f.now a.h a.set (search rules) (kill at.After-take) (fetch at.After-take-2)
