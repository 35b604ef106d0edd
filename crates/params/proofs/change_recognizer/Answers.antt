-- `params::change_recognizer` takes the three settings of a recognizer. Assumes nothing.
use mathlib.Core.Path.{◌≡◌, refl, ap, ◌∙◌}
use borrow.Author.Rules.{rules}
use Rattle.synth.specs.Settings as S
use Rattle.synth.specs.Settings.{no_input_timeout, confidence_threshold, sensitivity_level}
use Rattle.values.specs.Values.{given_of}
use Rattle.params.proofs.Taking.{took}
use Rattle.params.proofs.Changing.{taken_for, due, three_taken}
use Rattle.params.proofs.change_recognizer.Goals as goal
use Rattle.params.proofs.change_recognizer.Goals.{After-take, After-take-2, After-take-3}

silence : (c : After-take) → let a = c.args in c.take.result ≡ due a.f.now a.h a.set no_input_timeout
silence c =
    let a = c.args in
    took S.millis _ _ _ c.take.ensures (λ p h. search rules)
    ∙ ap (λ g. taken_for no_input_timeout (given_of a.f.now g) a.set) c.value-silence_given.ensures

confidence : (c : After-take-2) → let a = c.args in c.take-2.result ≡ due a.f.now a.h a.set confidence_threshold
confidence c =
    let a = c.args in
    took S.level _ _ _ c.take-2.ensures (λ p h. search rules)
    ∙ ap (λ g. taken_for confidence_threshold (given_of a.f.now g) a.set) c.value-confidence_given.ensures

sensitivity : (c : After-take-3) → let a = c.args in c.take-3.result ≡ due a.f.now a.h a.set sensitivity_level
sensitivity c =
    let a = c.args in
    took S.level _ _ _ c.take-3.ensures (λ p h. search rules)
    ∙ ap (λ g. taken_for sensitivity_level (given_of a.f.now g) a.set) c.value-sensitivity_given.ensures

pub returns-in_err-silence : goal.returns-in_err-silence
returns-in_err-silence c =
    let a = c.args in
    three_taken a.f.now a.h a.set (search rules) (silence (goal.at.returns-in_err-silence c).After-take) refl refl

pub returns-in_err-confidence : goal.returns-in_err-confidence
returns-in_err-confidence c =
    let a = c.args in
    let at = goal.at.returns-in_err-confidence c in
    three_taken a.f.now a.h a.set (search rules) (silence at.After-take) (confidence at.After-take-2) refl

pub returns-in_err-sensitivity : goal.returns-in_err-sensitivity
returns-in_err-sensitivity c =
    let a = c.args in
    let at = goal.at.returns-in_err-sensitivity c in
    three_taken a.f.now a.h a.set (search rules)
    (silence at.After-take) (confidence at.After-take-2) (sensitivity at.After-take-3)

pub returns : goal.returns
returns c =
    let a = c.args in
    let at = goal.at.returns c in
    three_taken a.f.now a.h a.set (search rules)
    (silence at.After-take) (confidence at.After-take-2) (sensitivity at.After-take-3)
