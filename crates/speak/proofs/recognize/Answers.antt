-- `speak::recognize` goes by what Confidence-Threshold says. Assumes nothing.
use Prim.Native.Nat.{ℕ, ◌≤◌}
use mathlib.Core.Path.{◌≡◌, refl, sym, ap, subst, ◌∙◌}
use mathlib.Core.Bool.{false}
use mathlib.Core.List.{List}
use Rattle.message.specs.Message.{Fields}
use Rattle.message.specs.declared.Known.TheVariants.{ConfidenceThreshold}
use Rattle.synth.specs.Channel.{View, with_queue}
use Rattle.synth.specs.Request.{acting}
use Rattle.synth.specs.States.{level_set}
use Rattle.synth.specs.declared.Method.{Method}
use Rattle.queue.specs.Queue.{list_of}
use Rattle.values.specs.Values.{given_of, threshold_of}
use Rattle.request.specs.Telling.{Tells, value_by}
use Rattle.outcomes.specs.Outcomes.{asked, Makes}
use Rattle.outcomes.proofs.Making.{makes_failed}
use Rattle.speak.proofs.Speaking.{level_given, level_illegal, set_few, threshold_few, recognize_illegal}
use Rattle.speak.proofs.Speaking.{recognize_legal, level_told, recognize_entry, ignored_in_recognize}
use Rattle.speak.proofs.recognize.Goals as goal
use Rattle.speak.proofs.recognize.Goals.{After-threshold_of}

asked_value : (c : After-threshold_of) (v : View) (major minor : ℕ) (fs : Fields (List ℕ))
    → let a = c.args in
    Tells false a.f.now a.h fs → c.threshold_of.result
    ≡ threshold_of (level_set a.set.confidence) (acting ConfidenceThreshold (asked major minor Method.Recognize a.id fs))
asked_value c v major minor fs told =
    let a = c.args in
    c.threshold_of.ensures
    ∙ ap (λ g. threshold_of c.level_set.result (given_of a.f.now g)) c.value-given.ensures
    ∙ ap (λ x. threshold_of x (given_of a.f.now (value_by a.h ConfidenceThreshold))) c.level_set.ensures
    ∙ ap (threshold_of (level_set a.set.confidence)) (level_told v major minor a.id fs a.f.now a.h told)

pub returns-in_default : goal.returns-in_default
returns-in_default c = λ fit v of moment major minor fs told.
    let a = c.args in
    let r = asked major minor Method.Recognize a.id fs in
    let value = asked_value (goal.at.returns-in_default c).After-threshold_of v major minor fs told in
    makes_failed v r a.state a.q 404 refl c.failed.ensures
    (recognize_illegal (with_queue a.state (list_of a.q) v) major minor a.id fs
    (level_illegal _ (acting ConfidenceThreshold r) (sym c.in_default.is ∙ value)))

pub returns : goal.returns
returns c = λ fit v of moment major minor fs told.
    let a = c.args in
    let w = with_queue a.state (list_of a.q) v in
    let r = asked major minor Method.Recognize a.id fs in
    let value = asked_value (goal.at.returns c).After-threshold_of v major minor fs told in
    let said = level_given _ a.set.confidence (acting ConfidenceThreshold r) (sym c.in-Some.is ∙ value) in
    let few = subst (λ n. n ≤ 1000000) (sym said.1)
    (threshold_few a.set.confidence (set_few a.kind a.set fit) (acting ConfidenceThreshold r)) in
    let ignored = c.meets-ignored.ensures ∙ ignored_in_recognize v major minor a.id fs a.f.now a.h told in
    subst (Makes w c.enter.result) (sym (recognize_legal w major minor a.id fs said.0))
    (c.enter.ensures refl few a.set v of moment major minor fs
    (told, ignored, recognize_entry w major minor a.id fs a.set _ _ c.kill_set-kill.ensures said.1))
