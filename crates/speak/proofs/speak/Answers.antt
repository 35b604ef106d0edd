-- `speak::speak` goes by what Kill-On-Barge-In says. Assumes nothing.
use Prim.Native.Nat.{ℕ, ◌≤◌}
use mathlib.Core.Path.{◌≡◌, refl, sym, ap, subst, ◌∙◌}
use mathlib.Core.Bool.{false}
use mathlib.Core.List.{List}
use Rattle.message.specs.Message.{Fields}
use Rattle.message.specs.declared.Known.TheVariants.{KillOnBargeIn}
use Rattle.synth.specs.Channel.{View, with_queue}
use Rattle.synth.specs.Request.{acting}
use Rattle.synth.specs.States.{kill_set}
use Rattle.synth.specs.declared.Method.{Method}
use Rattle.queue.specs.Queue.{list_of}
use Rattle.values.specs.Values.{given_of, kill_of}
use Rattle.request.specs.Telling.{Tells, value_by}
use Rattle.outcomes.specs.Outcomes.{asked, Makes}
use Rattle.outcomes.proofs.Making.{makes_failed}
use Rattle.speak.proofs.Speaking.{kill_given, kill_illegal, set_few, speak_illegal, speak_legal, kill_told}
use Rattle.speak.proofs.Speaking.{speak_entry, ignored_in_speak}
use Rattle.speak.proofs.speak.Goals as goal
use Rattle.speak.proofs.speak.Goals.{After-kill_of}

asked_value : (c : After-kill_of) (v : View) (major minor : ℕ) (fs : Fields (List ℕ))
    → let a = c.args in
    Tells false a.f.now a.h fs
    → c.kill_of.result ≡ kill_of (kill_set a.set.kill) (acting KillOnBargeIn (asked major minor Method.Speak a.id fs))
asked_value c v major minor fs told =
    let a = c.args in
    c.kill_of.ensures
    ∙ ap (λ g. kill_of c.kill_set.result (given_of a.f.now g)) c.value-given.ensures
    ∙ ap (λ x. kill_of x (given_of a.f.now (value_by a.h KillOnBargeIn))) c.kill_set.ensures
    ∙ ap (kill_of (kill_set a.set.kill)) (kill_told v major minor a.id fs a.f.now a.h told)

pub returns-in_default : goal.returns-in_default
returns-in_default c = λ fit v of moment major minor fs told.
    let a = c.args in
    let r = asked major minor Method.Speak a.id fs in
    let value = asked_value (goal.at.returns-in_default c).After-kill_of v major minor fs told in
    makes_failed v r a.state a.q 404 refl c.failed.ensures
    (speak_illegal (with_queue a.state (list_of a.q) v) major minor a.id fs
    (kill_illegal _ (acting KillOnBargeIn r) (sym c.in_default.is ∙ value)))

pub returns : goal.returns
returns c = λ fit v of moment major minor fs told.
    let a = c.args in
    let w = with_queue a.state (list_of a.q) v in
    let value = asked_value (goal.at.returns c).After-kill_of v major minor fs told in
    let r = asked major minor Method.Speak a.id fs in
    let said = kill_given _ a.set.kill (acting KillOnBargeIn r) (sym c.in-Some.is ∙ value) in
    let few : c.level_set-threshold.result ≤ 1000000 = rw c.level_set-threshold.ensures (set_few a.kind a.set fit) in
    let ignored = c.meets-ignored.ensures ∙ ignored_in_speak v major minor a.id fs a.f.now a.h told in
    subst (Makes w c.enter.result) (sym (speak_legal w major minor a.id fs said.0))
    (c.enter.ensures refl few a.set v of moment major minor fs
    (told, ignored, speak_entry w major minor a.id fs a.set _ _ said.1 c.level_set-threshold.ensures))
