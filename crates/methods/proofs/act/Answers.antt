-- `methods::act` goes by the method. Assumes nothing.
use Prim.Native.Nat.{ℕ}
use mathlib.Core.Path.{◌≡◌, refl, sym, ap, subst, ◌∙◌}
use mathlib.Core.Bool.{false, false≢true}
use mathlib.Core.Logic.{⊎_elim}
use mathlib.Core.List.{List, map}
use Rattle.lists.specs.Lists.{bit}
use Rattle.message.specs.Message.{Fields}
use Rattle.message.specs.Known.{index_of}
use Rattle.synth.specs.Channel.{View, with_queue}
use Rattle.synth.specs.Request.{Request, is_params, ignored, ignores_any}
use Rattle.synth.specs.Judgement.{late}
use Rattle.synth.specs.States.{after_late}
use Rattle.synth.specs.declared.Method.{Method}
use Rattle.synth.specs.declared.State.{State}
use Rattle.queue.specs.Queue.{list_of}
use Rattle.queue.specs.declared.Queue.{Queue}
use Rattle.header.specs.declared.Header.{Header}
use Rattle.request.specs.Telling.{Tells}
use Rattle.request.proofs.Telling.{each, ignores}
use Rattle.outcomes.specs.Outcomes.{asked, Makes}
use Rattle.outcomes.specs.declared.Outcome.{Outcome}
use Rattle.outcomes.proofs.Making.{makes_failed}
use Rattle.methods.proofs.Methods.{unknown_fails}
use Rattle.methods.proofs.act.Goals as goal
use Rattle.methods.proofs.act.Goals.{After-meets-ignored}

-- what is shown, for one method
abbrev Does : State → Queue → View → List ℕ → Header → Outcome → ℕ → ℕ → ℕ → Fields (List ℕ) → Method → Type 0
Does state q v f h o major minor id fs m =
    let w : View = with_queue state (list_of q) v in
    let r : Request = asked major minor m id fs in
    Tells false f h fs → Makes w o (after_late (late w r) w r)

asked_ignored : (c : After-meets-ignored) (v : View) (major minor : ℕ) (fs : Fields (List ℕ)) → let a = c.args in
    Tells false a.f.now a.h fs → (m : Method) → map (λ k. bit 3996 (index_of k)) each ≡ map (ignored m) each
    → c.meets-ignored.result ≡ ignores_any (asked major minor m a.id fs)
asked_ignored c v major minor fs told m e =
    let a = c.args in
    c.meets-ignored.ensures ∙ ignores false a.f.now a.h fs told major minor a.id m 3996 e

pub returns-in-Speak : goal.returns-in-Speak
returns-in-Speak c = λ few fit plain v of moment major minor fs.
    let a = c.args in
    subst (Does a.state a.q v a.f.now a.h c.speak.result major minor a.id fs) (sym c.in-Speak.is)
    (c.speak.ensures fit v of moment major minor fs)

pub returns-in-Recognize : goal.returns-in-Recognize
returns-in-Recognize c = λ few fit plain v of moment major minor fs.
    let a = c.args in
    subst (Does a.state a.q v a.f.now a.h c.recognize.result major minor a.id fs) (sym c.in-Recognize.is)
    (c.recognize.ensures fit v of moment major minor fs)

pub returns-in-Stop : goal.returns-in-Stop
returns-in-Stop c = λ few fit plain v of moment major minor fs.
    let a = c.args in
    subst (Does a.state a.q v a.f.now a.h c.stop.result major minor a.id fs) (sym c.in-Stop.is)
    (c.stop.ensures few v major minor fs)

pub returns-in-BargeInOccurred : goal.returns-in-BargeInOccurred
returns-in-BargeInOccurred c = λ few fit plain v of moment major minor fs.
    let a = c.args in
    let at = (goal.at.returns-in-BargeInOccurred c).After-meets-ignored in
    subst (Does a.state a.q v a.f.now a.h c.barge_in.result major minor a.id fs) (sym c.in-BargeInOccurred.is)
    (λ told. c.barge_in.ensures few v major minor fs
    (asked_ignored at v major minor fs told Method.BargeInOccurred refl))

pub returns-in-Pause : goal.returns-in-Pause
returns-in-Pause c = λ few fit plain v of moment major minor fs.
    let a = c.args in
    let at = (goal.at.returns-in-Pause c).After-meets-ignored in
    subst (Does a.state a.q v a.f.now a.h c.pause.result major minor a.id fs) (sym c.in-Pause.is)
    (λ told. c.pause.ensures v major minor fs
    (asked_ignored at v major minor fs told Method.Pause refl))

pub returns-in-Resume : goal.returns-in-Resume
returns-in-Resume c = λ few fit plain v of moment major minor fs.
    let a = c.args in
    let at = (goal.at.returns-in-Resume c).After-meets-ignored in
    subst (Does a.state a.q v a.f.now a.h c.resume.result major minor a.id fs) (sym c.in-Resume.is)
    (λ told. c.resume.ensures v major minor fs
    (asked_ignored at v major minor fs told Method.Resume refl))

pub returns-in-Control : goal.returns-in-Control
returns-in-Control c = λ few fit plain v of moment major minor fs.
    let a = c.args in
    let at = (goal.at.returns-in-Control c).After-meets-ignored in
    subst (Does a.state a.q v a.f.now a.h c.control.result major minor a.id fs) (sym c.in-Control.is)
    (λ told. c.control.ensures v major minor fs
    (asked_ignored at v major minor fs told Method.Control refl))

pub returns-in-StartInputTimers : goal.returns-in-StartInputTimers
returns-in-StartInputTimers c = λ few fit plain v of moment major minor fs.
    let a = c.args in
    let at = (goal.at.returns-in-StartInputTimers c).After-meets-ignored in
    subst (Does a.state a.q v a.f.now a.h c.start_timers.result major minor a.id fs) (sym c.in-StartInputTimers.is)
    (λ told. c.start_timers.ensures v major minor fs
    (asked_ignored at v major minor fs told Method.StartInputTimers refl))

pub returns-in-Unknown : goal.returns-in-Unknown
returns-in-Unknown c = λ few fit plain v of moment major minor fs told.
    let a = c.args in
    let w = with_queue a.state (list_of a.q) v in
    let D : Method → Type 0 = λ m. let r : Request = asked major minor m a.id fs in
    Makes w c.failed.result (after_late (late w r) w r) in
    ⊎_elim {C = D a.m} (λ e. subst D (sym e)
    (makes_failed v (asked major minor Method.Unknown a.id fs) a.state a.q 401 refl
    c.failed.ensures (unknown_fails w major minor a.id fs)))
    (⊎_elim {C = D a.m} (λ e. absurd (false≢true (sym plain ∙ ap is_params e)))
    (λ e. absurd (false≢true (sym plain ∙ ap is_params e)))) c.in-Unknown.is
