-- `methods::resume` goes by the state. Assumes nothing.
use mathlib.Core.Path.{◌≡◌, refl, sym, ap, ◌∙◌}
use mathlib.Core.Bool.{false}
use Rattle.message.specs.declared.RequestState.TheVariants.{Complete}
use Rattle.synth.specs.Channel.{with_queue, is}
use Rattle.synth.specs.Judgement.{is_valid}
use Rattle.synth.specs.declared.Method.{Method}
use Rattle.synth.specs.declared.State.{State}
use Rattle.synth.specs.declared.State.TheVariants.{Idle, Speaking, Paused, Recognizing, Recognized}
use Rattle.queue.specs.Queue.{list_of}
use Rattle.queue.proofs.Queues.{none_listed}
use Rattle.outcomes.specs.Outcomes.{asked}
use Rattle.outcomes.proofs.Making.{makes_failed, makes_success}
use Rattle.methods.proofs.Methods.{busy_of, not_valid, resume_speaking, resume_paused}
use Rattle.methods.proofs.resume.Goals as goal

not_paused : (s : State) → (s ≡ Paused → ⊥) → is s Paused ≡ false
not_paused Idle n = refl
not_paused Speaking n = refl
not_paused Paused n = absurd (n refl)
not_paused Recognizing n = refl
not_paused Recognized n = refl

pub returns-then-not-is_valid : goal.returns-then-not-is_valid
returns-then-not-is_valid c = λ v major minor fs told.
    let a = c.args in
    makes_failed v (asked major minor Method.Resume a.id fs) a.state a.q 402 refl c.failed.ensures
    (not_valid (with_queue a.state (list_of a.q) v) major minor a.id fs Method.Resume
    (sym (c.is_valid.ensures ∙ ap (is_valid Method.Resume) c.is_busy.ensures) ∙ c.if-not-is_valid.true))

pub returns-in-Paused : goal.returns-in-Paused
returns-in-Paused c = λ v major minor fs told.
    let a = c.args in
    let w = with_queue a.state (list_of a.q) v in
    makes_success w (asked major minor Method.Resume a.id fs) Speaking a.q told Complete _ c.succeeded.ensures c.list_active.ensures refl
    (resume_paused w major minor a.id fs c.in-Paused.is)

pub returns-in_default : goal.returns-in_default
returns-in_default c = λ v major minor fs told.
    let a = c.args in
    let w = with_queue a.state (list_of a.q) v in
    let busy =
    busy_of _ (ap (is_valid Method.Resume) (sym c.is_busy.ensures) ∙ sym c.is_valid.ensures ∙ c.if-not-is_valid.false) in
    let other = not_paused a.state c.in_default.not-Paused in
    makes_success w (asked major minor Method.Resume a.id fs) a.state a.q told Complete _ c.succeeded-in_default.ensures
    (rw c.list_none.ensures none_listed) refl
    (resume_speaking w major minor a.id fs busy other)
