-- What a judged request says is one of three: a success, a success that tells fields, or a failure, which is COMPLETE and lists
-- nothing; so what all three have, it has.
-- Assumes nothing.
use Prim.Native.Nat.{ℕ}
use mathlib.Core.Path.{◌≡◌, refl}
use mathlib.Core.Bool.{true}
use mathlib.Core.List.{List, [], ◌∷◌}
use Rattle.std.specs.Prelude.{Some}
use Rattle.lists.proofs.Tests.{choose}
use Rattle.message.specs.Message.{Message, Field}
use Rattle.message.specs.declared.RequestState.{RequestState}
use Rattle.message.specs.declared.RequestState.TheVariants.{Complete}
use Rattle.answer.specs.Answers.{response, telling}
use Rattle.synth.specs.Channel.{View, with_last, is, is_busy}
use Rattle.synth.specs.Request.{Request}
use Rattle.synth.specs.Judgement.{Verdict, passes, fails, success, early, late}
use Rattle.synth.specs.States.{Outcome, enter, barge_in, resume, act, after_late, after_early, judge}
use Rattle.synth.specs.declared.State.{State}
use Rattle.synth.specs.declared.State.TheVariants.{Speaking, Paused, Recognizing}
use Rattle.synth.specs.declared.Method.{Method}
use Rattle.synth.specs.declared.Entry.{Entry}
use Rattle.synth.proofs.Verdicts.{is_failure, Fair, failing, early_fair, late_fair}

module _ (name : List ℕ) (r : Request) (P : List Message → Type 0) where
  -- what every success has, whether it lists ids or tells fields, and every failure
  abbrev pub OfSuccess : Type 0
  OfSuccess = (state : RequestState) (listed : List ℕ) → P (response name r.id (success r) state listed ∷ [])

  abbrev pub OfTelling : Type 0
  OfTelling = (fields : List (Field (List ℕ))) → P (telling name r.id (success r) fields ∷ [])

  abbrev pub OfFailure : Type 0
  OfFailure = (status : ℕ) → is_failure status ≡ true → P (response name r.id status Complete [] ∷ [])

module _ (v : View) (r : Request) (P : List Message → Type 0) (when-succeeds : OfSuccess v.name r P)
    (when-tells : OfTelling v.name r P) (when-fails : OfFailure v.name r P) where
  abbrev Has : Outcome → Type 0
  Has o = P o.says

  entered : (s : State) → Has (enter s v r)
  entered s = choose Has (is_busy v.state) (λ _. when-succeeds _ _) (λ _. when-succeeds _ _)

  barged : (q : List Entry) → Has (barge_in q v r)
  barged [] = when-succeeds _ _
  barged (e ∷ q) = choose Has e.kill (λ _. when-succeeds _ _) (λ _. when-succeeds _ _)

  resumed : Has (resume v r)
  resumed = choose Has (is v.state Paused) (λ _. when-succeeds _ _) (λ _. when-succeeds _ _)

  acted : (m : Method) → Has (act m v r)
  unfolding act
  acted Method.Speak = entered Speaking
  acted Method.Stop = when-succeeds _ _
  acted Method.Pause = when-succeeds _ _
  acted Method.Resume = resumed
  acted Method.Control = when-succeeds _ _
  acted Method.BargeInOccurred = barged v.queue
  acted Method.Unknown = when-fails 401 refl
  acted Method.Recognize = entered Recognizing
  acted Method.StartInputTimers = when-succeeds _ _
  acted Method.SetParams = when-succeeds _ _
  acted Method.GetParams = when-tells _

  after_late_lem : (l : Verdict) → Fair l → Has (after_late l v r)
  after_late_lem passes h = acted r.method
  after_late_lem (fails status) h = when-fails status (failing status h)

module _ (v : View) (r : Request) (P : List Message → Type 0) (when-succeeds : OfSuccess v.name r P)
    (when-tells : OfTelling v.name r P) (when-fails : OfFailure v.name r P) where
  after_early_lem : (l : Verdict) → Fair l → P (after_early l v r).says
  after_early_lem passes h = let seen : View = with_last (Some r.id) v in after_late_lem seen r P when-succeeds when-tells when-fails (late seen r) (late_fair seen r)
  after_early_lem (fails status) h = when-fails status (failing status h)

  pub judged_says : P (judge v r).says
  unfolding judge
  judged_says = after_early_lem (early v r) (early_fair v r)
