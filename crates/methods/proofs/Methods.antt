-- What judgements 6 to 11 come to for each method but SPEAK and RECOGNIZE, one law for each way out. Assumes nothing.
use Prim.Native.Nat.{ℕ}
use mathlib.Core.Path.{◌≡◌, refl, sym, ap, ◌∙◌}
use mathlib.Core.Bool.{Bool, true, false, not, false≢true}
use mathlib.Core.Option.{Option}
use mathlib.Core.List.{List, [], ◌∷◌}
use Rattle.message.specs.Message.{Fields}
use Rattle.message.specs.declared.Known.TheVariants.{ActiveRequestIdList}
use Rattle.message.specs.declared.RequestState.TheVariants.{Complete}
use Rattle.answer.specs.IdList.{is_id_list}
use Rattle.synth.specs.Channel.{View, is, is_busy, held}
use Rattle.synth.specs.Request.{Request, acting, ignores_any}
use Rattle.synth.specs.Judgement.{◌then◌, unless, optional, permitted, legal, of_kind, is_valid, valid, content}
use Rattle.synth.specs.Judgement.{capacity, late}
use Rattle.synth.specs.States.{failed, succeeded, stop, barge_in, active, resume, act, after_late}
use Rattle.synth.specs.declared.Entry.{Entry}
use Rattle.synth.specs.declared.Method.{Method}
use Rattle.synth.specs.declared.State.TheVariants.{Idle, Speaking, Paused}
use Rattle.queue.specs.Queue.{first}
use Rattle.header.specs.declared.Header.{Header}
use Rattle.values.specs.Values.{given_of}
use Rattle.values.specs.Steps.{meets}
use Rattle.request.specs.Telling.{Tells, value_by}
use Rattle.request.proofs.Telling.{ignores}
use Rattle.outcomes.specs.Outcomes.{asked}

-- past judgement 8, of a method that needs something outstanding
pub busy_of : (b : Bool) → not (not b) ≡ true → b ≡ true
busy_of true e = refl
busy_of false e = absurd (false≢true e)

module _ (v : View) (major minor id : ℕ) (fs : Fields (List ℕ)) where
  -- STOP
  module _ where
    abbrev stops : Request
    stops = asked major minor Method.Stop id fs

    pub stop_illegal : optional is_id_list (acting ActiveRequestIdList stops) ≡ false → after_late (late v stops) v stops ≡ failed v stops 404
    unfolding late permitted legal acting unless ◌then◌
    stop_illegal e = rw e

    stopping : optional is_id_list (acting ActiveRequestIdList stops) ≡ true → after_late (late v stops) v stops ≡ stop (acting ActiveRequestIdList stops) v stops
    unfolding late permitted legal of_kind valid content capacity acting unless ◌then◌ act
    stopping e = rw e

    pub stop_legal : (list : Option (List ℕ)) → list ≡ acting ActiveRequestIdList stops → optional is_id_list list ≡ true → after_late (late v stops) v stops ≡ stop list v stops
    stop_legal list l e = stopping (ap (optional is_id_list) (sym l) ∙ e) ∙ ap (λ x. stop x v stops) (sym l)

    pub list_told : (f : List ℕ) (h : Header) → Tells false f h fs → given_of f (value_by h ActiveRequestIdList) ≡ acting ActiveRequestIdList stops
    unfolding acting
    list_told f h w = w.value ActiveRequestIdList refl

    pub ignored_in_stop : (f : List ℕ) (h : Header) → Tells false f h fs → meets h.mask 3988 ≡ ignores_any stops
    ignored_in_stop f h w = ignores false f h fs w major minor id Method.Stop 3988 refl

  -- BARGE-IN-OCCURRED
  module _ where
    abbrev barges : Request
    barges = asked major minor Method.BargeInOccurred id fs

    barge : after_late (late v barges) v barges ≡ barge_in v.queue v barges
    unfolding late permitted legal of_kind valid content capacity acting unless ◌then◌ act
    barge = refl

    pub barge_kills : (first v.queue).kill ≡ true → after_late (late v barges) v barges ≡ succeeded v barges Complete (held v) Idle []
    barge_kills e = barge ∙ go v.queue e
      where
        go : (queue : List Entry) → (first queue).kill ≡ true → barge_in queue v barges ≡ succeeded v barges Complete (held v) Idle []
        go [] e = absurd (false≢true e)
        go (x ∷ queue) e = rw (e, barge_in)

    pub barge_spares : (first v.queue).kill ≡ false → after_late (late v barges) v barges ≡ succeeded v barges Complete [] v.state v.queue
    barge_spares e = barge ∙ go v.queue e
      where
        go : (queue : List Entry) → (first queue).kill ≡ false → barge_in queue v barges ≡ succeeded v barges Complete [] v.state v.queue
        go [] e = refl
        go (x ∷ queue) e = rw (e, barge_in)

  -- judgement 8
  pub not_valid : (m : Method) → is_valid m (is_busy v.state) ≡ false
      → let r : Request = asked major minor m id fs in after_late (late v r) v r ≡ failed v r 402
  unfolding late permitted legal of_kind valid content capacity acting unless ◌then◌
  not_valid Method.Speak e = absurd (false≢true (sym e))
  not_valid Method.Stop e = absurd (false≢true (sym e))
  not_valid Method.Pause e = rw e
  not_valid Method.Resume e = rw e
  not_valid Method.Control e = rw e
  not_valid Method.BargeInOccurred e = absurd (false≢true (sym e))
  not_valid Method.Unknown e = absurd (false≢true (sym e))
  not_valid Method.Recognize e = absurd (false≢true (sym e))
  not_valid Method.StartInputTimers e = rw e
  not_valid Method.SetParams e = absurd (false≢true (sym e))
  not_valid Method.GetParams e = absurd (false≢true (sym e))

  -- PAUSE, CONTROL and RESUME
  module _ where
    abbrev pauses : Request
    pauses = asked major minor Method.Pause id fs

    pub pause_busy : is_busy v.state ≡ true → after_late (late v pauses) v pauses ≡ succeeded v pauses Complete (active v.queue) Paused v.queue
    unfolding late permitted legal of_kind valid content capacity acting unless ◌then◌ act
    pause_busy e = rw e

  module _ where
    abbrev controls : Request
    controls = asked major minor Method.Control id fs

    pub control_busy : is_busy v.state ≡ true → after_late (late v controls) v controls ≡ succeeded v controls Complete (active v.queue) v.state v.queue
    unfolding late permitted legal of_kind valid content capacity acting unless ◌then◌ act
    control_busy e = rw e

  module _ where
    abbrev resumes : Request
    resumes = asked major minor Method.Resume id fs

    resuming : is_busy v.state ≡ true → after_late (late v resumes) v resumes ≡ resume v resumes
    unfolding late permitted legal of_kind valid content capacity acting unless ◌then◌ act
    resuming e = rw e

    pub resume_paused : v.state ≡ Paused → after_late (late v resumes) v resumes ≡ succeeded v resumes Complete (active v.queue) Speaking v.queue
    resume_paused e = resuming (rw e refl) ∙ rw e

    pub resume_speaking : is_busy v.state ≡ true → is v.state Paused ≡ false → after_late (late v resumes) v resumes ≡ succeeded v resumes Complete [] v.state v.queue
    resume_speaking b e = resuming b ∙ rw (e, resume)

  -- START-INPUT-TIMERS
  module _ where
    abbrev timers : Request
    timers = asked major minor Method.StartInputTimers id fs

    pub timers_busy : is_busy v.state ≡ true → after_late (late v timers) v timers ≡ succeeded v timers Complete [] v.state v.queue
    unfolding late permitted legal of_kind valid content capacity acting unless ◌then◌ act
    timers_busy e = rw e

  -- another method
  module _ where
    abbrev others : Request
    others = asked major minor Method.Unknown id fs

    pub unknown_fails : after_late (late v others) v others ≡ failed v others 401
    unfolding late permitted legal of_kind valid content capacity acting unless ◌then◌
    unknown_fails = refl
