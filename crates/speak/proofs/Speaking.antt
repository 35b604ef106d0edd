-- What a SPEAK or a RECOGNIZE comes to from judgement 6 on, one law for each way out. Assumes nothing.
use Prim.Native.Nat.{ℕ, ◌≤◌}
use mathlib.Core.Path.{◌≡◌, refl, sym, ap, ap₂, ◌∙◌}
use mathlib.Core.Bool.{Bool, true, false, not, ◌&&◌, ◌||◌, false≢true}
use mathlib.Core.Option as Spec
use mathlib.Core.Option.{none, some}
use Rattle.std.proofs.Common.{Option, Some, None}
use mathlib.Core.List.{List, []}
use native.Mathlib.Omega.{arith}
use lib.Dec.{leb, ltb, lit≤}
use lib.ListN.{length}
use borrow.Author.Tests.{leb-true, leb-false, lt-ltb, le-ltb}
use Rattle.octets.specs.Octets.{bytes, alike}
use Rattle.lists.specs.Lists.{all, is_empty}
use Rattle.lists.proofs.Tests.{both}
use Rattle.message.specs.Message.{Fields, fields_in}
use Rattle.message.specs.Known.{judged_value}
use Rattle.message.specs.Reading.{body_in}
use Rattle.message.specs.declared.Known.TheVariants.{ContentLength, ContentType, KillOnBargeIn, ConfidenceThreshold}
use Rattle.message.specs.declared.RequestState.TheVariants.{Pending, InProgress}
use Rattle.answer.specs.declared.Kind.{Kind}
use Rattle.synth.specs.Levels.{level_in, is_some, is_level}
use Rattle.synth.specs.Settings.{no_input_timeout, confidence_threshold, settings, slot, is_flag, kept_for, is_unset, is_edition_of}
use Rattle.synth.specs.Kinds.{most}
use Rattle.synth.specs.Channel.{View, kind, is_busy}
use Rattle.synth.specs.Request.{Request, opens, acting, ignores_any}
use Rattle.synth.specs.Judgement.{Verdict, passes, fails, ◌then◌, unless, given, optional, anything, is_type_of, permitted, legal, of_kind, valid, content, capacity, late}
use Rattle.synth.specs.States.{failed, succeeded, kill_set, killable, or_zero, level_set, threshold_in, entry_of, joined, enter, act, after_late}
use Rattle.synth.specs.declared.Entry.{Entry}
use Rattle.synth.specs.declared.Level.{Level}
use Rattle.synth.specs.declared.Setting.{Setting}
use Rattle.synth.specs.declared.Edition.{Edition}
use Rattle.synth.specs.declared.Method.{Method}
use Rattle.synth.specs.declared.State.{State}
use Rattle.synth.specs.declared.State.TheVariants.{Speaking, Recognizing}
use Rattle.header.specs.declared.Header.{Header}
use Rattle.synth.proofs.Levels.{kept_most, read_exact}
use Rattle.values.specs.Values.{given_of, kill_of, millionths_in, threshold_of, content_by}
use Rattle.values.specs.Steps.{meets}
use Rattle.request.specs.Telling.{Tells, value_by}
use Rattle.request.proofs.Telling.{ignores}
use Rattle.outcomes.specs.Outcomes.{asked}

abbrev no_flag : Option Bool
no_flag = None

abbrev no_level : Option ℕ
no_level = None

-- what Kill-On-Barge-In says
abbrev killed : Bool → Bool → Option Bool
killed t f = elim t [ true ↦ Some true | false ↦ elim f [ true ↦ Some false | false ↦ None ] ]

pub kill_given : (kill : Bool) (x : Setting) (o : Spec.Option (List ℕ)) → Some kill ≡ kill_of (kill_set x) o
    → (optional is_flag o ≡ true) × (kill ≡ killable x o)
kill_given kill x none e = (refl, cc)
kill_given kill x (some v) e = go (alike v (bytes "true")) (alike v (bytes "false")) e
  where
    go : (t f : Bool) → Some kill ≡ killed t f → ((t || f) ≡ true) × (kill ≡ t)
    go true f e = (refl, cc)
    go false true e = (refl, cc)
    go false false e = let d : ◌≡◌ {A = ℕ} 0 1 = cc in absurd (omega arith)

pub kill_illegal : (otherwise : Bool) (o : Spec.Option (List ℕ)) → no_flag ≡ kill_of otherwise o → optional is_flag o ≡ false
kill_illegal otherwise none e = let d : ◌≡◌ {A = ℕ} 0 1 = cc in absurd (omega arith)
kill_illegal otherwise (some v) e = go (alike v (bytes "true")) (alike v (bytes "false")) e
  where
    go : (t f : Bool) → no_flag ≡ killed t f → (t || f) ≡ false
    go true f e = let d : ◌≡◌ {A = ℕ} 0 1 = cc in absurd (omega arith)
    go false true e = let d : ◌≡◌ {A = ℕ} 0 1 = cc in absurd (omega arith)
    go false false e = refl

-- what Confidence-Threshold says
pub level_given : (n : ℕ) (x : Setting) (o : Spec.Option (List ℕ)) → Some n ≡ threshold_of (level_set x) o
    → (optional is_level o ≡ true) × (n ≡ threshold_in x o)
level_given n x none e = (refl, cc)
level_given n x (some v) e = go (level_in v) e
  where
    go : (l : Spec.Option Level) → Some n ≡ millionths_in l → (is_some l ≡ true) × (n ≡ or_zero l)
    go none e = let d : ◌≡◌ {A = ℕ} 0 1 = cc in absurd (omega arith)
    go (some l) e = (refl, cc)

pub level_illegal : (otherwise : ℕ) (o : Spec.Option (List ℕ)) → no_level ≡ threshold_of otherwise o
    → optional is_level o ≡ false
level_illegal otherwise none e = let d : ◌≡◌ {A = ℕ} 0 1 = cc in absurd (omega arith)
level_illegal otherwise (some v) e = go (level_in v) e
  where
    go : (l : Spec.Option Level) → no_level ≡ millionths_in l → is_some l ≡ false
    go none e = refl
    go (some l) e = let d : ◌≡◌ {A = ℕ} 0 1 = cc in absurd (omega arith)

-- a level has at most a million millionths, whether it is set or given
unset_kept : (x : Setting) → is_unset x ≡ true → kept_for confidence_threshold x ≡ true
unset_kept Setting.Unset e = refl
unset_kept (Setting.Flag b) e = absurd (false≢true e)
unset_kept (Setting.Millis n) e = absurd (false≢true e)
unset_kept (Setting.Level l) e = absurd (false≢true e)

confidence_kept : (k : Kind) (e : Edition) → is_edition_of k e ≡ true → kept_for confidence_threshold e.confidence ≡ true
confidence_kept Kind.Synthesizer e h =
    let others = (both (all (λ n. kept_for n (slot n e)) (settings Kind.Synthesizer))
    (all (λ n. is_unset (slot n e)) (settings Kind.Recognizer)) h).1 in
    unset_kept e.confidence
    (both (is_unset e.confidence) _ (both (is_unset e.silence) _ others).1).0
confidence_kept Kind.Recognizer e h =
    let own = (both (all (λ n. kept_for n (slot n e)) (settings Kind.Recognizer))
    (all (λ n. is_unset (slot n e)) (settings Kind.Synthesizer)) h).0 in
    (both (kept_for confidence_threshold e.confidence) _ (both (kept_for no_input_timeout e.silence) _ own).1).0

kept_few : (x : Setting) → kept_for confidence_threshold x ≡ true → level_set x ≤ 1000000
kept_few Setting.Unset h = lit≤ tt
kept_few (Setting.Flag b) h = lit≤ tt
kept_few (Setting.Millis n) h = lit≤ tt
kept_few (Setting.Level l) h = kept_most l h

pub set_few : (k : Kind) (e : Edition) → is_edition_of k e ≡ true → level_set e.confidence ≤ 1000000
set_few k e h = kept_few e.confidence (confidence_kept k e h)

pub threshold_few : (x : Setting) → level_set x ≤ 1000000 → (o : Spec.Option (List ℕ)) → threshold_in x o ≤ 1000000
threshold_few x h none = h
threshold_few x h (some v) = go (level_in v) refl
  where
    go : (l : Spec.Option Level) → level_in v ≡ l → or_zero l ≤ 1000000
    go none e = lit≤ tt
    go (some l) e = (read_exact v l e).most

-- judgement 6
module _ (v : View) (major minor id : ℕ) (fs : Fields (List ℕ)) where
  module _ where
    abbrev speaks : Request
    speaks = asked major minor Method.Speak id fs

    pub speak_illegal : optional is_flag (acting KillOnBargeIn speaks) ≡ false → after_late (late v speaks) v speaks ≡ failed v speaks 404
    unfolding late permitted legal acting unless ◌then◌
    speak_illegal e = rw e

    pub speak_legal : optional is_flag (acting KillOnBargeIn speaks) ≡ true → after_late (late v speaks) v speaks ≡ after_late (content speaks then capacity v speaks) v speaks
    unfolding late permitted legal of_kind valid acting unless ◌then◌
    speak_legal e = rw e

    pub kill_told : (f : List ℕ) (h : Header) → Tells false f h fs → given_of f (value_by h KillOnBargeIn) ≡ acting KillOnBargeIn speaks
    unfolding acting
    kill_told f h w = w.value KillOnBargeIn refl

    pub speak_entry : (set : Edition) (kill : Bool) (n : ℕ) → kill ≡ killable set.kill (acting KillOnBargeIn speaks)
        → n ≡ level_set set.confidence → record { id = id; kill = kill; threshold = n } ≡ entry_of set speaks
    unfolding acting
    speak_entry set kill n e f = ap₂ {C = Entry} (λ (b : Bool) (n : ℕ). record { id = id; kill = b; threshold = n }) e f

    pub ignored_in_speak : (f : List ℕ) (h : Header) → Tells false f h fs → meets h.mask 3976 ≡ ignores_any speaks
    ignored_in_speak f h w = ignores false f h fs w major minor id Method.Speak 3976 refl

  module _ where
    abbrev recognizes : Request
    recognizes = asked major minor Method.Recognize id fs

    pub recognize_illegal : optional is_level (acting ConfidenceThreshold recognizes) ≡ false → after_late (late v recognizes) v recognizes ≡ failed v recognizes 404
    unfolding late permitted legal acting unless ◌then◌
    recognize_illegal e = rw e

    pub recognize_legal : optional is_level (acting ConfidenceThreshold recognizes) ≡ true
        → after_late (late v recognizes) v recognizes ≡ after_late (content recognizes then capacity v recognizes) v recognizes
    unfolding late permitted legal of_kind valid acting unless ◌then◌
    recognize_legal e = rw e

    pub level_told : (f : List ℕ) (h : Header) → Tells false f h fs → given_of f (value_by h ConfidenceThreshold) ≡ acting ConfidenceThreshold recognizes
    unfolding acting
    level_told f h w = w.value ConfidenceThreshold refl

    pub recognize_entry : (set : Edition) (kill : Bool) (n : ℕ) → kill ≡ kill_set set.kill
        → n ≡ threshold_in set.confidence (acting ConfidenceThreshold recognizes)
        → record { id = id; kill = kill; threshold = n } ≡ entry_of set recognizes
    unfolding acting
    recognize_entry set kill n e f = ap₂ {C = Entry} (λ (b : Bool) (n : ℕ). record { id = id; kill = b; threshold = n }) e f

    pub ignored_in_recognize : (f : List ℕ) (h : Header) → Tells false f h fs → meets h.mask 3736 ≡ ignores_any recognizes
    ignored_in_recognize f h w = ignores false f h fs w major minor id Method.Recognize 3736 refl

-- SPEAK and RECOGNIZE enter a state
pub entering : (m : Method) → opens m ≡ true → (s : State) × ((v : View) (r : Request) → act m v r ≡ enter s v r)
unfolding act
entering Method.Speak o = (Speaking, λ v r. refl)
entering Method.Stop o = absurd (false≢true o)
entering Method.Pause o = absurd (false≢true o)
entering Method.Resume o = absurd (false≢true o)
entering Method.Control o = absurd (false≢true o)
entering Method.BargeInOccurred o = absurd (false≢true o)
entering Method.Unknown o = absurd (false≢true o)
entering Method.Recognize o = (Recognizing, λ v r. refl)
entering Method.StartInputTimers o = absurd (false≢true o)
entering Method.SetParams o = absurd (false≢true o)
entering Method.GetParams o = absurd (false≢true o)

-- judgements 9 and 10, and what comes of it
module _ (v : View) (major minor : ℕ) (m : Method) (id : ℕ) (fs : Fields (List ℕ)) where
  abbrev opening : Request
  opening = asked major minor m id fs

  pub unfit : (status : ℕ) → fails status ≡ content opening → after_late (content opening then capacity v opening) v opening ≡ failed v opening status
  unfolding ◌then◌
  unfit status e = rw (← e)

  pub fit : passes ≡ content opening → after_late (content opening then capacity v opening) v opening ≡ after_late (capacity v opening) v opening
  unfolding ◌then◌
  fit e = rw (← e)

  module _ (opened : opens m ≡ true) where
    -- judgement 9 by what a header tells
    module _ where
      abbrev typed : Bool → Spec.Option (List ℕ)
      typed b = elim b [ true ↦ judged_value ContentType (fields_in fs) | false ↦ none ]

      abbrev ruled : Bool → Spec.Option (List ℕ) → Verdict
      ruled b media = elim b [
        | true ↦ unless (given anything (judged_value ContentLength (fields_in fs)) && given anything media) 406
            then unless (not (is_empty (body_in fs))) 408
            then unless (given (is_type_of m) media) 409
        | false ↦ passes
      ]

      pub content_told : (f : List ℕ) (h : Header) → Tells false f h fs
          → content_by m (given_of f (value_by h ContentLength)) (given_of f (value_by h ContentType)) h.body.len ≡ content opening
      unfolding content acting
      content_told f h w =
          (λ z.
          unless (given anything (w.value ContentLength refl z) && given anything (w.value ContentType refl z)) 406
          then unless (not (w.body z)) 408
          then unless (given (is_type_of m) (w.value ContentType refl z)) 409)
          ∙ ap (λ (b : Bool). ruled b (typed b)) (sym opened)

    module _ (k : Kind) (of : kind v ≡ k) where
      abbrev roomed : Bool → Bool → Verdict
      roomed o b = elim o [ true ↦ unless b 407 | false ↦ passes ]

      with_room : (b : Bool) → ltb (length v.queue) (most k) ≡ b → after_late (capacity v opening) v opening ≡ after_late (unless b 407) v opening
      unfolding capacity
      with_room b e =
          ap₂ (λ (x y : Bool). after_late (roomed x y) v opening) opened (ap (λ (k : Kind). ltb (length v.queue) (most k)) of ∙ e)

      pub full : leb (most k) (length v.queue) ≡ true → after_late (capacity v opening) v opening ≡ failed v opening 407
      unfolding unless
      full e = with_room false (le-ltb (length v.queue) (most k) (leb-true (most k) (length v.queue) e))

      module _ (few : leb (most k) (length v.queue) ≡ false) (active : State) (acts : act m v opening ≡ enter active v opening) where
        enters : after_late (capacity v opening) v opening ≡ enter active v opening
        unfolding unless
        enters = with_room true (lt-ltb (length v.queue) (most k) (leb-false (most k) (length v.queue) few)) ∙ acts

        pub becomes_active : is_busy v.state ≡ false → after_late (capacity v opening) v opening ≡ succeeded v opening InProgress [] active (joined v opening)
        becomes_active e = enters ∙ rw (e, enter)

        pub waits : is_busy v.state ≡ true → after_late (capacity v opening) v opening ≡ succeeded v opening Pending [] v.state (joined v opening)
        waits e = enters ∙ rw (e, enter)
