-- States and queue, method by method: document 01, "States and queue", and document 02, K1 and K5.
use Rattle.std.specs.Prelude.{ℕ, Bool, true, false, not, ◌&&◌, ◌||◌, List, [], ◌∷◌, ◌++◌, map, eqb, Float, Some}
use Rattle.std.proofs.Math.Option.{Option, none, some}
use Rattle.std.specs.Float.Ieee.{lt}
use Rattle.lists.specs.Lists.{elem, keep}
use Rattle.octets.specs.Octets.{bytes, alike}
use Rattle.message.specs.Message.{Message, Field, fields_in}
use Rattle.message.specs.Known.{names_of}
use Rattle.message.specs.declared.Known.TheVariants.{ActiveRequestIdList, KillOnBargeIn, ConfidenceThreshold}
use Rattle.message.specs.declared.RequestState.{RequestState}
use Rattle.message.specs.declared.RequestState.TheVariants.{Pending, InProgress, Complete}
use Rattle.answer.specs.IdList.{ids_of}
use Rattle.answer.specs.Answers.{response, telling, completes}
use Rattle.answer.specs.declared.Kind.{Kind}
use Rattle.synth.specs.Levels.{single, level_in}
use Rattle.synth.specs.Settings.{Name, settings, field_of, with_slot, setting_in, setting_field, named, newest}
use Rattle.synth.specs.Channel.{View, kind, with_queue, with_last, with_edition, ids, held, is, is_busy}
use Rattle.synth.specs.Request.{Request, acting}
use Rattle.synth.specs.Judgement.{Verdict, passes, fails, success, early, late}
use Rattle.synth.specs.declared.State.{State}
use Rattle.synth.specs.declared.State.TheVariants.{Idle, Speaking, Paused, Recognizing, Recognized}
use Rattle.synth.specs.declared.Method.{Method}
use Rattle.synth.specs.declared.Entry.{Entry}
use Rattle.synth.specs.declared.Level.{Level}
use Rattle.synth.specs.declared.Setting.{Setting}
use Rattle.synth.specs.declared.Edition.{Edition}

-- what is to be said, and the channel afterwards
pub record Outcome : Type 0 where
  pub says : List Message
  pub next : View

-- a failed request answers COMPLETE and changes nothing more
abbrev pub failed : View → Request → ℕ → Outcome
failed v r status = record { says = response v.name r.id status Complete [] ∷ []; next = v }

-- a success with its state, the ids that it lists, and the channel's state and queue afterwards
abbrev pub succeeded : View → Request → RequestState → List ℕ → State → List Entry → Outcome
succeeded v r progress listed state queue =
    record { says = response v.name r.id (success r) progress listed ∷ []; next = with_queue state queue v }

-- the setting of the moment, `true` where it is unset
abbrev pub kill_set : Setting → Bool
kill_set Setting.Unset = true
kill_set (Setting.Flag b) = b
kill_set (Setting.Millis n) = true
kill_set (Setting.Level l) = true

-- that where the field did not come
abbrev pub killable : Setting → Option (List ℕ) → Bool
killable x none = kill_set x
killable x (some v) = alike v (bytes "true")

abbrev pub or_zero : Option Level → ℕ
or_zero none = 0
or_zero (some l) = l.millionths

-- the setting of the moment, 0 where it is unset
abbrev pub level_set : Setting → ℕ
level_set Setting.Unset = 0
level_set (Setting.Flag b) = 0
level_set (Setting.Millis n) = 0
level_set (Setting.Level l) = l.millionths

-- that where the field did not come
abbrev pub threshold_in : Setting → Option (List ℕ) → ℕ
threshold_in x none = level_set x
threshold_in x (some v) = or_zero (level_in v)

-- what is kept of an outstanding SPEAK or RECOGNIZE, accepted while these are the settings
abbrev pub entry_of : Edition → Request → Entry
entry_of now r = record {
  id = r.id;
  kill = killable now.kill (acting KillOnBargeIn r);
  threshold = threshold_in now.confidence (acting ConfidenceThreshold r);
}

abbrev pub joined : View → Request → List Entry
joined v r = v.queue ++ entry_of (newest v.editions) r ∷ []

-- SPEAK and RECOGNIZE: none is outstanding, becomes active, and speaking or recognizing, IN-PROGRESS; otherwise joins the end, PENDING
abbrev pub enter : State → View → Request → Outcome
enter active v r = elim (is_busy v.state) [
  | true ↦ succeeded v r Pending [] v.state (joined v r)
  | false ↦ succeeded v r InProgress [] active (joined v r)
]

-- the same state while any is outstanding; another when none remains
abbrev pub while_any : State → State → List Entry → State
while_any last state [] = last
while_any last state (e ∷ queue) = state

-- without a list all outstanding end; with one, those named
abbrev pub ends : Option (List ℕ) → Entry → Bool
ends none e = true
ends (some v) e = elem e.id (ids_of v)

-- STOP: the answer lists the ended in queue order; if the active one ended, the next becomes active in the same state
abbrev pub stop : Option (List ℕ) → View → Request → Outcome
stop list v r =
    let rest : List Entry = keep (λ e. not (ends list e)) v.queue in
    succeeded v r Complete (ids (keep (ends list) v.queue)) (while_any Idle v.state rest) rest

-- BARGE-IN-OCCURRED: the active one killable, all outstanding end, whatever their own setting; otherwise nothing ends
abbrev pub barge_in : List Entry → View → Request → Outcome
barge_in [] v r = succeeded v r Complete [] v.state v.queue
barge_in (e ∷ queue) v r = elim e.kill [
  | true ↦ succeeded v r Complete (held v) Idle []
  | false ↦ succeeded v r Complete [] v.state v.queue
]

-- the active id, where there is one
abbrev pub active : List Entry → List ℕ
active [] = []
active (e ∷ queue) = e.id ∷ []

-- PAUSE: paused, listing the active id
abbrev pub pause : View → Request → Outcome
pause v r = succeeded v r Complete (active v.queue) Paused v.queue

-- RESUME: from paused: speaking, listing the active id; from speaking: no change, no list (house)
abbrev pub resume : View → Request → Outcome
resume v r = elim (is v.state Paused) [
  | true ↦ succeeded v r Complete (active v.queue) Speaking v.queue
  | false ↦ succeeded v r Complete [] v.state v.queue
]

-- CONTROL: no change, listing the active id
abbrev pub control : View → Request → Outcome
control v r = succeeded v r Complete (active v.queue) v.state v.queue

-- START-INPUT-TIMERS: no change, no list
abbrev pub start_timers : View → Request → Outcome
start_timers v r = succeeded v r Complete [] v.state v.queue

-- a value given sets the setting
abbrev pub set_by : Name → Option (List ℕ) → Edition → Edition
set_by n none e = e
set_by n (some v) e = with_slot n (setting_in n v) e

abbrev pub changed : List Name → Request → Edition → Edition
changed [] r e = e
changed (n ∷ ns) r e = changed ns r (set_by n (acting (field_of n) r) e)

-- SET-PARAMS: a further edition, what it does not name as before
abbrev pub set_params : View → Request → Outcome
set_params v r = record {
  says = response v.name r.id (success r) Complete [] ∷ [];
  next = with_edition (changed (settings (kind v)) r (newest v.editions)) v;
}

-- the settings that the request names, or all of the kind's
abbrev pub told_by : View → Request → List (Field (List ℕ))
told_by v r = map (setting_field (newest v.editions)) (named (names_of (fields_in r.fields)) (settings (kind v)))

-- GET-PARAMS: no change; the settings named, or all, are told
abbrev pub get_params : View → Request → Outcome
get_params v r = record { says = telling v.name r.id (success r) (told_by v r) ∷ []; next = v }

-- a request that passed every judgement
unfoldable pub act : Method → View → Request → Outcome
act Method.Speak v r = enter Speaking v r
act Method.Stop v r = stop (acting ActiveRequestIdList r) v r
act Method.Pause v r = pause v r
act Method.Resume v r = resume v r
act Method.Control v r = control v r
act Method.BargeInOccurred v r = barge_in v.queue v r
act Method.Unknown v r = failed v r 401
act Method.Recognize v r = enter Recognizing v r
act Method.StartInputTimers v r = start_timers v r
act Method.SetParams v r = set_params v r
act Method.GetParams v r = get_params v r

abbrev pub after_late : Verdict → View → Request → Outcome
after_late passes v r = act r.method v r
after_late (fails status) v r = failed v r status

-- once judgement 5 passes, the last id seen becomes this one, whatever the answer
abbrev pub after_early : Verdict → View → Request → Outcome
after_early passes v r = let seen : View = with_last (Some r.id) v in after_late (late seen r) seen r
after_early (fails status) v r = failed v r status

unfoldable pub judge : View → Request → Outcome
judge v r = after_early (early v r) v r

-- the active one ends with its event; the next becomes active, or none is left
abbrev pub ends_one : Kind → State → State → Entry → List Entry → View → ℕ → Outcome
ends_one kind last state e queue v cause =
    record { says = completes kind v.name (e.id ∷ []) cause; next = with_queue (while_any last state queue) queue v }

-- the waiting ones end too, each with event 011 in queue order
abbrev pub ends_all : Kind → State → Entry → List Entry → View → ℕ → Outcome
ends_all kind last e queue v cause =
    record { says = completes kind v.name (ids (e ∷ queue)) cause; next = with_queue last [] v }

-- 000 and 008
abbrev pub is_match : ℕ → Bool
is_match cause = eqb cause 0 || eqb cause 8

-- a 000 or 008 whose score is not greater than the threshold counts as 001
abbrev pub counted : ℕ → ℕ → Float → ℕ
counted threshold cause score = elim (is_match cause && not (lt (single threshold) score)) [ true ↦ 1 | false ↦ cause ]

-- with 000 or 008 the first waiting one becomes active; any other cause also ends the waiting ones. None left: recognized
abbrev pub recognized : Entry → List Entry → View → ℕ → Outcome
recognized e queue v cause = elim (is_match cause) [
  | true ↦ ends_one Kind.Recognizer Recognized Recognizing e queue v cause
  | false ↦ ends_all Kind.Recognizer Recognized e queue v cause
]

-- an engine report ends the active one: on a synthesizer the next becomes active and speaking, or idle
abbrev pub completed : Kind → Entry → List Entry → View → ℕ → Float → Outcome
completed Kind.Synthesizer e queue v cause score = ends_one Kind.Synthesizer Idle Speaking e queue v cause
completed Kind.Recognizer e queue v cause score = recognized e queue v (counted e.threshold cause score)
