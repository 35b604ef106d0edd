-- Every judged request has a good outcome, method by method. Assumes nothing.
use Prim.Native.Nat.{ℕ, ◌≤◌, ◌<◌}
use mathlib.Core.Path.{◌≡◌, refl, sym, ap, subst, ◌∙◌}
use mathlib.Core.Bool.{Bool, true, false, not, ◌&&◌, beq, false≢true}
use mathlib.Core.Option.{Option}
use mathlib.Core.List.{List, [], ◌∷◌, map, tail}
use lib.Dec.{leb}
use lib.ListN.{length}
use borrow.Author.Tests.{leb-true, ltb-true}
use Rattle.std.specs.Prelude.{Some}
use Rattle.lists.specs.Lists.{elem, put, keep, is_empty, Split, gone}
use Rattle.lists.proofs.Tests.{both, choose}
use Rattle.lists.proofs.Dealing.{split_none, split_all, split_keep}
use Rattle.message.specs.declared.Known.TheVariants.{ActiveRequestIdList, KillOnBargeIn, ConfidenceThreshold, FetchTimeout, NoInputTimeout, SensitivityLevel}
use Rattle.message.specs.declared.RequestState.TheVariants.{Complete}
use Rattle.answer.specs.IdList.{is_id_list}
use Rattle.answer.specs.declared.Kind.{Kind}
use Rattle.synth.specs.Kinds.{most, is_state_of, method_number, methods, method_in}
use Rattle.synth.specs.Channel.{View, kind, with_last, ids, held, is, is_busy, first_above, are_levels}
use Rattle.synth.specs.Levels.{is_level}
use Rattle.synth.specs.Settings.{kill_on_barge_in, fetch_timeout, no_input_timeout, confidence_threshold, sensitivity_level, settings, is_flag, is_millis, newest}
use Rattle.synth.specs.Request.{Request, opens, acting}
use Rattle.synth.specs.Demand3.{is_ending}
use Rattle.synth.specs.Judgement.{Verdict, passes, fails, optional, legal, is_of_kind, of_kind, is_valid, above, valid, capacity, early, late}
use Rattle.synth.specs.States.{succeeded, enter, while_any, ends, stop, barge_in, active, pause, resume, control, start_timers, changed, set_params, act, after_late, after_early, judge}
use Rattle.synth.specs.declared.State.{State}
use Rattle.synth.specs.declared.State.TheVariants.{Idle, Speaking, Paused, Recognizing, Recognized}
use Rattle.synth.specs.declared.Method.{Method}
use Rattle.synth.specs.declared.Entry.{Entry}
use Rattle.synth.proofs.Channels.{Facts}
use Rattle.synth.proofs.Verdicts.{then_passes, unless_passes, opening_passes, failing, early_fair, late_fair, Fair}
use Rattle.synth.proofs.Outcomes.{Good, early_failed, seen, now_own, late_failed, accepted, unchanged, ended, edited, tells}
use Rattle.synth.proofs.Editions.{AllLegal, changed_own}

split_active : (q : List Entry) → Split (ids q) (active q) (ids (tail q))
split_active [] = split_none []
split_active (e ∷ q) = gone (split_none (ids q))

-- a part of a queue in the state that it had, or idle where nothing is left
pub while_agrees : (s : State) (q rest : List Entry) → (is_empty q ≡ true → is_empty rest ≡ true) → beq (is_busy s) (not (is_empty q)) ≡ true
    → (n : State) → is_busy n ≡ false → beq (is_busy (while_any n s rest)) (not (is_empty rest)) ≡ true
while_agrees s q [] sub h n calm = rw calm
while_agrees s q (e ∷ rest) sub h n calm = go (is_busy s) (is_empty q) refl h
  where
    go : (a b : Bool) → is_empty q ≡ b → beq a (not b) ≡ true → beq a true ≡ true
    go a true t h = absurd (false≢true (sub t))
    go true false t h = refl
    go false false t h = absurd (false≢true h)

pub idle_ours : (k : Kind) → is_state_of k Idle ≡ true
idle_ours Kind.Synthesizer = refl
idle_ours Kind.Recognizer = refl

pub while_ours : (k : Kind) (n s : State) (rest : List Entry) → is_state_of k n ≡ true → is_state_of k s ≡ true → is_state_of k (while_any n s rest) ≡ true
while_ours k n s [] c h = c
while_ours k n s (e ∷ rest) c h = h

-- a channel of that kind has the method
abbrev Has : Kind → Method → Type 0
Has k m = elem (method_number m) (map method_number (methods k)) ≡ true

-- and then it has the state that the method leaves it in
speaking_ours : (k : Kind) → Has k Method.Speak → is_state_of k Speaking ≡ true
speaking_ours Kind.Synthesizer h = refl
speaking_ours Kind.Recognizer h = h

resumed_ours : (k : Kind) → Has k Method.Resume → is_state_of k Speaking ≡ true
resumed_ours Kind.Synthesizer h = refl
resumed_ours Kind.Recognizer h = h

paused_ours : (k : Kind) → Has k Method.Pause → is_state_of k Paused ≡ true
paused_ours Kind.Synthesizer h = refl
paused_ours Kind.Recognizer h = h

recognizing_ours : (k : Kind) → Has k Method.Recognize → is_state_of k Recognizing ≡ true
recognizing_ours Kind.Synthesizer h = h
recognizing_ours Kind.Recognizer h = refl

is_paused : (s : State) → is s Paused ≡ true → is_busy s ≡ true
is_paused Idle h = h
is_paused Speaking h = refl
is_paused Paused h = refl
is_paused Recognizing h = refl
is_paused Recognized h = h

-- PAUSE passes judgement 8 only while something is outstanding
busy_valid : (busy : Bool) → is_valid Method.Pause busy ≡ true → busy ≡ true
busy_valid true h = refl
busy_valid false h = h

keep_empty : (p : Entry → Bool) (q : List Entry) → is_empty q ≡ true → is_empty (keep p q) ≡ true
keep_empty p [] h = refl
keep_empty p (e ∷ q) h = absurd (false≢true h)

keep_levels : (p : Entry → Bool) (q : List Entry) → are_levels q ≡ true → are_levels (keep p q) ≡ true
keep_levels p [] h = refl
keep_levels p (e ∷ q) h = go (p e) (keep_levels p q (both (leb e.threshold 1000000) (are_levels q) h).1)
  where
    go : (b : Bool) → are_levels (keep p q) ≡ true → are_levels (put b e (keep p q)) ≡ true
    go true i = rw (both (leb e.threshold 1000000) (are_levels q) h).0 i
    go false i = i

-- what judgement 6 passes is legal for each setting
module _ (r : Request) (e : legal r ≡ passes) where
  abbrev flags : Bool
  flags = optional is_flag (acting KillOnBargeIn r)

  abbrev lists : Bool
  lists = optional is_id_list (acting ActiveRequestIdList r)

  abbrev confidences : Bool
  confidences = optional is_level (acting ConfidenceThreshold r)

  abbrev fetches : Bool
  fetches = optional is_millis (acting FetchTimeout r)

  abbrev silences : Bool
  silences = optional is_millis (acting NoInputTimeout r)

  abbrev sensitivities : Bool
  sensitivities = optional is_level (acting SensitivityLevel r)

  six : (flags && lists && confidences && fetches && silences ≡ true) × (sensitivities ≡ true)
  unfolding legal
  six = both (flags && lists && confidences && fetches && silences) sensitivities (unless_passes _ 404 e)

  five : (flags && lists && confidences && fetches ≡ true) × (silences ≡ true)
  five = both (flags && lists && confidences && fetches) silences six.0

  four : (flags && lists && confidences ≡ true) × (fetches ≡ true)
  four = both (flags && lists && confidences) fetches five.0

  three : (flags && lists ≡ true) × (confidences ≡ true)
  three = both (flags && lists) confidences four.0

  pub legal_each : AllLegal r
  legal_each kill_on_barge_in = (both flags lists three.0).0
  legal_each fetch_timeout = four.1
  legal_each no_input_timeout = five.1
  legal_each confidence_threshold = three.1
  legal_each sensitivity_level = six.1

module _ (v : View) (f : Facts v) (r : Request) (small : r.id < 4294967296) (above : first_above v.last ≤ r.id) where
  enter_good : (m : Method) → opens m ≡ true → is_ending m ≡ false → (s : State) → is_busy s ≡ true → is_state_of (kind v) s ≡ true
      → length v.queue < most (kind v) → Good v m r.id (enter s (seen v f r small above) r)
  enter_good m o e s busy ours h =
      choose (Good v m r.id) (is_busy v.state) (λ t. accepted v f r small above m o e _ v.state t f.state_ours h)
      (λ t. accepted v f r small above m o e _ s busy ours h)

  stop_good : (list : Option (List ℕ)) → Good v Method.Stop r.id (stop list (seen v f r small above) r)
  stop_good list =
      let rest : List Entry = keep (λ e. not (ends list e)) v.queue in
      ended v f r small above Method.Stop refl refl (ids (keep (ends list) v.queue)) (while_any Idle v.state rest) rest
      (split_keep (λ (e : Entry). e.id) (ends list) v.queue)
      (while_agrees v.state v.queue rest (keep_empty (λ e. not (ends list e)) v.queue) f.busy_held Idle refl)
      (while_ours (kind v) Idle v.state rest (idle_ours (kind v)) f.state_ours)
      (keep_levels (λ e. not (ends list e)) v.queue f.thresholds_fit)

  nothing_ends : Good v Method.BargeInOccurred r.id (succeeded (seen v f r small above) r Complete [] v.state v.queue)
  nothing_ends = ended v f r small above Method.BargeInOccurred refl refl [] v.state v.queue (split_none (held v)) f.busy_held f.state_ours
      f.thresholds_fit

  barge_good : (q : List Entry) → Good v Method.BargeInOccurred r.id (barge_in q (seen v f r small above) r)
  barge_good [] = nothing_ends
  barge_good (e ∷ q) =
      choose (Good v Method.BargeInOccurred r.id) e.kill
      (λ t. ended v f r small above Method.BargeInOccurred refl refl (held v) Idle [] (split_all (held v)) refl (idle_ours (kind v)) refl)
      (λ t. nothing_ends)

  pause_good : Has (kind v) Method.Pause → is_busy v.state ≡ true → Good v Method.Pause r.id (pause (seen v f r small above) r)
  pause_good has busy =
      unchanged v f r small above Method.Pause refl refl (active v.queue) Paused (split_active v.queue) (sym busy) (paused_ours (kind v) has)

  resume_good : Has (kind v) Method.Resume → Good v Method.Resume r.id (resume (seen v f r small above) r)
  resume_good has =
      choose (Good v Method.Resume r.id) (is v.state Paused)
      (λ t. unchanged v f r small above Method.Resume refl refl (active v.queue) Speaking (split_active v.queue) (sym (is_paused v.state t)) (resumed_ours (kind v) has))
      (λ t. unchanged v f r small above Method.Resume refl refl [] v.state (split_none (held v)) refl f.state_ours)

  control_good : Good v Method.Control r.id (control (seen v f r small above) r)
  control_good = unchanged v f r small above Method.Control refl refl (active v.queue) v.state (split_active v.queue) refl f.state_ours

  timers_good : Good v Method.StartInputTimers r.id (start_timers (seen v f r small above) r)
  timers_good = unchanged v f r small above Method.StartInputTimers refl refl [] v.state (split_none (held v)) refl f.state_ours

  set_good : legal r ≡ passes → Good v Method.SetParams r.id (set_params (seen v f r small above) r)
  set_good l =
      edited v f r small above Method.SetParams refl refl (changed (settings (kind v)) r (newest v.editions))
      (changed_own (kind v) r (legal_each r l) (newest v.editions) (now_own v f r small above))

  act_good : (m : Method) → Has (kind v) m → legal r ≡ passes → is_valid m (is_busy v.state) ≡ true → (opens m ≡ true → length v.queue < most (kind v))
      → Good v m r.id (act m (seen v f r small above) r)
  unfolding act
  act_good Method.Speak has lawful ok few = enter_good Method.Speak refl refl Speaking refl (speaking_ours (kind v) has) (few refl)
  act_good Method.Stop has lawful ok few = stop_good (acting ActiveRequestIdList r)
  act_good Method.Pause has lawful ok few = pause_good has (busy_valid (is_busy v.state) ok)
  act_good Method.Resume has lawful ok few = resume_good has
  act_good Method.Control has lawful ok few = control_good
  act_good Method.BargeInOccurred has lawful ok few = barge_good v.queue
  act_good Method.Unknown has lawful ok few = late_failed v f r small above Method.Unknown 401 refl
  act_good Method.Recognize has lawful ok few = enter_good Method.Recognize refl refl Recognizing refl (recognizing_ours (kind v) has) (few refl)
  act_good Method.StartInputTimers has lawful ok few = timers_good
  act_good Method.SetParams has lawful ok few = set_good lawful
  act_good Method.GetParams has lawful ok few = tells v f r small above Method.GetParams refl refl

  -- what judgements 6, 7, 8 and 10 leave
  late_legal : late (seen v f r small above) r ≡ passes → legal r ≡ passes
  unfolding late
  late_legal e = (then_passes _ _ (then_passes _ _ e).1).0

  late_known : late (seen v f r small above) r ≡ passes → is_of_kind r.method ≡ true
  unfolding late of_kind
  late_known e = unless_passes _ 401 (then_passes _ _ (then_passes _ _ (then_passes _ _ e).1).1).0

  late_valid : late (seen v f r small above) r ≡ passes → is_valid r.method (is_busy v.state) ≡ true
  unfolding late valid
  late_valid e = unless_passes _ 402 (then_passes _ _ (then_passes _ _ (then_passes _ _ (then_passes _ _ e).1).1).1).0

  late_room : late (seen v f r small above) r ≡ passes → opens r.method ≡ true → length v.queue < most (kind v)
  unfolding late capacity
  late_room e s = ltb-true (length v.queue) (most (kind v)) (unless_passes _ 407 (opening_passes r _ s
      (then_passes _ _ (then_passes _ _ (then_passes _ _ (then_passes _ _ (then_passes _ _ e).1).1).1).1).1))

  -- a request that judgement 7 passes has the method that it names
  known_has : (m : Method) → r.method ≡ method_in (kind v) m → is_of_kind r.method ≡ true → Has (kind v) m × (r.method ≡ m)
  known_has m e h = go (elem (method_number m) (map method_number (methods (kind v)))) e h
    where
      go : (b : Bool) → r.method ≡ elim b [ true ↦ m | false ↦ Method.Unknown ] → is_of_kind r.method ≡ true → (b ≡ true) × (r.method ≡ m)
      go true e h = (refl, e)
      go false e h = absurd (false≢true (sym (ap is_of_kind e) ∙ h))

  late_good : (m : Method) → r.method ≡ method_in (kind v) m → (l : Verdict) → late (seen v f r small above) r ≡ l → Fair l
      → Good v m r.id (after_late l (seen v f r small above) r)
  late_good m told passes e h =
      let k = known_has m told (late_known e) in
      subst (λ (n : Method). Good v m r.id (act n (seen v f r small above) r)) (sym k.1)
      (act_good m k.0 (late_legal e) (subst (λ (n : Method). is_valid n (is_busy v.state) ≡ true) k.1 (late_valid e))
      (λ o. late_room e (ap opens k.1 ∙ o)))
  late_good m told (fails status) e h = late_failed v f r small above m status (failing status h)

module _ (v : View) (f : Facts v) (r : Request) (small : r.id < 4294967296) (m : Method) (told : r.method ≡ method_in (kind v) m) where
  -- what judgement 5 leaves
  early_above : early v r ≡ passes → first_above v.last ≤ r.id
  unfolding early above
  early_above e =
      leb-true (first_above v.last) r.id
      (unless_passes _ 410 (then_passes _ _ (then_passes _ _ (then_passes _ _ (then_passes _ _ e).1).1).1).1)

  early_good : (l : Verdict) → early v r ≡ l → Fair l → Good v m r.id (after_early l v r)
  early_good passes e h = late_good v f r small (early_above e) m told (late (with_last (Some r.id) v) r) refl (late_fair (with_last (Some r.id) v) r)
  early_good (fails status) e h = early_failed v f r small m status (failing status h)

  -- the ledger goes by the method that the request names, which a channel of this kind may lack
  pub judge_good : Good v m r.id (judge v r)
  unfolding judge
  judge_good = early_good (early v r) refl (early_fair v r)
