-- The edition that a SET-PARAMS makes whose fields may all stand: no setting of the other kind is given, and those of
-- its own kind are taken one after the other. Assumes nothing.
use Prim.Native.Nat.{ℕ}
use mathlib.Core.Path.{◌≡◌, refl, sym, ap, ap₂, ◌∙◌}
use mathlib.Core.Bool.{Bool, true, false, ◌&&◌}
use mathlib.Core.Option as Spec
use mathlib.Core.Option.{none, some}
use Rattle.std.proofs.Common.{Option, Some, None}
use mathlib.Core.List.{List}
use Rattle.message.specs.Message.{Fields, fields_in}
use Rattle.message.specs.Known.{judged_value}
use Rattle.message.specs.declared.Known.TheVariants.{KillOnBargeIn, ConfidenceThreshold, FetchTimeout}
use Rattle.message.specs.declared.Known.TheVariants.{NoInputTimeout, SensitivityLevel}
use Rattle.answer.specs.declared.Kind.{Kind}
use Rattle.synth.specs.Levels.{is_level}
use Rattle.synth.specs.Settings.{Name, kill_on_barge_in, fetch_timeout, no_input_timeout, confidence_threshold}
use Rattle.synth.specs.Settings.{sensitivity_level, settings, sort_of, field_of, slot, with_slot}
use Rattle.synth.specs.Settings.{is_flag, is_millis, is_legal, setting_in}
use Rattle.synth.specs.Request.{Request, acting}
use Rattle.synth.specs.Judgement.{unless, optional, legal}
use Rattle.synth.specs.States.{set_by, changed}
use Rattle.synth.specs.declared.Edition.{Edition}
use Rattle.synth.specs.declared.Method.{Method}
use Rattle.synth.specs.declared.Setting.{Setting}
use Rattle.header.specs.declared.Header.{Header}
use Rattle.values.specs.Values.{given_of}
use Rattle.request.specs.Telling.{Tells, value_by}
use Rattle.outcomes.specs.Outcomes.{asked}
use Rattle.params.specs.Steps.{taken_by, changed_as, ChangesTo}
use Rattle.params.proofs.Standing.{all_stand, no_value}

-- ---- one setting after the other

abbrev pub with_taken : Name → Option Setting → Option Edition → Option Edition
with_taken n t None = None
with_taken n None (Some e) = None
with_taken n (Some x) (Some e) = Some (with_slot n x e)

as_it_was : (n : Name) (e : Edition) → with_slot n (slot n e) e ≡ e
as_it_was kill_on_barge_in e = refl
as_it_was fetch_timeout e = refl
as_it_was no_input_timeout e = refl
as_it_was confidence_threshold e = refl
as_it_was sensitivity_level e = refl

-- what the value o, where it is given, sets in an edition
abbrev pub taken_for : Name → Spec.Option (List ℕ) → Edition → Option Setting
taken_for n o before = taken_by (sort_of n) o (slot n before)

-- all up to here were legal, or not
step : (b : Bool) (n : Name) (o : Spec.Option (List ℕ)) (before e : Edition) → slot n before ≡ slot n e
    → with_taken n (taken_for n o before) (changed_as (unless b 404) e)
    ≡ changed_as (unless (b && optional (is_legal n) o) 404) (set_by n o e)
unfolding unless
step true n none before e k = ap {A = Edition} {B = Option Edition} Some (ap (λ x. with_slot n x e) k ∙ as_it_was n e)
step true n (some v) before e k = go (is_legal n v)
  where
    go : (b : Bool) → with_taken n (elim b [ true ↦ Some (setting_in n v) | false ↦ None ]) (Some e)
        ≡ changed_as (unless b 404) (with_slot n (setting_in n v) e)
    go true = refl
    go false = refl
step false n o before e k = refl

-- another setting stays
stays : (n m : Name) (o : Spec.Option (List ℕ)) (e : Edition) → ((x : Setting) → slot m e ≡ slot m (with_slot n x e))
    → slot m e ≡ slot m (set_by n o e)
stays n m none e h = refl
stays n m (some v) e h = h (setting_in n v)

abbrev pub with_two : Option Setting → Option Setting → Edition → Option Edition
with_two kill fetch e = with_taken fetch_timeout fetch (with_taken kill_on_barge_in kill (Some e))

two : (a b : Spec.Option (List ℕ)) (e : Edition)
    → with_two (taken_for kill_on_barge_in a e) (taken_for fetch_timeout b e) e
    ≡ changed_as (unless (optional is_flag a && optional is_millis b) 404) (set_by fetch_timeout b (set_by kill_on_barge_in a e))
unfolding unless
two a b e =
    ap (with_taken fetch_timeout (taken_for fetch_timeout b e)) (step true kill_on_barge_in a e e refl)
    ∙ step (optional is_flag a) fetch_timeout b e (set_by kill_on_barge_in a e)
    (stays kill_on_barge_in fetch_timeout a e (λ x. refl))

abbrev pub with_three : Option Setting → Option Setting → Option Setting → Edition → Option Edition
with_three silence confidence sensitivity e =
    with_taken sensitivity_level sensitivity
    (with_taken confidence_threshold confidence (with_taken no_input_timeout silence (Some e)))

three : (a b d : Spec.Option (List ℕ)) (e : Edition)
    → with_three (taken_for no_input_timeout a e) (taken_for confidence_threshold b e) (taken_for sensitivity_level d e) e
    ≡ changed_as (unless (optional is_millis a && optional is_level b && optional is_level d) 404)
    (set_by sensitivity_level d (set_by confidence_threshold b (set_by no_input_timeout a e)))
unfolding unless
three a b d e =
    let one = set_by no_input_timeout a e in
    ap (λ x. with_taken sensitivity_level (taken_for sensitivity_level d e)
    (with_taken confidence_threshold (taken_for confidence_threshold b e) x))
    (step true no_input_timeout a e e refl)
    ∙ ap (with_taken sensitivity_level (taken_for sensitivity_level d e))
    (step (optional is_millis a) confidence_threshold b e one (stays no_input_timeout confidence_threshold a e (λ x. refl)))
    ∙ step (optional is_millis a && optional is_level b) sensitivity_level d e (set_by confidence_threshold b one)
    (stays no_input_timeout sensitivity_level a e (λ x. refl)
    ∙ stays confidence_threshold sensitivity_level b one (λ x. refl))

-- ---- of the settings that a request gives

module _ (f : List ℕ) (h : Header) (fs : Fields (List ℕ)) (w : Tells true f h fs) (major minor id : ℕ) where
  abbrev sets : Request
  sets = asked major minor Method.SetParams id fs

  abbrev given_for : Name → Spec.Option (List ℕ)
  given_for n = given_of f (value_by h (field_of n))

  -- what the header gives is what is judged
  told : (n : Name) → given_for n ≡ judged_value (field_of n) (fields_in fs)
  told kill_on_barge_in = w.value KillOnBargeIn refl
  told fetch_timeout = w.value FetchTimeout refl
  told no_input_timeout = w.value NoInputTimeout refl
  told confidence_threshold = w.value ConfidenceThreshold refl
  told sensitivity_level = w.value SensitivityLevel refl

  module _ (stand : all_stand Kind.Synthesizer fs ≡ true) where
    by_two : (a b : Bool) → (a && b) ≡ (a && true && true && b && true && true)
    by_two true true = refl
    by_two true false = refl
    by_two false b = refl

    legal_two : unless (optional is_flag (given_for kill_on_barge_in) && optional is_millis (given_for fetch_timeout)) 404
        ≡ legal sets
    unfolding legal acting
    legal_two =
        let none_of = no_value f h fs w Kind.Synthesizer stand in
        ap (λ b. unless b 404)
        (by_two (optional is_flag (given_for kill_on_barge_in)) (optional is_millis (given_for fetch_timeout)))
        ∙ (λ z. unless (optional is_flag (told kill_on_barge_in z)
        && true
        && optional is_level (sym (none_of ConfidenceThreshold refl refl) z)
        && optional is_millis (told fetch_timeout z)
        && optional is_millis (sym (none_of NoInputTimeout refl refl) z)
        && optional is_level (sym (none_of SensitivityLevel refl refl) z)) 404)

    pub synthesizer_changes : (e : Edition)
        → with_two (taken_for kill_on_barge_in (given_for kill_on_barge_in) e)
        (taken_for fetch_timeout (given_for fetch_timeout) e) e
        ≡ changed_as (legal sets) (changed (settings Kind.Synthesizer) sets e)
    unfolding acting
    synthesizer_changes e =
        two (given_for kill_on_barge_in) (given_for fetch_timeout) e
        ∙ (λ z. changed_as (legal_two z)
        (set_by fetch_timeout (told fetch_timeout z) (set_by kill_on_barge_in (told kill_on_barge_in z) e)))

  module _ (stand : all_stand Kind.Recognizer fs ≡ true) where
    by_three : (a b d : Bool) → (a && b && d) ≡ (true && true && b && true && a && d)
    by_three true true d = refl
    by_three true false d = refl
    by_three false true d = refl
    by_three false false d = refl

    legal_three : unless (optional is_millis (given_for no_input_timeout)
        && optional is_level (given_for confidence_threshold) && optional is_level (given_for sensitivity_level)) 404
        ≡ legal sets
    unfolding legal acting
    legal_three =
        let none_of = no_value f h fs w Kind.Recognizer stand in
        ap (λ b. unless b 404)
        (by_three (optional is_millis (given_for no_input_timeout)) (optional is_level (given_for confidence_threshold))
        (optional is_level (given_for sensitivity_level)))
        ∙ (λ z. unless (optional is_flag (sym (none_of KillOnBargeIn refl refl) z)
        && true
        && optional is_level (told confidence_threshold z)
        && optional is_millis (sym (none_of FetchTimeout refl refl) z)
        && optional is_millis (told no_input_timeout z)
        && optional is_level (told sensitivity_level z)) 404)

    pub recognizer_changes : (e : Edition)
        → with_three (taken_for no_input_timeout (given_for no_input_timeout) e)
        (taken_for confidence_threshold (given_for confidence_threshold) e)
        (taken_for sensitivity_level (given_for sensitivity_level) e) e
        ≡ changed_as (legal sets) (changed (settings Kind.Recognizer) sets e)
    unfolding acting
    recognizer_changes e =
        three (given_for no_input_timeout) (given_for confidence_threshold) (given_for sensitivity_level) e
        ∙ (λ z. changed_as (legal_three z) (set_by sensitivity_level (told sensitivity_level z)
        (set_by confidence_threshold (told confidence_threshold z) (set_by no_input_timeout (told no_input_timeout z) e))))

-- ---- what was taken for each, and the edition that is made of it

module _ (f : List ℕ) (h : Header) (e : Edition) where
  abbrev pub due : Name → Option Setting
  due n = taken_for n (given_of f (value_by h (field_of n))) e

  pub two_taken : {kill fetch : Option Setting} {made : Option Edition} → made ≡ with_two kill fetch e
      → kill ≡ due kill_on_barge_in → fetch ≡ due fetch_timeout → ChangesTo Kind.Synthesizer e f h made
  two_taken m k t = λ major minor id fs told stand.
      m ∙ ap₂ (λ k t. with_two k t e) k t ∙ synthesizer_changes f h fs told major minor id stand e

  pub three_taken : {silence confidence sensitivity : Option Setting} {made : Option Edition}
      → made ≡ with_three silence confidence sensitivity e
      → silence ≡ due no_input_timeout → confidence ≡ due confidence_threshold → sensitivity ≡ due sensitivity_level
      → ChangesTo Kind.Recognizer e f h made
  three_taken m i c s = λ major minor id fs told stand.
      m ∙ (λ z. with_three (i z) (c z) (s z) e) ∙ recognizer_changes f h fs told major minor id stand e
