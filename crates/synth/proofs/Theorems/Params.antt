-- A SET-PARAMS takes all of its fields or none: it fails, and the editions are as they were, or it is answered 200 and
-- there is one edition more, in which each setting of the channel's kind is the one given, or as before where none was
-- given; the newest four are kept. A GET-PARAMS judges no value, changes nothing but the last id seen, and is answered
-- 200 with the settings named, or all. So neither is ever answered 201. Assumes nothing.
use Prim.Native.Nat.{ℕ}
use mathlib.Core.Path.{◌≡◌, refl, sym, ap, subst, ◌∙◌}
use mathlib.Core.Bool.{Bool, true, false, not, ◌||◌, false≢true}
use mathlib.Core.Option.{Option, none, some}
use mathlib.Core.List.{List, [], ◌∷◌}
use mathlib.Core.Logic.{◌⊎◌, inl, inr}
use Rattle.std.specs.Prelude.{Some}
use Rattle.lists.specs.Lists.{all, All}
use Rattle.lists.proofs.Scans.{all_of}
use Rattle.message.specs.Message.{fields_in}
use Rattle.message.specs.Known.{names_of, judged_value}
use Rattle.message.specs.declared.Known.{Known}
use Rattle.message.specs.declared.Known.TheVariants.{ChannelIdentifier, ContentLength, ContentType, ActiveRequestIdList, KillOnBargeIn, ProxySyncId, LoggingTag, Unknown, ConfidenceThreshold, FetchTimeout, NoInputTimeout, SensitivityLevel}
use Rattle.message.specs.declared.RequestState.TheVariants.{Complete}
use Rattle.answer.specs.Answers.{response, telling}
use Rattle.answer.specs.declared.Kind.{Kind}
use Rattle.synth.specs.Settings.{Name, kill_on_barge_in, fetch_timeout, no_input_timeout, confidence_threshold, sensitivity_level, settings, field_of, may_stand, slot, setting_in, other_kind, newest, further}
use Rattle.synth.specs.Channel.{View, kind, with_last, with_edition}
use Rattle.synth.specs.Request.{Request, is_params, ignored, acting, ignores_any}
use Rattle.synth.specs.Judgement.{Verdict, passes, fails, unless, permitted, legal, success, early, late}
use Rattle.synth.specs.States.{Outcome, set_by, changed, told_by, act, after_late, after_early, judge}
use Rattle.synth.specs.declared.Method.{Method}
use Rattle.synth.specs.declared.Setting.{Setting}
use Rattle.synth.specs.declared.Edition.{Edition}
use Rattle.synth.proofs.Verdicts.{then_passes, unless_passes, is_failure, Fair, failing, early_fair, late_fair}
use Rattle.synth.proofs.Editions.{AllLegal}
use Rattle.synth.proofs.Methods.{legal_each}

-- ---- what is taken

-- the setting given, or as before
abbrev pub taken : Name → Option (List ℕ) → Setting → Setting
taken n none before = before
taken n (some v) before = setting_in n v

-- of every setting of the kind
abbrev pub EachTaken : Kind → Request → Edition → Edition → Type 0
EachTaken kind r before now =
    All (λ (n : Name). slot n now ≡ taken n (acting (field_of n) r) (slot n before)) (settings kind)

-- and those of the other kind are as before
abbrev pub OthersKept : Kind → Edition → Edition → Type 0
OthersKept kind before now = All (λ (n : Name). slot n now ≡ slot n before) (settings (other_kind kind))

-- in a SET-PARAMS the value of every setting acts, where it came
pub every_setting_acts : (r : Request) → r.method ≡ Method.SetParams → (n : Name)
    → acting (field_of n) r ≡ judged_value (field_of n) (fields_in r.fields)
unfolding acting
every_setting_acts r set kill_on_barge_in = rw (set, acting)
every_setting_acts r set fetch_timeout = rw (set, acting)
every_setting_acts r set no_input_timeout = rw (set, acting)
every_setting_acts r set confidence_threshold = rw (set, acting)
every_setting_acts r set sensitivity_level = rw (set, acting)

abbrev set2 : Option (List ℕ) → Option (List ℕ) → Edition → Edition
set2 a b e = set_by fetch_timeout b (set_by kill_on_barge_in a e)

abbrev set3 : Option (List ℕ) → Option (List ℕ) → Option (List ℕ) → Edition → Edition
set3 a b c e = set_by sensitivity_level c (set_by confidence_threshold b (set_by no_input_timeout a e))

record Synth (a b : Option (List ℕ)) (e : Edition) : Type 0 where
  one : slot kill_on_barge_in (set2 a b e) ≡ taken kill_on_barge_in a (slot kill_on_barge_in e)
  two : slot fetch_timeout (set2 a b e) ≡ taken fetch_timeout b (slot fetch_timeout e)
  three : slot no_input_timeout (set2 a b e) ≡ slot no_input_timeout e
  four : slot confidence_threshold (set2 a b e) ≡ slot confidence_threshold e
  five : slot sensitivity_level (set2 a b e) ≡ slot sensitivity_level e

synth_each : (a b : Option (List ℕ)) (e : Edition) → Synth a b e
synth_each none none e = record { one = refl; two = refl; three = refl; four = refl; five = refl }
synth_each none (some y) e = record { one = refl; two = refl; three = refl; four = refl; five = refl }
synth_each (some x) none e = record { one = refl; two = refl; three = refl; four = refl; five = refl }
synth_each (some x) (some y) e = record { one = refl; two = refl; three = refl; four = refl; five = refl }

record Recog (a b c : Option (List ℕ)) (e : Edition) : Type 0 where
  one : slot kill_on_barge_in (set3 a b c e) ≡ slot kill_on_barge_in e
  two : slot fetch_timeout (set3 a b c e) ≡ slot fetch_timeout e
  three : slot no_input_timeout (set3 a b c e) ≡ taken no_input_timeout a (slot no_input_timeout e)
  four : slot confidence_threshold (set3 a b c e) ≡ taken confidence_threshold b (slot confidence_threshold e)
  five : slot sensitivity_level (set3 a b c e) ≡ taken sensitivity_level c (slot sensitivity_level e)

recog_each : (a b c : Option (List ℕ)) (e : Edition) → Recog a b c e
recog_each none none none e = record { one = refl; two = refl; three = refl; four = refl; five = refl }
recog_each none none (some z) e = record { one = refl; two = refl; three = refl; four = refl; five = refl }
recog_each none (some y) none e = record { one = refl; two = refl; three = refl; four = refl; five = refl }
recog_each none (some y) (some z) e = record { one = refl; two = refl; three = refl; four = refl; five = refl }
recog_each (some x) none none e = record { one = refl; two = refl; three = refl; four = refl; five = refl }
recog_each (some x) none (some z) e = record { one = refl; two = refl; three = refl; four = refl; five = refl }
recog_each (some x) (some y) none e = record { one = refl; two = refl; three = refl; four = refl; five = refl }
recog_each (some x) (some y) (some z) e = record { one = refl; two = refl; three = refl; four = refl; five = refl }

synth_of : (r : Request) (e : Edition) → Synth (acting KillOnBargeIn r) (acting FetchTimeout r) e
synth_of r e = synth_each (acting KillOnBargeIn r) (acting FetchTimeout r) e

recog_of : (r : Request) (e : Edition)
    → Recog (acting NoInputTimeout r) (acting ConfidenceThreshold r) (acting SensitivityLevel r) e
recog_of r e = recog_each (acting NoInputTimeout r) (acting ConfidenceThreshold r) (acting SensitivityLevel r) e

each_taken : (k : Kind) (r : Request) (e : Edition) → EachTaken k r e (changed (settings k) r e)
each_taken Kind.Synthesizer r e = let t = synth_of r e in (t.one, (t.two, tt))
each_taken Kind.Recognizer r e = let t = recog_of r e in (t.three, (t.four, (t.five, tt)))

others_kept : (k : Kind) (r : Request) (e : Edition) → OthersKept k e (changed (settings k) r e)
others_kept Kind.Synthesizer r e = let t = synth_of r e in (t.three, (t.four, (t.five, tt)))
others_kept Kind.Recognizer r e = let t = recog_of r e in (t.one, (t.two, tt))

-- ---- no field that may stand is ignored

set_minds : (kind : Kind) (k : Known) → may_stand kind k ≡ true → not (ignored Method.SetParams k) ≡ true
set_minds kind ChannelIdentifier h = refl
set_minds kind ContentLength h = refl
set_minds Kind.Synthesizer ContentType h = h
set_minds Kind.Recognizer ContentType h = h
set_minds Kind.Synthesizer ActiveRequestIdList h = h
set_minds Kind.Recognizer ActiveRequestIdList h = h
set_minds kind KillOnBargeIn h = refl
set_minds kind ProxySyncId h = refl
set_minds kind LoggingTag h = refl
set_minds Kind.Synthesizer Unknown h = h
set_minds Kind.Recognizer Unknown h = h
set_minds kind ConfidenceThreshold h = refl
set_minds kind FetchTimeout h = refl
set_minds kind NoInputTimeout h = refl
set_minds kind SensitivityLevel h = refl

get_minds : (kind : Kind) (k : Known) → may_stand kind k ≡ true → not (ignored Method.GetParams k) ≡ true
get_minds kind ChannelIdentifier h = refl
get_minds kind ContentLength h = refl
get_minds Kind.Synthesizer ContentType h = h
get_minds Kind.Recognizer ContentType h = h
get_minds Kind.Synthesizer ActiveRequestIdList h = h
get_minds Kind.Recognizer ActiveRequestIdList h = h
get_minds kind KillOnBargeIn h = refl
get_minds kind ProxySyncId h = refl
get_minds kind LoggingTag h = refl
get_minds Kind.Synthesizer Unknown h = h
get_minds Kind.Recognizer Unknown h = h
get_minds kind ConfidenceThreshold h = refl
get_minds kind FetchTimeout h = refl
get_minds kind NoInputTimeout h = refl
get_minds kind SensitivityLevel h = refl

-- every field may stand in a SET-PARAMS or GET-PARAMS to a channel of this kind
abbrev pub AllStand : View → Request → Type 0
AllStand v r = all (may_stand (kind v)) (names_of (fields_in r.fields)) ≡ true

module _ (v : View) (r : Request) (m : Method) (e : r.method ≡ m) where
  all_stand_lem : is_params m ≡ true → permitted v r ≡ passes → AllStand v r
  unfolding permitted
  all_stand_lem p h = go (is_params r.method) (ap is_params e ∙ p) (unless_passes _ 403 h)
    where
      go : (b : Bool) → b ≡ true → not b || all (may_stand (kind v)) (names_of (fields_in r.fields)) ≡ true
          → AllStand v r
      go true t h = h
      go false t h = absurd (false≢true t)

  -- what judgement 6 leaves
  late_stand : is_params m ≡ true → late v r ≡ passes → AllStand v r
  unfolding late
  late_stand p h = all_stand_lem p (then_passes _ _ h).0

  module _ (minds : (k : Known) → may_stand (kind v) k ≡ true → not (ignored m k) ≡ true) (h : AllStand v r) where
    none_ignored : ignores_any r ≡ false
    unfolding ignores_any
    none_ignored =
        let names : List Known = names_of (fields_in r.fields) in
        ap (λ (n : Method). not (all (λ k. not (ignored n k)) names)) e
        ∙ ap not (all_of (may_stand (kind v)) (λ k. not (ignored m k)) minds names h)

    two_hundred : success r ≡ 200
    unfolding success
    two_hundred = ap (λ (b : Bool). elim b [ true ↦ 201 | false ↦ 200 ]) none_ignored

-- what judgement 6 passes is legal
late_legal : (v : View) (r : Request) → late v r ≡ passes → AllLegal r
unfolding late
late_legal v r e = legal_each r (then_passes _ _ (then_passes _ _ e).1).0

-- ---- SET-PARAMS

-- answered 200: every value given was legal, and is in the further edition
pub record TakesAll (v : View) (r : Request) (o : Outcome) : Type 0 where
  pub says : o.says ≡ response v.name r.id 200 Complete [] ∷ []
  pub now : Edition
  pub each : EachTaken (kind v) r (newest v.editions) now
  pub others : OthersKept (kind v) (newest v.editions) now
  pub no_other : AllStand v r
  pub all_legal : AllLegal r
  pub newest_four : o.next.editions ≡ further now v.editions
  pub next : o.next ≡ with_edition now (with_last (Some r.id) v)

-- as it was, but for the last id seen where judgement 5 passed
abbrev pub AsBefore : View → Request → View → Type 0
AsBefore v r w = (w ≡ v) ⊎ (w ≡ with_last (Some r.id) v)

-- a failure changes nothing more
pub record TakesNone (v : View) (r : Request) (o : Outcome) : Type 0 where
  pub status : ℕ
  pub failure : is_failure status ≡ true
  pub says : o.says ≡ response v.name r.id status Complete [] ∷ []
  pub editions : o.next.editions ≡ v.editions
  pub next : AsBefore v r o.next

early_none : (v : View) (r : Request) (status : ℕ) → Fair (fails status) → TakesNone v r (after_early (fails status) v r)
early_none v r status h = record {
  status = status;
  failure = failing status h;
  says = refl;
  editions = refl;
  next = inl refl;
}

module _ (v : View) (r : Request) where
  abbrev seen : View
  seen = with_last (Some r.id) v

  late_none : (status : ℕ) → Fair (fails status) → TakesNone v r (after_late (fails status) seen r)
  late_none status h = record {
    status = status;
    failure = failing status h;
    says = refl;
    editions = refl;
    next = inr refl;
  }

  module _ (set : r.method ≡ Method.SetParams) where
    set_acts : AllStand seen r → AllLegal r → TakesAll v r (act r.method seen r)
    unfolding act
    set_acts h l =
        subst (λ (m : Method). TakesAll v r (act m seen r)) (sym set)
        (record {
          says =
              ap (λ (n : ℕ). response v.name r.id n Complete [] ∷ [])
              (two_hundred seen r Method.SetParams set (set_minds (kind v)) h);
          now = changed (settings (kind v)) r (newest v.editions);
          each = each_taken (kind v) r (newest v.editions);
          others = others_kept (kind v) r (newest v.editions);
          no_other = h;
          all_legal = l;
          newest_four = refl;
          next = refl;
        })

    set_late : (l : Verdict) → late seen r ≡ l → Fair l
        → TakesNone v r (after_late l seen r) ⊎ TakesAll v r (after_late l seen r)
    set_late passes e h =
        inr (set_acts (late_stand seen r Method.SetParams set refl e) (late_legal seen r e))
    set_late (fails status) e h = inl (late_none status h)

    set_early : (l : Verdict) → Fair l → TakesNone v r (after_early l v r) ⊎ TakesAll v r (after_early l v r)
    set_early passes h = set_late (late seen r) refl (late_fair seen r)
    set_early (fails status) h = inl (early_none v r status h)

    pub all_or_none : TakesNone v r (judge v r) ⊎ TakesAll v r (judge v r)
    unfolding judge
    all_or_none = set_early (early v r) (early_fair v r)

-- ---- GET-PARAMS

pub no_value_judged : (r : Request) → r.method ≡ Method.GetParams → legal r ≡ passes
unfolding legal acting unless
no_value_judged r e = rw e

-- answered 200 with the settings named, or all, as the newest edition has them; nothing changes but the last id seen
pub record Tells (v : View) (r : Request) (o : Outcome) : Type 0 where
  pub says : o.says ≡ telling v.name r.id 200 (told_by v r) ∷ []
  pub no_other : AllStand v r
  pub next : o.next ≡ with_last (Some r.id) v

module _ (v : View) (r : Request) (get : r.method ≡ Method.GetParams) where
  get_acts : AllStand (seen v r) r → Tells v r (act r.method (seen v r) r)
  unfolding act
  get_acts h =
      subst (λ (m : Method). Tells v r (act m (seen v r) r)) (sym get)
      (record {
        says =
            ap (λ (n : ℕ). telling v.name r.id n (told_by v r) ∷ [])
            (two_hundred (seen v r) r Method.GetParams get (get_minds (kind v)) h);
        no_other = h;
        next = refl;
      })

  get_late : (l : Verdict) → late (seen v r) r ≡ l → Fair l
      → TakesNone v r (after_late l (seen v r) r) ⊎ Tells v r (after_late l (seen v r) r)
  get_late passes e h = inr (get_acts (late_stand (seen v r) r Method.GetParams get refl e))
  get_late (fails status) e h = inl (late_none v r status h)

  get_early : (l : Verdict) → Fair l → TakesNone v r (after_early l v r) ⊎ Tells v r (after_early l v r)
  get_early passes h = get_late (late (seen v r) r) refl (late_fair (seen v r) r)
  get_early (fails status) h = inl (early_none v r status h)

  pub get_tells : TakesNone v r (judge v r) ⊎ Tells v r (judge v r)
  unfolding judge
  get_tells = get_early (early v r) (early_fair v r)

-- ---- a success of either is 200

pub set_never_201 : (v : View) (r : Request) → r.method ≡ Method.SetParams → late v r ≡ passes → success r ≡ 200
set_never_201 v r set e =
    two_hundred v r Method.SetParams set (set_minds (kind v)) (late_stand v r Method.SetParams set refl e)

pub get_never_201 : (v : View) (r : Request) → r.method ≡ Method.GetParams → late v r ≡ passes → success r ≡ 200
get_never_201 v r get e =
    two_hundred v r Method.GetParams get (get_minds (kind v)) (late_stand v r Method.GetParams get refl e)
