-- What a SET-PARAMS or a GET-PARAMS comes to from judgement 6 on, one law for each way out. Assumes nothing.
use Prim.Native.Nat.{ℕ}
use mathlib.Core.Path.{◌≡◌, refl, sym, ap, subst, ◌∙◌}
use mathlib.Core.Bool.{Bool, true, false, false≢true}
use Rattle.std.proofs.Common.{Option, Some, None}
use mathlib.Core.List.{List, [], ◌∷◌, map}
use native.Mathlib.Omega.{arith}
use Rattle.message.specs.Message.{Fields, fields_in}
use Rattle.message.specs.Known.{names_of}
use Rattle.message.specs.declared.RequestState.TheVariants.{Complete}
use Rattle.answer.specs.Answers.{response, telling}
use Rattle.answer.specs.declared.Kind.{Kind}
use Rattle.synth.specs.Settings.{settings, setting_field, named, newest}
use Rattle.synth.specs.Channel.{View, kind, with_queue, with_edition}
use Rattle.synth.specs.Request.{Request, is_set, is_params}
use Rattle.synth.specs.Judgement.{Verdict, passes, fails, ◌then◌, unless}
use Rattle.synth.specs.Judgement.{permitted, legal, of_kind, valid, content, capacity, late}
use Rattle.synth.specs.States as S
use Rattle.synth.specs.States.{failed, changed, act, after_late}
use Rattle.synth.specs.declared.Edition.{Edition}
use Rattle.synth.specs.declared.Method.{Method}
use Rattle.synth.specs.declared.State.{State}
use Rattle.synth.proofs.Theorems.Forbidden.{due_403}
use Rattle.synth.proofs.Theorems.Params.{no_value_judged, set_never_201, get_never_201}
use Rattle.queue.specs.Queue.{list_of, no_ids}
use Rattle.queue.specs.declared.Ids.{Ids}
use Rattle.queue.specs.declared.Queue.{Queue}
use Rattle.queue.proofs.Queues.{none_listed}
use Rattle.told.specs.Told.{told}
use Rattle.outcomes.specs.Outcomes.{asked, outcome, Makes}
use Rattle.outcomes.specs.declared.Outcome.{Outcome}
use Rattle.params.specs.Doing.{Does}
use Rattle.params.specs.Steps.{changed_as}
use Rattle.params.specs.declared.Done.{Done}
use Rattle.params.specs.declared.Effect.{Effect}
use Rattle.params.proofs.Standing.{all_stand}

-- the two methods
pub one_of : (m : Method) → is_params m ≡ true
    → m ≡ elim (is_set m) [ true ↦ Method.SetParams | false ↦ Method.GetParams ]
one_of Method.Speak e = absurd (false≢true e)
one_of Method.Stop e = absurd (false≢true e)
one_of Method.Pause e = absurd (false≢true e)
one_of Method.Resume e = absurd (false≢true e)
one_of Method.Control e = absurd (false≢true e)
one_of Method.BargeInOccurred e = absurd (false≢true e)
one_of Method.Unknown e = absurd (false≢true e)
one_of Method.Recognize e = absurd (false≢true e)
one_of Method.StartInputTimers e = absurd (false≢true e)
one_of Method.SetParams e = refl
one_of Method.GetParams e = refl

abbrev no_edition : Option Edition
no_edition = None

-- what an edition that was not made, or was, says of judgement 6
unmade : (b : Bool) (e : Edition) → no_edition ≡ changed_as (unless b 404) e → unless b 404 ≡ fails 404
unfolding unless
unmade true e h = let d : ◌≡◌ {A = ℕ} 0 1 = cc in absurd (omega arith)
unmade false e h = refl

made : (b : Bool) (s e : Edition) → Some s ≡ changed_as (unless b 404) e → (unless b 404 ≡ passes) × (s ≡ e)
unfolding unless
made true s e h = (refl, cc)
made false s e h = let d : ◌≡◌ {A = ℕ} 0 1 = cc in absurd (omega arith)

set_fails : (r : Request) (e : Edition) → no_edition ≡ changed_as (legal r) e → legal r ≡ fails 404
unfolding legal
set_fails r e h = unmade _ e h

set_passes : (r : Request) (s e : Edition) → Some s ≡ changed_as (legal r) e → (legal r ≡ passes) × (s ≡ e)
unfolding legal
set_passes r s e h = made _ s e h

then_none : (a : Verdict) → (a then passes) ≡ a
unfolding ◌then◌
then_none passes = refl
then_none (fails n) = refl

-- a failure changes nothing
pub plainly : {v : View} {d : Done} {o : Outcome} {s : S.Outcome} → d ≡ record { outcome = o; effect = Effect.Nothing }
    → Makes v o s → Does v d.outcome d.effect s
plainly e m = rw e (record { says = m.says; left = m.left; few = m.few; ends = tt })

module _ (v : View) (state : State) (q : Queue) (k : Kind) (of : kind v ≡ k) (major minor id : ℕ)
    (fs : Fields (List ℕ)) where
  abbrev w : View
  w = with_queue state (list_of q) v

  -- 403 before all
  pub forbidden : (m : Method) → is_params m ≡ true → all_stand k fs ≡ false
      → let r : Request = asked major minor m id fs in after_late (late w r) w r ≡ failed w r 403
  forbidden m e f =
      let r : Request = asked major minor m id fs in
      ap (λ (l : Verdict). after_late l w r) (due_403 w r (e, ap (λ (k : Kind). all_stand k fs) of ∙ f))

  module _ (stand : all_stand k fs ≡ true) where
    abbrev sets : Request
    sets = asked major minor Method.SetParams id fs

    abbrev gets : Request
    gets = asked major minor Method.GetParams id fs

    all_stand_lem : all_stand (kind v) fs ≡ true
    all_stand_lem = ap (λ (k : Kind). all_stand k fs) of ∙ stand

    set_late : late w sets ≡ legal sets
    unfolding late permitted of_kind valid content capacity unless ◌then◌
    set_late = ap (λ b. unless b 403 then legal sets then passes) all_stand_lem ∙ then_none (legal sets)

    get_late : late w gets ≡ passes
    unfolding late permitted of_kind valid content capacity unless ◌then◌
    get_late =
        ap (λ b. unless b 403 then legal gets then passes) all_stand_lem ∙ then_none (legal gets)
        ∙ no_value_judged gets refl

    module _ (now : Edition) (of-now : newest v.editions ≡ now) where
      pub set_illegal : no_edition ≡ changed_as (legal sets) (changed (settings k) sets now)
          → after_late (late w sets) w sets ≡ failed w sets 404
      set_illegal e =
          ap (λ (l : Verdict). after_late l w sets) (set_late ∙ set_fails sets (changed (settings k) sets now) e)

      pub set_legal : {e : Edition} {o : Outcome} {ids : Ids}
          → Some e ≡ changed_as (legal sets) (changed (settings k) sets now)
          → ids ≡ no_ids → o ≡ outcome id 200 Complete ids state q
          → Does w o (Effect.Set e) (after_late (late w sets) w sets)
      unfolding act
      set_legal {e} {o} h l f =
          let (passed, is) = set_passes sets e (changed (settings k) sets now) h in
          let late-passes : late w sets ≡ passes = set_late ∙ passed in
          subst (λ (l : Verdict). Does w o (Effect.Set e) (after_late l w sets)) (sym late-passes)
          (rw (f, l) (record {
            says = ap (λ n. response v.name id n Complete [] ∷ []) (sym (set_never_201 w sets refl late-passes));
            left =
                ap (λ (e : Edition). with_edition e w)
                (is ∙ (λ z. changed (settings (sym of z)) sets (sym of-now z)));
            few = none_listed.few;
            ends = tt;
          }))

    pub get_told : {o : Outcome} {ids : Ids} {bits : ℕ} → told k bits ≡ named (names_of (fields_in fs)) (settings k)
        → ids ≡ no_ids → o ≡ outcome id 200 Complete ids state q
        → Does w o (Effect.Tell bits) (after_late (late w gets) w gets)
    unfolding act
    get_told {o} {ids} {bits} h l f =
        let by_kind : told (kind v) bits ≡ named (names_of (fields_in fs)) (settings (kind v)) =
        subst (λ (k : Kind). told k bits ≡ named (names_of (fields_in fs)) (settings k)) (sym of) h in
        subst (λ (l : Verdict). Does w o (Effect.Tell bits) (after_late l w gets)) (sym get_late)
        (rw (f, l) (record {
          says =
              λ z.
              telling v.name id (sym (get_never_201 w gets refl get_late) z)
              (map (setting_field (newest v.editions)) (by_kind z))
              ∷ [];
          left = refl;
          few = none_listed.few;
          ends = refl;
        }))
