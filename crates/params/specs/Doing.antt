-- What a request comes to beside its answer: the settings that it sets, or that its answer tells.
use Rattle.std.specs.Prelude.{ℕ, ◌≤◌, ◌≡◌, true, List, [], ◌∷◌, map, take}
use Rattle.lists.specs.Lists.{all}
use Rattle.message.specs.Message.{Message, Fields, fields_in}
use Rattle.message.specs.Known.{names_of}
use Rattle.message.specs.declared.RequestState.TheVariants.{Complete}
use Rattle.answer.specs.Answers.{response_of, telling}
use Rattle.answer.specs.declared.Kind.{Kind}
use Rattle.synth.specs.Settings.{may_stand, setting_field, newest}
use Rattle.synth.specs.Channel.{View, kind, with_queue, with_edition}
use Rattle.synth.specs.Request.{Request}
use Rattle.synth.specs.Judgement.{late}
use Rattle.synth.specs.States as S
use Rattle.synth.specs.States.{after_late}
use Rattle.synth.specs.declared.Edition.{Edition}
use Rattle.synth.specs.declared.Method.{Method}
use Rattle.synth.specs.declared.State.{State}
use Rattle.queue.specs.Queue.{list_of}
use Rattle.queue.specs.declared.Queue.{Queue}
use Rattle.header.specs.declared.Header.{Header}
use Rattle.request.specs.Telling.{Tells}
use Rattle.told.specs.Told.{told}
use Rattle.outcomes.specs.Outcomes.{asked}
use Rattle.outcomes.specs.declared.Outcome.{Outcome}
use Rattle.params.specs.declared.Effect.{Effect}
use Rattle.params.specs.declared.Done.{Done}

-- what is said: the answer with its list, or with the settings that it tells
abbrev pub said_by : Effect → View → Outcome → Message
said_by Effect.Nothing v o = response_of v.name o.answer (take o.listed.count o.listed.ids)
said_by (Effect.Set e) v o = response_of v.name o.answer (take o.listed.count o.listed.ids)
said_by (Effect.Tell asked) v o =
    telling v.name o.answer.id o.answer.status.code
    (map (setting_field (newest v.editions)) (told (kind v) asked))

-- what is left: a further edition where one was set
abbrev pub left_by : Effect → View → View
left_by Effect.Nothing v = v
left_by (Effect.Set e) v = with_edition e v
left_by (Effect.Tell asked) v = v

-- an answer that tells settings is at an end
abbrev pub EndsTelling : Effect → Outcome → Type 0
EndsTelling Effect.Nothing o = Unit {0}
EndsTelling (Effect.Set e) o = Unit {0}
EndsTelling (Effect.Tell asked) o = o.answer.state ≡ Complete

-- on the channel v, o with that effect says and leaves what d has
pub record Does (v : View) (o : Outcome) (x : Effect) (d : S.Outcome) : Type 0 where
  pub says : said_by x v o ∷ [] ≡ d.says
  pub left : left_by x (with_queue o.state (list_of o.queue) v) ≡ d.next
  pub few : o.listed.count ≤ 16
  pub ends : EndsTelling x o

-- on every channel of this kind, with these settings, in this state and with this queue, every request of this method
-- and id that is told of does that, from judgement 6 on
abbrev pub DoesOn : Kind → Edition → State → Queue → Method → ℕ → (Request → Type 0) → Done → Type 0
DoesOn k now state queue m id told d =
    (v : View) → kind v ≡ k → newest v.editions ≡ now → (major minor : ℕ) (fs : Fields (List ℕ)) →
    (let w : View = with_queue state (list_of queue) v in
    let r : Request = asked major minor m id fs in
    told r → Does w d.outcome d.effect (after_late (late w r) w r))

-- the same of a request whose fields may all stand, as the header h tells of them
abbrev pub StandsOn : Kind → Edition → State → Queue → Method → ℕ → List ℕ → Header → Done → Type 0
StandsOn k now state queue m id f h d =
    DoesOn k now state queue m id
    (λ r. Tells true f h r.fields × (all (may_stand k) (names_of (fields_in r.fields)) ≡ true)) d
