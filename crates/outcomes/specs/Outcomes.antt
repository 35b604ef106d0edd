-- An outcome that the code makes, in the terms of document 01.
use Rattle.std.specs.Prelude.{ℕ, ◌≤◌, ◌≡◌, List, [], ◌∷◌, take}
use Rattle.message.specs.Message.{Fields}
use Rattle.message.specs.declared.RequestState.{RequestState}
use Rattle.answer.specs.Answers.{response_of}
use Rattle.answer.specs.declared.Kind.{Kind}
use Rattle.synth.specs.Settings.{newest}
use Rattle.synth.specs.Channel.{View, kind, with_queue}
use Rattle.synth.specs.Request.{Request}
use Rattle.synth.specs.Judgement.{Verdict, late}
use Rattle.synth.specs.States as S
use Rattle.synth.specs.States.{after_late}
use Rattle.synth.specs.declared.Edition.{Edition}
use Rattle.synth.specs.declared.Method.{Method}
use Rattle.synth.specs.declared.State.{State}
use Rattle.queue.specs.Queue.{list_of}
use Rattle.queue.specs.declared.Ids.{Ids}
use Rattle.queue.specs.declared.Queue.{Queue}
use Rattle.outcomes.specs.declared.Outcome.{Outcome}

-- a request with the method m
abbrev pub asked : ℕ → ℕ → Method → ℕ → Fields (List ℕ) → Request
asked major minor m id fs = record { major = major; minor = minor; method = m; id = id; fields = fs }

-- the answer's id, status and state, the ids listed, and what is left
abbrev pub outcome : ℕ → ℕ → RequestState → Ids → State → Queue → Outcome
outcome id code progress listed state queue = record {
  answer = record { id = id; status = record { code = code }; state = progress };
  listed = listed;
  state = state;
  queue = queue;
}

-- on the channel v, o says and leaves what d has
pub record Makes (v : View) (o : Outcome) (d : S.Outcome) : Type 0 where
  pub says : response_of v.name o.answer (take o.listed.count o.listed.ids) ∷ [] ≡ d.says
  pub left : with_queue o.state (list_of o.queue) v ≡ d.next
  pub few : o.listed.count ≤ 16

-- on the channel v in this state and with this queue, every request of this method and id that is told of comes to o, where these judgements
-- are still ahead of it
abbrev pub ComesAt : View → (View → Request → Verdict) → State → Queue → Method → ℕ → (Request → Type 0) → Outcome → Type 0
ComesAt v ahead state queue m id told o =
    (major minor : ℕ) (fs : Fields (List ℕ)) →
    (let w : View = with_queue state (list_of queue) v in
    let r : Request = asked major minor m id fs in
    told r → Makes w o (after_late (ahead w r) w r))

-- on every channel of this kind and with these settings, where these judgements are still ahead, and from judgement 6 on
abbrev pub ComesOn : Kind → Edition → (View → Request → Verdict) → State → Queue → Method → ℕ → (Request → Type 0) → Outcome
    → Type 0
ComesOn k now ahead state queue m id told o =
    (v : View) → kind v ≡ k → newest v.editions ≡ now → ComesAt v ahead state queue m id told o

abbrev pub ActsOn : Kind → Edition → State → Queue → Method → ℕ → (Request → Type 0) → Outcome → Type 0
ActsOn k now = ComesOn k now late

-- on every channel, whatever its kind
abbrev pub Acts : State → Queue → Method → ℕ → (Request → Type 0) → Outcome → Type 0
Acts state queue m id told o = (v : View) → ComesAt v late state queue m id told o
