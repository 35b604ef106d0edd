-- What a judged request says is one response: its Channel-Identifier is the channel's name, its id is the request's, and its status is that of a
-- success or of a failure. What a report says are events, under the channel's name: one for the active request, or on a recognizer one for it and
-- one with 011 for each waiting one, in queue order. A handled call writes those messages and no other byte, and they read back. Assumes nothing.
use Prim.Native.Nat.{ℕ}
use mathlib.Core.Path.{◌≡◌, refl, sym, ap, subst, ◌∙◌}
use mathlib.Core.Bool.{true, false, false≢true}
use mathlib.Core.Option.{some}
use mathlib.Core.List.{List, [], ◌∷◌, ◌++◌, map, append-nil}
use mathlib.Core.Logic.{◌⊎◌, inl, inr}
use lib.Ieee.{Float}
use lib.ListN.{length}
use Rattle.lists.specs.Lists.{All}
use Rattle.lists.proofs.Tests.{choose}
use Rattle.message.specs.Message.{request, response, event, good, message, Message, Field}
use Rattle.message.specs.Known.{known_of, value_of}
use Rattle.message.specs.Reading.{read_bytes, messages_in}
use Rattle.message.specs.declared.Known.TheVariants.{ChannelIdentifier}
use Rattle.message.specs.declared.RequestState.{RequestState}
use Rattle.message.specs.declared.RequestState.TheVariants.{Complete}
use Rattle.message.proofs.Theorems.IdsInRange.{id_bytes}
use Rattle.answer.specs.Written.{written, written_all}
use Rattle.answer.specs.Writable.{Writable}
use Rattle.answer.specs.Answers as A
use Rattle.answer.specs.Answers.{event_name, complete, completes}
use Rattle.answer.specs.declared.Kind.{Kind}
use Rattle.answer.proofs.Theorems.ReadBack.{read_back}
use Rattle.answer.proofs.Theorems.ListsReadBack.{all_back}
use Rattle.ledger.specs.Ledger.{Turn}
use Rattle.synth.specs.Channel.{View, kind, ids}
use Rattle.synth.specs.Request.{Request, method_of}
use Rattle.synth.specs.Judgement.{success}
use Rattle.synth.specs.States.{Outcome, judge, is_match, counted, completed}
use Rattle.synth.specs.Calls.{Reply}
use Rattle.synth.specs.declared.Entry.{Entry}
use Rattle.synth.proofs.Channels.{sound_facts}
use Rattle.synth.proofs.Verdicts.{is_failure}
use Rattle.synth.proofs.Methods.{judge_good}
use Rattle.synth.proofs.Endings.{completed_good}
use Rattle.synth.proofs.Responses.{judged_says}
use Rattle.synth.proofs.Theorems.HandledCalls.{HandledRequest, request_read, HandledReport}

-- one message, which is a response to r under that name
pub record OneResponse (name : List ℕ) (r : Request) (says : List Message) : Type 0 where
  pub message : Message
  pub status : ℕ
  pub state : RequestState
  pub alone : says ≡ message ∷ []
  pub starts : message.start ≡ response r.id status state
  pub named : value_of ChannelIdentifier message.fields ≡ some name
  pub judged : (status ≡ success r) ⊎ (is_failure status ≡ true)

-- the events that end these requests under that name, in their order: the first with the cause, each other one with 011
pub record Events (kind : Kind) (name : List ℕ) (ids : List ℕ) (cause : ℕ) (says : List Message) : Type 0 where
  pub alone : says ≡ completes kind name ids cause
  pub starts : map (λ (m : Message). m.start) says ≡ map (λ id. event (event_name kind) id Complete) ids
  pub named : map (λ (m : Message). value_of ChannelIdentifier m.fields) says ≡ map (λ id. some name) ids

pub one_response : (v : View) (r : Request) → OneResponse v.name r (judge v r).says
unfolding A.response A.telling value_of known_of
one_response v r =
    judged_says v r (OneResponse v.name r) (λ state listed. by (success r) state listed (inl refl)) tells
    (λ status h. by status Complete [] (inr h))
  where
    by : (status : ℕ) (state : RequestState) (listed : List ℕ) → (status ≡ success r) ⊎ (is_failure status ≡ true)
        → OneResponse v.name r (A.response v.name r.id status state listed ∷ [])
    by status state listed h = record {
      message = A.response v.name r.id status state listed;
      status = status;
      state = state;
      alone = refl;
      starts = refl;
      named = refl;
      judged = h;
    }

    tells : (fields : List (Field (List ℕ)))
        → OneResponse v.name r (A.telling v.name r.id (success r) fields ∷ [])
    tells fields = record {
      message = A.telling v.name r.id (success r) fields;
      status = success r;
      state = Complete;
      alone = refl;
      starts = refl;
      named = refl;
      judged = inl refl;
    }

completes_events : (kind : Kind) (name : List ℕ) (id : ℕ) (ids : List ℕ) (cause : ℕ)
    → Events kind name (id ∷ ids) cause (completes kind name (id ∷ ids) cause)
unfolding complete value_of known_of
completes_events kind name id ids cause = record {
  alone = refl;
  starts = ap (◌∷◌ (event (event_name kind) id Complete)) (others_start ids);
  named = ap (◌∷◌ (some name)) (others_named ids);
}
  where
    others : List ℕ → List Message
    others l = map (λ i. complete kind name i 11) l

    others_start : (l : List ℕ) → map (λ (m : Message). m.start) (others l) ≡ map (λ i. event (event_name kind) i Complete) l
    others_start [] = refl
    others_start (i ∷ l) = ap (◌∷◌ (event (event_name kind) i Complete)) (others_start l)

    others_named : (l : List ℕ) → map (λ (m : Message). value_of ChannelIdentifier m.fields) (others l) ≡ map (λ i. some name) l
    others_named [] = refl
    others_named (i ∷ l) = ap (◌∷◌ (some name)) (others_named l)

module _ (v : View) (e : Entry) (queue : List Entry) (cause : ℕ) (score : Float) where
  -- what a report says on a channel of that kind
  abbrev pub said : Kind → List Message
  said k = (completed k e queue v cause score).says

  -- the cause that a recognizer's report counts as
  abbrev pub counts : ℕ
  counts = counted e.threshold cause score

  -- a synthesizer's report says one event
  pub one_event : Events Kind.Synthesizer v.name (e.id ∷ []) cause (said Kind.Synthesizer)
  one_event = completes_events Kind.Synthesizer v.name e.id [] cause

  -- and a recognizer's where it counts as 000 or 008
  pub match_event : is_match counts ≡ true → Events Kind.Recognizer v.name (e.id ∷ []) counts (said Kind.Recognizer)
  match_event m =
      choose (λ (o : Outcome). Events Kind.Recognizer v.name (e.id ∷ []) counts o.says) (is_match counts)
      (λ t. completes_events Kind.Recognizer v.name e.id [] counts) (λ f. absurd (false≢true (sym f ∙ m)))

  -- where it counts as another, all outstanding end
  pub all_events : is_match counts ≡ false → Events Kind.Recognizer v.name (ids (e ∷ queue)) counts (said Kind.Recognizer)
  all_events m =
      choose (λ (o : Outcome). Events Kind.Recognizer v.name (ids (e ∷ queue)) counts o.says) (is_match counts)
      (λ t. absurd (false≢true (sym m ∙ t))) (λ f. completes_events Kind.Recognizer v.name e.id (ids queue) counts)

-- bytes that are one message and no more, as a reader hears them
pub record WritesOne (m : Message) (w : List ℕ) : Type 0 where
  pub bytes_of : w ≡ written m
  pub writable : Writable m
  pub reads_back : (rest : List ℕ)
      → read_bytes (w ++ rest) ≡ message (record { stated = length w; major = 2; minor = 0 }) m.start (good m.fields m.body)

writes_alone : (m : Message) (says : List Message) (w : List ℕ) → says ≡ m ∷ [] → Writable m → w ≡ written_all says → WritesOne m w
unfolding written_all
writes_alone m says w one h e =
    let b : w ≡ written m = e ∙ ap written_all one ∙ append-nil (written m) in
    record { bytes_of = b; writable = h; reads_back = λ rest. rw b (read_back m rest h) }

module _ {v : View} {s : List ℕ} {t : Turn View Reply} (h : HandledRequest v s t) where
  pub request_writes : WritesOne (one_response v (request_read h)).message t.reply.written
  request_writes =
      let o = one_response v (request_read h) in
      let id = id_bytes s h.head (request h.name h.id) h.fields h.hears in
      let all = (judge_good v (sound_facts v h.on_sound_lem) (request_read h) id (method_of h.name) refl).writable in
      writes_alone o.message (judge v (request_read h)).says t.reply.written o.alone (subst (All Writable) o.alone all).0
      h.delivers.writes

-- bytes that are these messages end to end and no more, and read as the list of them
pub record WritesAll (ms : List Message) (w : List ℕ) : Type 0 where
  pub bytes_of : w ≡ written_all ms
  pub writable : All Writable ms
  pub reads_back : messages_in (length w) w ≡ ms

module _ {v : View} {cause : ℕ} {score : Float} {t : Turn View Reply} (h : HandledReport v cause score t) where
  pub report_writes : WritesAll (completed (kind v) h.active h.waiting v cause score).says t.reply.written
  report_writes =
      let o = completed (kind v) h.active h.waiting v cause score in
      let f = sound_facts v h.on_sound_lem in
      let w = (completed_good v f cause score h.active h.waiting h.queued (kind v) refl h.cause_known).writable in
      record { bytes_of = h.delivers.writes; writable = w; reads_back = rw h.delivers.writes (all_back o.says w) }

  -- a synthesizer's is one event and no more, whatever stands behind it
  pub one_event_writes : kind v ≡ Kind.Synthesizer → WritesOne (complete Kind.Synthesizer v.name h.active.id cause) t.reply.written
  one_event_writes told =
      let one : (completed (kind v) h.active h.waiting v cause score).says ≡ complete Kind.Synthesizer v.name h.active.id cause ∷ [] =
      ap (λ (k : Kind). (completed k h.active h.waiting v cause score).says) told in
      writes_alone _ _ t.reply.written one (subst (All Writable) one report_writes.writable).0 h.delivers.writes
