-- A client message that returned 0: the channel is sound, what is read_bytes at the front of the input is a request, and the call gives what judging
-- it gives. In an output of 305 bytes or more its frame alone gives the same, and so does whatever is read_bytes alike. An engine report that
-- returned 0: the channel is sound and speaks, or recognizes, the cause is one of its kind's, a recognizer's score is a number, and the call gives
-- what ending the active request gives; in an output that has enough room the same report gives the same. Assumes nothing.
use Prim.Native.Nat.{ℕ, ◌≤◌, ◌<◌}
use mathlib.Core.Path.{◌≡◌, refl, sym, ap, ◌∙◌}
use mathlib.Core.Bool.{true, false, false≢true}
use mathlib.Core.List.{List, [], ◌∷◌}
use native.Mathlib.Omega.{arith}
use lib.Dec.{ltb}
use lib.Ieee.{Float}
use lib.ListN.{length, take}
use borrow.Author.Tests.{leb-false, lt-leb}
use Rattle.lists.proofs.Tests.{choose}
use Rattle.message.specs.Message.{request, response, event, Fields, Head, Reading, refused, message}
use Rattle.message.specs.Reading.{read_bytes}
use Rattle.message.proofs.Refusals.{refused_number}
use Rattle.message.proofs.Theorems.ReadAlone.{bytes_alone}
use Rattle.answer.specs.Written.{written_all}
use Rattle.answer.specs.Answers.{cause_names}
use Rattle.answer.specs.declared.Kind.{Kind}
use Rattle.ledger.specs.Ledger.{Turn}
use Rattle.synth.specs.Kinds.{is_state_of}
use Rattle.synth.specs.Channel.{View, kind, sound}
use Rattle.synth.specs.Request.{Request, request_of}
use Rattle.synth.specs.States.{Outcome, judge, completed}
use Rattle.synth.specs.Calls.{input, report, Call, Reply, refuse, deliver, answer, awaits, is_no_score, is_no_cause, ending, reported, enough, call}
use Rattle.synth.specs.declared.State.{State}
use Rattle.synth.specs.declared.State.TheVariants.{Idle, Speaking, Paused, Recognizing, Recognized}
use Rattle.synth.specs.declared.Entry.{Entry}
use Rattle.synth.proofs.Channels.{sound_facts}
use Rattle.synth.proofs.ReadFrames.{Framed, bytes_framed}
use Rattle.synth.proofs.Theorems.Room.{never_7}

-- a client message or an engine report, with an output of so many bytes
abbrev pub lending : List ℕ → ℕ → Call
lending s room = record { lent = input s; room = room }

abbrev pub reporting : ℕ → Float → ℕ → Call
reporting cause score room = record { lent = report cause score; room = room }

-- the state in which a channel of that kind awaits reports
abbrev pub working : Kind → State
working Kind.Synthesizer = Speaking
working Kind.Recognizer = Recognizing

-- it returns 0, consumes so many bytes, writes what is said, end to end, and leaves the outcome's channel
pub record Delivers (consumed : ℕ) (o : Outcome) (t : Turn View Reply) : Type 0 where
  pub number : t.reply.number ≡ 0
  pub consumes : t.reply.consumed ≡ consumed
  pub writes : t.reply.written ≡ written_all o.says
  pub leaves : t.next ≡ o.next

-- the request at the front of s, judged
pub record HandledRequest (v : View) (s : List ℕ) (t : Turn View Reply) : Type 0 where
  pub on_sound_lem : sound v ≡ true
  pub head : Head
  pub name : List ℕ
  pub id : ℕ
  pub fields : Fields (List ℕ)
  pub hears : read_bytes s ≡ message head (request name id) fields
  pub framed : Framed s head
  pub delivers : Delivers head.stated (judge v (request_of (kind v) head name id fields)) t

abbrev pub request_read : {v : View} {s : List ℕ} {t : Turn View Reply} → HandledRequest v s t → Request
request_read {v} h = request_of (kind v) h.head h.name h.id h.fields

-- the active request, ended
pub record HandledReport (v : View) (cause : ℕ) (score : Float) (t : Turn View Reply) : Type 0 where
  pub on_sound_lem : sound v ≡ true
  pub works : v.state ≡ working (kind v)
  pub active : Entry
  pub waiting : List Entry
  pub queued : v.queue ≡ active ∷ waiting
  pub cause_known : cause < length (cause_names (kind v))
  pub scored : is_no_score (kind v) score ≡ false
  pub delivers : Delivers 0 (completed (kind v) active waiting v cause score) t

same_turn : {consumed : ℕ} {o : Outcome} {t u : Turn View Reply} → Delivers consumed o t → Delivers consumed o u → t ≡ u
same_turn g h = λ i. record {
  reply = record {
    number = (g.number ∙ sym h.number) i;
    consumed = (g.consumes ∙ sym h.consumes) i;
    written = (g.writes ∙ sym h.writes) i;
  };
  next = (g.leaves ∙ sym h.leaves) i;
}

-- what is delivered and has what refusal 7 has not
module _ (v : View) (consumed room : ℕ) (o : Outcome) where
  delivered : (P : Turn View Reply → Type 0) → (P (refuse v 7 0) → ⊥) → P (deliver v consumed room o)
      → Delivers consumed o (deliver v consumed room o)
  unfolding deliver
  delivered P none =
      choose (λ (t : Turn View Reply). P t → Delivers consumed o t) (ltb room (length (written_all o.says))) (λ _ p. absurd (none p))
      (λ _ _. record { number = refl; consumes = refl; writes = refl; leaves = refl })

  delivered_0 : (deliver v consumed room o).reply.number ≡ 0 → Delivers consumed o (deliver v consumed room o)
  delivered_0 = delivered (λ (t : Turn View Reply). t.reply.number ≡ 0) (λ z. omega arith)

  delivered_not_7 : ((deliver v consumed room o).reply.number ≡ 7 → ⊥) → Delivers consumed o (deliver v consumed room o)
  delivered_not_7 = delivered (λ (t : Turn View Reply). t.reply.number ≡ 7 → ⊥) (λ h. h refl)

module _ (v : View) (s : List ℕ) (room : ℕ) where
  answered : sound v ≡ true → (m : Reading (List ℕ)) → read_bytes s ≡ m → (answer v room m).reply.number ≡ 0 → HandledRequest v s (answer v room m)
  answered b (refused n k) e z = absurd (omega (arith, refused_number s n k e))
  answered b (message h (request name id) fs) e z = record {
    on_sound_lem = b;
    head = h;
    name = name;
    id = id;
    fields = fs;
    hears = e;
    framed = bytes_framed s h (request name id) fs e;
    delivers = delivered_0 v h.stated room (judge v (request_of (kind v) h name id fs)) z;
  }
  answered b (message h (response id status state) fs) e z = absurd (omega arith)
  answered b (message h (event name id state) fs) e z = absurd (omega arith)

  pub request_handled : (call v (lending s room)).reply.number ≡ 0 → HandledRequest v s (call v (lending s room))
  unfolding call
  request_handled =
      choose (λ (t : Turn View Reply). t.reply.number ≡ 0 → HandledRequest v s t) (sound v) (λ b. answered b (read_bytes s) refl)
      (λ _ z. absurd (omega arith))

-- a state of the kind in which reports are awaited
awaits_works : (k : Kind) (x : State) → is_state_of k x ≡ true → awaits x ≡ true → x ≡ working k
awaits_works k Idle ours a = absurd (false≢true a)
awaits_works Kind.Synthesizer Speaking ours a = refl
awaits_works Kind.Recognizer Speaking ours a = absurd (false≢true ours)
awaits_works k Paused ours a = absurd (false≢true a)
awaits_works Kind.Synthesizer Recognizing ours a = absurd (false≢true ours)
awaits_works Kind.Recognizer Recognizing ours a = refl
awaits_works k Recognized ours a = absurd (false≢true a)

works_awaits : (k : Kind) → awaits (working k) ≡ true
works_awaits Kind.Synthesizer = refl
works_awaits Kind.Recognizer = refl

module _ (v : View) (cause : ℕ) (score : Float) (room : ℕ) where
  abbrev Told : Turn View Reply → Type 0
  Told t = t.reply.number ≡ 0 → HandledReport v cause score t

  ended : sound v ≡ true → is_no_cause (kind v) cause ≡ false → is_no_score (kind v) score ≡ false → awaits v.state ≡ true
      → (q : List Entry) → v.queue ≡ q → Told (ending q v cause score room)
  ended b c s a [] e z = absurd (omega arith)
  ended b c s a (x ∷ q) e z = record {
    on_sound_lem = b;
    works = awaits_works (kind v) v.state (sound_facts v b).state_ours a;
    active = x;
    waiting = q;
    queued = e;
    cause_known = leb-false (length (cause_names (kind v))) cause c;
    scored = s;
    delivers = delivered_0 v 0 room (completed (kind v) x q v cause score) z;
  }

  handled : sound v ≡ true → Told (reported v cause score room)
  unfolding reported
  handled b =
      choose Told (is_no_cause (kind v) cause) (λ _ z. absurd (omega arith))
      (λ c. choose Told (is_no_score (kind v) score) (λ _ z. absurd (omega arith))
      (λ s. choose Told (awaits v.state) (λ a. ended b c s a v.queue refl) (λ _ z. absurd (omega arith))))

  pub report_handled : (call v (reporting cause score room)).reply.number ≡ 0 → HandledReport v cause score (call v (reporting cause score room))
  unfolding call
  report_handled = choose Told (sound v) handled (λ _ z. absurd (omega arith))

-- where there is enough room for the call, there is for whatever is delivered
with_room : (v : View) (c : Call) (consumed : ℕ) (o : Outcome) (t : Turn View Reply) → enough (kind v) c.lent ≤ c.room
    → call v c ≡ deliver v consumed c.room o → Delivers consumed o t → call v c ≡ t
with_room v c consumed o t roomy e g =
    e ∙ same_turn (delivered_not_7 v consumed c.room o (λ z. never_7 v c roomy (ap (λ (t : Turn View Reply). t.reply.number) e ∙ z))) g

module _ {v : View} {s : List ℕ} {t : Turn View Reply} (h : HandledRequest v s t) where
  pub bytes_alike : (u : List ℕ) (room : ℕ) → 305 ≤ room → read_bytes u ≡ read_bytes s → call v (lending u room) ≡ t
  unfolding call
  bytes_alike u room roomy e =
      with_room v (lending u room) h.head.stated (judge v (request_read h)) t roomy
      (rw (h.on_sound_lem, call) (ap (answer v room) (e ∙ h.hears))) h.delivers

  pub frame_read : read_bytes (take t.reply.consumed s) ≡ read_bytes s
  frame_read = ap (λ n. read_bytes (take n s)) h.delivers.consumes ∙ bytes_alone s _ _ _ _ h.framed.frame

  pub frame_suffices : (room : ℕ) → 305 ≤ room → call v (lending (take t.reply.consumed s) room) ≡ t
  frame_suffices room roomy = bytes_alike (take t.reply.consumed s) room roomy frame_read

module _ {v : View} {cause : ℕ} {score : Float} {t : Turn View Reply} (h : HandledReport v cause score t) where
  ends_active : (room : ℕ) → reported v cause score room ≡ deliver v 0 room (completed (kind v) h.active h.waiting v cause score)
  unfolding reported
  ends_active room =
      rw (lt-leb (length (cause_names (kind v))) cause h.cause_known, h.scored, ap awaits h.works ∙ works_awaits (kind v), reported)
      (ap (λ q. ending q v cause score room) h.queued)

  pub report_suffices : (room : ℕ) → enough (kind v) (report cause score) ≤ room → call v (reporting cause score room) ≡ t
  unfolding call
  report_suffices room roomy =
      with_room v (reporting cause score room) 0 (completed (kind v) h.active h.waiting v cause score) t roomy
      (rw (h.on_sound_lem, call) (ends_active room)) h.delivers
