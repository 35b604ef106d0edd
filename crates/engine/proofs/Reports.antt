-- What an engine report comes to, one law for each way out. Assumes nothing.
use Prim.Native.Nat.{ℕ, suc, ◌≤◌, ◌<◌}
use mathlib.Core.Path.{◌≡◌, refl, sym, ap, ap₂, ◌∙◌}
use mathlib.Core.Bool.{Bool, true, false, not, beq, false≢true}
use mathlib.Core.List.{List, [], ◌∷◌, append-nil}
use lib.Ieee.{Float}
use lib.ListN.{length}
use borrow.Author.Tests.{le-leb, lt-leb}
use native.Mathlib.Nat.{le_trans}
use Rattle.lists.specs.Lists.{is_empty}
use Rattle.answer.specs.Written.{written, written_all}
use Rattle.answer.specs.Answers.{cause_names, complete, completes}
use Rattle.answer.specs.declared.Kind.{Kind}
use Rattle.ledger.specs.Ledger.{Turn}
use Rattle.synth.specs.Channel.{View, kind, with_queue, ids, is_busy, shaped, sound}
use Rattle.synth.specs.Calls.{report, Reply, refuse, deliver, awaits, is_no_cause, is_no_score, reported, ending, call}
use Rattle.synth.specs.States.{Outcome, while_any, is_match, ends_one, recognized, completed}
use Rattle.synth.specs.declared.Entry.{Entry}
use Rattle.synth.specs.declared.State.{State}
use Rattle.synth.specs.declared.State.TheVariants.{Idle, Speaking, Paused, Recognizing, Recognized}
use Rattle.synth.proofs.Channels.{sound_facts, most_16}
use Rattle.queue.specs.Queue.{first, marked}
use Rattle.channel.proofs.Parts.{shape_few}
use Rattle.queue.proofs.Masks.{all_end, none_remains, active_ends, others_remain}
use Rattle.engine.specs.Endings.{ends_marked}

module _ (v : View) (k : Kind) (of : kind v ≡ k) (cause : ℕ) (score : Float) (room : ℕ) (sane : sound v ≡ true) where
  abbrev turn : Turn View Reply
  turn = call v (record { lent = report cause score; room = room })

  goes : turn ≡ reported v cause score room
  unfolding call
  goes = rw (sane, call)

  -- by the three tests
  abbrev tested : Bool → Bool → Bool → Turn View Reply
  tested c n s = elim c [
    | true ↦ refuse v 9 0
    | false ↦ elim n [ true ↦ refuse v 11 0 | false ↦ elim s [ true ↦ ending v.queue v cause score room | false ↦ refuse v 8 0 ] ]
  ]

  told : (c n s : Bool) → is_no_cause k cause ≡ c → is_no_score k score ≡ n → awaits v.state ≡ s → turn ≡ tested c n s
  unfolding reported
  told c n s e f g =
      goes ∙ (λ i. tested ((ap (λ (k : Kind). is_no_cause k cause) of ∙ e) i) ((ap (λ (k : Kind). is_no_score k score) of ∙ f) i) (g i))

  pub no_such_cause : length (cause_names k) ≤ cause → turn ≡ refuse v 9 0
  no_such_cause h = told true _ _ (le-leb (length (cause_names k)) cause h) refl refl

  module _ (h : cause < length (cause_names k)) where
    has : is_no_cause k cause ≡ false
    has = lt-leb (length (cause_names k)) cause h

    pub no_number : is_no_score k score ≡ true → turn ≡ refuse v 11 0
    no_number e = told false true _ has e refl

    module _ (n : is_no_score k score ≡ false) where
      pub nothing_awaited : awaits v.state ≡ false → turn ≡ refuse v 8 0
      nothing_awaited e = told false false false has n e

      pub ends : awaits v.state ≡ true → (e : Entry) (queue : List Entry) → v.queue ≡ e ∷ queue
          → turn ≡ deliver v 0 room (completed k e queue v cause score)
      ends s e queue q =
          told false false true has n s
          ∙ ap (λ (l : List Entry). ending l v cause score room) q
          ∙ ap (λ (k : Kind). deliver v 0 room (completed k e queue v cause score)) of

-- the queue of a channel of that shape is within its array
pub queue_within : (v : View) → shaped v ≡ true → length v.queue ≤ 16
queue_within v e = le_trans (shape_few v e) (most_16 (kind v))

-- a channel from which a report is awaited has an active one
pub record Active (v : View) : Type 0 where
  pub entry : Entry
  pub others : List Entry
  pub queued : v.queue ≡ entry ∷ others

awaited_busy : (s : State) → awaits s ≡ true → is_busy s ≡ true
awaited_busy Idle e = absurd (false≢true e)
awaited_busy Speaking e = refl
awaited_busy Paused e = refl
awaited_busy Recognizing e = refl
awaited_busy Recognized e = absurd (false≢true e)

pub has_active : (v : View) → sound v ≡ true → awaits v.state ≡ true → Active v
has_active v sane s = go v.queue refl (rw (awaited_busy v.state s) at (sound_facts v sane).busy_held)
  where
    go : (q : List Entry) → v.queue ≡ q → beq true (not (is_empty q)) ≡ true → Active v
    go [] e h = absurd (false≢true h)
    go (x ∷ q) e h = record { entry = x; others = q; queued = e }

-- the event's bytes
pub event_written : (v : View) (name : List ℕ) (active e : Entry) (queue : List Entry) (n : ℕ) → v.queue ≡ e ∷ queue → active ≡ first v.queue → v.name ≡ name
    → written_all (ends_one Kind.Synthesizer Idle Speaking e queue v n).says ≡ written (complete Kind.Synthesizer name active.id n)
unfolding written_all
event_written v name active e queue n q a s =
    append-nil _ ∙ ap (λ (l : List ℕ). written (complete Kind.Synthesizer l e.id n)) s
    ∙ ap (λ (x : Entry). written (complete Kind.Synthesizer name x.id n)) (sym (a ∙ ap first q))

-- the bytes of the events that end those marked
pub events_written : (v : View) (mask : ℕ) (name listed : List ℕ) (n : ℕ) → listed ≡ ids (marked true mask 0 v.queue) → v.name ≡ name
    → written_all (ends_marked mask v n).says ≡ written_all (completes Kind.Recognizer name listed n)
events_written v mask name listed n l s = ap₂ (λ (a b : List ℕ). written_all (completes Kind.Recognizer a b n)) s (sym l)

-- with 000 or 008 the active one is marked, with another cause all are
module _ (v : View) (e : Entry) (queue : List Entry) (q : v.queue ≡ e ∷ queue) (few : length v.queue ≤ 16) (cause : ℕ) where
  abbrev leaving : List Entry → List Entry → Outcome
  leaving gone rest =
      record { says = completes Kind.Recognizer v.name (ids gone) cause; next = with_queue (while_any Recognized Recognizing rest) rest v }

  pub match_starts : is_match cause ≡ true → ends_marked 1 v cause ≡ recognized e queue v cause
  match_starts h =
      let short : suc (length queue) ≤ 16 = rw q at few in
      ap₂ leaving (ap (λ (l : List Entry). marked true 1 0 l) q ∙ active_ends queue e short) (ap (λ (l : List Entry). marked false 1 0 l) q ∙ others_remain queue e short)
      ∙ rw (h, recognized)

  pub other_ends : is_match cause ≡ false → ends_marked 65535 v cause ≡ recognized e queue v cause
  other_ends h = ap₂ leaving (all_end v.queue few ∙ q) (none_remains v.queue few) ∙ rw (h, recognized)
