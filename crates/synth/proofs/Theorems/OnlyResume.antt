-- A paused channel is never made to speak but by RESUME: whatever the call, if the channel was paused before it and speaks after it, the input's
-- request is a RESUME. Assumes nothing.
use Prim.Native.Nat.{ℕ}
use mathlib.Core.Path.{◌≡◌, refl, sym, ap, subst, ◌∙◌}
use mathlib.Core.Bool.{false, false≢true}
use mathlib.Core.Option.{Option, none, some}
use mathlib.Core.List.{List, map}
use lib.Dec.{ltb}
use lib.Ieee.{Float}
use lib.ListN.{length}
use Rattle.lists.specs.Lists.{elem}
use Rattle.lists.proofs.Tests.{choose}
use Rattle.message.specs.Message.{Reading, refused, message, request, response, event}
use Rattle.message.specs.Reading.{read_bytes}
use Rattle.answer.specs.Written.{written_all}
use Rattle.answer.specs.declared.Kind.{Kind}
use Rattle.ledger.specs.Ledger.{Turn}
use Rattle.synth.specs.Kinds.{method_number, methods, method_in}
use Rattle.synth.specs.Channel.{View, kind, sound}
use Rattle.synth.specs.Request.{method_of, is, request_of}
use Rattle.synth.specs.States.{judge}
use Rattle.synth.specs.Calls.{Lent, input, report, back, Call, Reply, deliver, answer, awaits, is_no_score, is_no_cause, reported, going_back, gone_back, on_sound, call}
use Rattle.synth.specs.Settings.{edition_at}
use Rattle.synth.specs.Demand3.{asked_by}
use Rattle.synth.specs.declared.State.{State}
use Rattle.synth.specs.declared.State.TheVariants.{Speaking, Paused}
use Rattle.synth.specs.declared.Method.{Method}
use Rattle.synth.specs.declared.Edition.{Edition}
use Rattle.synth.proofs.Pauses.{Silent, Kept, judge_kept}

-- the request at the front of the input is of that method
abbrev pub Asks : Lent → Method → Type 0
Asks (input s) m = (id : ℕ) × (asked_by (read_bytes s) ≡ some (record { method = m; id = id }))
Asks (report cause score) m = ⊥
Asks (back n) m = ⊥

module _ (v : View) (paused : v.state ≡ Paused) where
  -- speaking afterwards, only where RESUME was asked for
  abbrev Keeps : Lent → Turn View Reply → Type 0
  Keeps lent t = t.next.state ≡ Speaking → Asks lent Method.Resume

  never : (lent : Lent) → v.state ≡ Speaking → Asks lent Method.Resume
  never lent e = absurd (subst Silent (sym paused ∙ e) tt)

  -- a method that the channel's kind lacks is none that has it speak
  named_kept : (k : Kind) (m : Method) (state : State) → Kept (method_in k m) state → Kept m state
  named_kept k m state h other =
      h (choose (λ (n : Method). is n Method.Resume ≡ false) (elem (method_number m) (map method_number (methods k))) (λ t. other) (λ t. refl))

  by_method : (s : List ℕ) (m : Method) (id : ℕ) (state : State) → asked_by (read_bytes s) ≡ some (record { method = m; id = id }) → Kept m state
      → state ≡ Speaking → Asks (input s) Method.Resume
  by_method s Method.Speak id state a k e = absurd (subst Silent e (k refl))
  by_method s Method.Stop id state a k e = absurd (subst Silent e (k refl))
  by_method s Method.Pause id state a k e = absurd (subst Silent e (k refl))
  by_method s Method.Resume id state a k e = (id, a)
  by_method s Method.Control id state a k e = absurd (subst Silent e (k refl))
  by_method s Method.BargeInOccurred id state a k e = absurd (subst Silent e (k refl))
  by_method s Method.Unknown id state a k e = absurd (subst Silent e (k refl))
  by_method s Method.Recognize id state a k e = absurd (subst Silent e (k refl))
  by_method s Method.StartInputTimers id state a k e = absurd (subst Silent e (k refl))
  by_method s Method.SetParams id state a k e = absurd (subst Silent e (k refl))
  by_method s Method.GetParams id state a k e = absurd (subst Silent e (k refl))

  answered : (s : List ℕ) (room : ℕ) (m : Reading (List ℕ)) → read_bytes s ≡ m → Keeps (input s) (answer v room m)
  unfolding deliver
  answered s room (refused n k) e = never (input s)
  answered s room (message h (request name id) fs) e =
      let r = request_of (kind v) h name id fs in
      let o = judge v r in
      choose (Keeps (input s)) (ltb room (length (written_all o.says))) (λ t. never (input s))
      (λ t. by_method s (method_of name) id o.next.state (rw e refl) (named_kept (kind v) (method_of name) o.next.state (judge_kept v r paused)))
  answered s room (message h (response id status state) fs) e = never (input s)
  answered s room (message h (event name id state) fs) e = never (input s)

  reports : (cause : ℕ) (score : Float) (room : ℕ) → Keeps (report cause score) (reported v cause score room)
  unfolding reported
  reports cause score room =
      choose (Keeps (report cause score)) (is_no_cause (kind v) cause) (λ t. never (report cause score))
      (λ t. choose (Keeps (report cause score)) (is_no_score (kind v) score) (λ u. never (report cause score))
      (λ u. choose (Keeps (report cause score)) (awaits v.state) (λ w. absurd (false≢true (sym (ap awaits paused) ∙ w))) (λ w. never (report cause score))))

  goes : (n : ℕ) (o : Option Edition) → Keeps (back n) (going_back o v)
  goes n none = never (back n)
  goes n (some e) = never (back n)

  sounded : (lent : Lent) (room : ℕ) → Keeps lent (on_sound lent v room)
  sounded (input s) room = answered s room (read_bytes s) refl
  sounded (report cause score) room = reports cause score room
  sounded (back n) room = unfold gone_back in goes n (edition_at n v.editions)

  pub only_resume : (c : Call) → (call v c).next.state ≡ Speaking → Asks c.lent Method.Resume
  unfolding call
  only_resume c = choose (Keeps c.lent) (sound v) (λ t. sounded c.lent c.room) (λ t. never c.lent)
