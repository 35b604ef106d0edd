-- `speak::join` goes by the room and the state. Assumes nothing.
use Prim.Native.Nat.{◌≤◌, ◌<◌}
use mathlib.Core.Path.{◌≡◌, sym, ap, ◌∙◌, refl}
use mathlib.Core.Bool.{false}
use native.Mathlib.Omega.{arith}
use mathlib.Core.List.{List, [], ◌∷◌, ◌++◌}
use lib.Dec.{leb}
use lib.ListN.{length}
use borrow.Author.Tests.{leb-false}
use Rattle.message.specs.declared.RequestState.TheVariants.{Pending, InProgress}
use Rattle.answer.specs.declared.Kind.{Kind}
use Rattle.synth.specs.Kinds.{most}
use Rattle.synth.specs.Channel.{with_queue}
use Rattle.synth.specs.States.{entry_of}
use Rattle.synth.specs.declared.Entry.{Entry}
use Rattle.synth.proofs.Channels.{most_16}
use Rattle.queue.specs.Queue.{list_of, no_ids}
use Rattle.queue.specs.declared.Queue.{Queue}
use Rattle.queue.proofs.Queues.{none_listed}
use Rattle.outcomes.specs.Outcomes.{asked}
use Rattle.outcomes.proofs.Making.{answer_is, makes_failed, makes_success}
use Rattle.speak.proofs.Speaking.{entering, full, becomes_active, waits}
use Rattle.speak.proofs.join.Goals as goal
use Rattle.speak.proofs.join.Goals.{then-is_busy, else-is_busy}

-- the queue with the entry behind it
with_entry : (k : Kind) (q : Queue) {e f : Entry} {l : List Entry} → leb (most k) (length (list_of q)) ≡ false
    → (length (list_of q) < 16 → e.threshold ≤ 1000000 → l ≡ list_of q ++ (e ∷ [])) → e.threshold ≤ 1000000 → e ≡ f
    → l ≡ list_of q ++ (f ∷ [])
with_entry k q few joined level e =
    joined (omega (arith, leb-false (most k) (length (list_of q)) few, most_16 k)) level
    ∙ ap (λ (x : Entry). list_of q ++ (x ∷ [])) e

pub returns-then-is_full : goal.returns-then-is_full
returns-then-is_full c = λ opened level now v of moment major minor fs told.
    let a = c.args in
    makes_failed v (asked major minor a.m a.e.id fs) a.state a.q 407 refl c.failed.ensures
    (full (with_queue a.state (list_of a.q) v) major minor a.m a.e.id fs opened a.kind of
    (sym c.is_full.ensures ∙ c.if-is_full.true))

pub returns : goal.returns
returns c = λ opened level now v of moment major minor fs told.
    let a = c.args in
    let w = with_queue a.state (list_of a.q) v in
    let r = asked major minor a.m a.e.id fs in
    let few = sym c.is_full.ensures ∙ c.if-is_full.false in
    let joined = with_entry a.kind a.q few c.join.ensures.result_value level
    (told.1 ∙ ap (λ x. entry_of x r) (sym moment)) in
    elim c.if-is_busy.branch [
      | then-is_busy b ↦
          let enters = entering a.m opened in
          rw b.state-is (makes_success w r a.state c.join.result told.0 Pending no_ids
          (λ i. record {
            answer = answer_is b.pending.ensures c.success-success.ensures i;
            listed = c.list_none.ensures i;
            state = a.state;
            queue = c.join.result;
          })
          none_listed joined
          (waits w major minor a.m a.e.id fs opened a.kind of few enters.0 (enters.1 w r)
          (sym c.is_busy.ensures ∙ b.if-is_busy.true)))
      | else-is_busy b ↦
          let active = b.active_state.result in
          rw b.state-is (makes_success w r active c.join.result told.0 InProgress no_ids
          (λ i. record {
            answer = answer_is b.in_progress.ensures c.success-success.ensures i;
            listed = c.list_none.ensures i;
            state = active;
            queue = c.join.result;
          })
          none_listed joined
          (becomes_active w major minor a.m a.e.id fs opened a.kind of few active (b.active_state.ensures opened w r)
          (sym c.is_busy.ensures ∙ b.if-is_busy.false)))
    ]
