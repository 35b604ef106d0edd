-- Every call either refuses, and then all is as it was, or says messages that tell its effect. Assumes nothing.
use Prim.Native.Nat.{ℕ, ◌≤◌, ◌<◌}
use mathlib.Core.Path.{◌≡◌, refl, sym, subst}
use mathlib.Core.Bool.{true, false}
use mathlib.Core.Option.{Option, none, some}
use mathlib.Core.List.{List, [], ◌∷◌}
use mathlib.Core.Logic.{◌⊎◌, inl, inr}
use native.Mathlib.Nat.{le_refl}
use native.Mathlib.Omega.{arith}
use lib.Dec.{eqb, ltb}
use lib.ListN.{length}
use lib.Ieee.{Float}
use borrow.Author.Tests.{ltb-true, leb-false, ne_eqb}
use Rattle.lists.specs.Lists.{All}
use Rattle.lists.proofs.Tests.{choose}
use Rattle.message.specs.Message.{Message, Reading, refused, message, request, response, event}
use Rattle.message.specs.Reading.{read_bytes}
use Rattle.message.proofs.Refusals.{refused_number}
use Rattle.message.proofs.Theorems.IdsInRange.{id_bytes}
use Rattle.answer.specs.Written.{written_all}
use Rattle.answer.specs.Writable.{Writable}
use Rattle.answer.specs.Answers.{cause_names}
use Rattle.ledger.specs.Ledger.{Turn}
use Rattle.ledger.proofs.Effects.{Effect, nothing}
use Rattle.synth.specs.Channel.{View, kind, with_edition, held, first_above, sound}
use Rattle.synth.specs.Settings.{edition_at}
use Rattle.synth.specs.Request.{method_of, request_of}
use Rattle.synth.specs.States.{Outcome, judge, completed}
use Rattle.synth.specs.Calls.{Lent, input, report, back, Call, Reply, refuse, deliver, answer, awaits, is_no_score, is_no_cause, ending, reported, going_back, gone_back, enough, on_sound, call}
use Rattle.synth.specs.Demand3.{asked_by, accepted_by, closed_by, accepting, closing, collected}
use Rattle.synth.specs.declared.Entry.{Entry}
use Rattle.synth.specs.declared.Edition.{Edition}
use Rattle.synth.proofs.Channels.{Facts, sound_facts, facts_sound}
use Rattle.synth.proofs.Methods.{judge_good}
use Rattle.synth.proofs.Endings.{completed_good}
use Rattle.synth.proofs.Editions.{edition_joins, kept_own}

-- a refusal writes no byte and keeps the channel as it was
pub record Refuses (v : View) (t : Turn View Reply) : Type 0 where
  pub number : eqb t.reply.number 0 ≡ false
  pub silent : t.reply.written ≡ []
  pub kept : t.next ≡ v

-- a handled call writes messages that read back, with an effect on the ids held that they tell, and leaves a sound channel
pub record Handles (v : View) (lent : Lent) (t : Turn View Reply) : Type 0 where
  pub says : List Message
  pub number : t.reply.number ≡ 0
  pub written : t.reply.written ≡ written_all says
  pub writable : All Writable says
  pub effect : Effect (held v) (first_above v.last) (collected (accepting lent) says) (collected (closing lent) says) (held t.next) (first_above t.next.last)
  pub stays_sound : sound t.next ≡ true

pub record Lawful (v : View) (lent : Lent) (room : ℕ) (t : Turn View Reply) : Type 0 where
  pub does : Refuses v t ⊎ Handles v lent t
  pub roomy : enough (kind v) lent ≤ room → t.reply.number ≡ 7 → ⊥

module _ (v : View) (lent : Lent) (room : ℕ) where
  refuse_law : (n k : ℕ) → (n ≡ 0 → ⊥) → (n ≡ 7 → ⊥) → Lawful v lent room (refuse v n k)
  refuse_law n k not_0 not-7 = record { does = inl (record { number = ne_eqb n 0 not_0; silent = refl; kept = refl }); roomy = λ h. not-7 }

  deliver_law : (consumed : ℕ) (o : Outcome) → All Writable o.says → length (written_all o.says) ≤ enough (kind v) lent → Facts o.next
      → Effect (held v) (first_above v.last) (collected (accepting lent) o.says) (collected (closing lent) o.says) (held o.next) (first_above o.next.last)
      → Lawful v lent room (deliver v consumed room o)
  unfolding deliver
  deliver_law consumed o w short f e =
      choose (Lawful v lent room) (ltb room (length (written_all o.says)))
      (λ t. record {
        does = inl (record { number = refl; silent = refl; kept = refl });
        roomy = λ h q. let u = ltb-true room (length (written_all o.says)) t in omega arith;
      })
      (λ t. record {
        does = inr (record { says = o.says; number = refl; written = refl; writable = w; effect = e; stays_sound = facts_sound o.next f });
        roomy = λ h q. omega arith;
      })

module _ (v : View) (f : Facts v) (room : ℕ) where
  answer_law : (s : List ℕ) (m : Reading (List ℕ)) → read_bytes s ≡ m → Lawful v (input s) room (answer v room m)
  answer_law s (refused n k) e = let h = refused_number s n k e in refuse_law v (input s) room n k (λ q. omega arith) (λ q. omega arith)
  answer_law s (message h (request name id) fs) e =
      let r = request_of (kind v) h name id fs in
      let o = judge v r in
      let g = judge_good v f r (id_bytes s h (request name id) fs e) (method_of name) refl in
      deliver_law v (input s) room _ o g.writable g.short g.stays_sound
      (subst
      (λ (m : Reading (List ℕ)).
      Effect (held v) (first_above v.last) (collected (accepted_by (asked_by m)) o.says) (collected (closed_by (asked_by m)) o.says) (held o.next)
      (first_above o.next.last))
      (sym e) g.effect)
  answer_law s (message h (response id status state) fs) e = refuse_law v (input s) room 6 h.stated (λ q. omega arith) (λ q. omega arith)
  answer_law s (message h (event name id state) fs) e = refuse_law v (input s) room 6 h.stated (λ q. omega arith) (λ q. omega arith)

  module _ (cause : ℕ) (score : Float) where
    abbrev Reports : Turn View Reply → Type 0
    Reports t = Lawful v (report cause score) room t

    refused_report : (n : ℕ) → (n ≡ 0 → ⊥) → (n ≡ 7 → ⊥) → Reports (refuse v n 0)
    refused_report n not_0 not-7 = refuse_law v (report cause score) room n 0 not_0 not-7

    ending_law : (q : List Entry) → v.queue ≡ q → cause < length (cause_names (kind v)) → Reports (ending q v cause score room)
    ending_law [] e small = refused_report 8 (λ q. omega arith) (λ q. omega arith)
    ending_law (x ∷ q) e small =
        let o = completed (kind v) x q v cause score in
        let g = completed_good v f cause score x q e (kind v) refl small in
        deliver_law v (report cause score) room 0 o g.writable g.short g.stays_sound g.effect

    reported_law : Reports (reported v cause score room)
    unfolding reported
    reported_law =
        choose Reports (is_no_cause (kind v) cause) (λ t. refused_report 9 (λ q. omega arith) (λ q. omega arith))
        (λ t. choose Reports (is_no_score (kind v) score) (λ u. refused_report 11 (λ q. omega arith) (λ q. omega arith))
        (λ u. choose Reports (awaits v.state) (λ w. ending_law v.queue refl (leb-false (length (cause_names (kind v))) cause t))
        (λ w. refused_report 8 (λ q. omega arith) (λ q. omega arith))))

  -- a going back says nothing, and changes the editions alone
  back_law : (n : ℕ) (o : Option Edition) → edition_at n v.editions ≡ o → Lawful v (back n) room (going_back o v)
  unfolding written_all
  back_law n none e = refuse_law v (back n) room 12 0 (λ q. omega arith) (λ q. omega arith)
  back_law n (some x) e = record {
    does =
        inr (record {
          says = [];
          number = refl;
          written = refl;
          writable = tt;
          effect = nothing (held v) (first_above v.last) (first_above v.last) (le_refl _);
          stays_sound = facts_sound (with_edition x v) further;
        });
    roomy = λ h q. omega arith;
  }
    where
      further : Facts (with_edition x v)
      further = record {
        named = f.named;
        state_ours = f.state_ours;
        busy_held = f.busy_held;
        unseen = f.unseen;
        few = f.few;
        rising = f.rising;
        in_range_lem = f.in_range_lem;
        editions_fit =
            edition_joins (kind v) x v.editions (kept_own (kind v) n v.editions x e f.editions_fit)
            f.editions_fit;
        thresholds_fit = f.thresholds_fit;
      }

  on_sound_lem : (lent : Lent) → Lawful v lent room (on_sound lent v room)
  on_sound_lem (input s) = answer_law s (read_bytes s) refl
  on_sound_lem (report cause score) = reported_law cause score
  on_sound_lem (back n) = unfold gone_back in back_law n (edition_at n v.editions) refl

pub call_law : (v : View) (c : Call) → Lawful v c.lent c.room (call v c)
unfolding call
call_law v c =
    choose (Lawful v c.lent c.room) (sound v) (λ t. on_sound_lem v (sound_facts v t) c.room c.lent)
    (λ t. refuse_law v c.lent c.room 21 0 (λ q. omega arith) (λ q. omega arith))
