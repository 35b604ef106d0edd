-- What a handled call of the C face wrote is read as the very messages that were to be said: every message of an
-- outcome is writable, and reading inverts writing. Assumes nothing.
use Prim.Native.Nat.{ℕ, ◌<◌}
use mathlib.Core.Path.{◌≡◌, refl, sym, ap, subst, ◌∙◌}
use mathlib.Core.Bool.{Bool, true, false}
use mathlib.Core.Option.{Option, none, some}
use mathlib.Core.List.{List, [], ◌∷◌}
use lib.Ieee.{Float}
use lib.ListN.{length}
use borrow.Author.Tests.{leb-false}
use Rattle.lists.specs.Lists.{All}
use Rattle.message.specs.Message.{Reading, refused, message, request, response, event}
use Rattle.message.specs.Reading.{read_bytes, messages_in}
use Rattle.message.proofs.Theorems.IdsInRange.{id_bytes}
use Rattle.answer.specs.Writable.{Writable}
use Rattle.answer.specs.Answers.{cause_names}
use Rattle.answer.proofs.Theorems.ListsReadBack.{all_back}
use Rattle.synth.specs.Channel.{View, kind, sound}
use Rattle.synth.specs.Request.{method_of, request_of}
use Rattle.ledger.specs.Ledger.{Turn}
use Rattle.synth.specs.Calls.{Lent, input, report, back, Call, Reply, is_no_cause, call}
use Rattle.synth.specs.declared.Entry.{Entry}
use Rattle.synth.proofs.Channels.{Facts, sound_facts}
use Rattle.synth.proofs.Methods.{judge_good}
use Rattle.synth.proofs.Endings.{completed_good}
use Rattle.demands.specs.Demands.{Line, table, first_due, answering, ending, outcome, stated}
use Rattle.demands.specs.FromC.{channel_in, ReadBackOfTheFace}
use Rattle.demands.proofs.Lines.{Gives, tabled, not_0}
use Rattle.demands.proofs.Theorems.Demand3FromC.{meets}

abbrev Due : Option Line → Type 0
Due none = ⊥
Due (some l) = Unit {0}

module _ (v : View) (f : Facts v) where
  answer_writable : (s : List ℕ) (m : Reading (List ℕ)) → read_bytes s ≡ m → All Writable (answering v m).says
  answer_writable s (refused n k) e = tt
  answer_writable s (message h (request name id) fs) e = (judge_good v f (request_of (kind v) h name id fs) (id_bytes s h (request name id) fs e) (method_of name) refl).writable
  answer_writable s (message h (response id status state) fs) e = tt
  answer_writable s (message h (event name id state) fs) e = tt

  events_writable : (cause : ℕ) (score : Float) → cause < length (cause_names (kind v)) → (q : List Entry) → v.queue ≡ q
      → All Writable (ending v q cause score).says
  events_writable cause score h [] e = tt
  events_writable cause score h (x ∷ q) e = (completed_good v f cause score x q e (kind v) refl h).writable

-- where no line is due, the channel is sound and a report has a cause
module _ (v : View) (room : ℕ) where
  damaged : (lent : Lent) → sound v ≡ false → Due (first_due (table v lent room))
  unfolding table
  damaged (input s) b = rw (b, table) tt
  damaged (report cause score) b = rw (b, table) tt
  damaged (back n) b = rw (b, table) tt

  sane : (lent : Lent) → first_due (table v lent room) ≡ none → sound v ≡ true
  sane lent e = go (sound v) refl
    where
      go : (b : Bool) → sound v ≡ b → sound v ≡ true
      go true b = b
      go false b = absurd (subst Due e (damaged lent b))

  module _ (cause : ℕ) (score : Float) where
    no_cause : sound v ≡ true → is_no_cause (kind v) cause ≡ true → Due (first_due (table v (report cause score) room))
    unfolding table
    no_cause b h = rw (b, h, table) tt

    a_cause : first_due (table v (report cause score) room) ≡ none → cause < length (cause_names (kind v))
    a_cause e = go (is_no_cause (kind v) cause) refl
      where
        go : (b : Bool) → is_no_cause (kind v) cause ≡ b → cause < length (cause_names (kind v))
        go true h = absurd (subst Due e (no_cause (sane (report cause score) e) h))
        go false h = leb-false (length (cause_names (kind v))) cause h

  writable : (lent : Lent) → first_due (table v lent room) ≡ none → All Writable (outcome v lent).says
  writable (input s) e = answer_writable v (sound_facts v (sane (input s) e)) s (read_bytes s) refl
  writable (report cause score) e = events_writable v (sound_facts v (sane (report cause score) e)) cause score (a_cause cause score e) v.queue refl
  writable (back n) e = tt

-- what the definition of a call gives, by the line that is due
by_line_lem : (v : View) (k : Call) (o : Option Line) → first_due (table v k.lent k.room) ≡ o
    → Gives v (stated k.lent) (outcome v k.lent) o (call v k) → (call v k).reply.number ≡ 0
    → (let bytes : List ℕ = (call v k).reply.written in messages_in (length bytes) bytes ≡ (outcome v k.lent).says)
by_line_lem v k none e g z =
    ap (λ (t : Turn View Reply). messages_in (length t.reply.written) t.reply.written) g
    ∙ all_back (outcome v k.lent).says (writable v k.room k.lent e)
by_line_lem v k (some l) e g z =
    absurd (not_0 v k.lent k.room l e (sym (ap (λ (t : Turn View Reply). t.reply.number) g.0) ∙ z))

pub read_back_of_the_face : ReadBackOfTheFace
read_back_of_the_face ws k r next c z =
    let v = channel_in ws in
    let same = (meets c).replies in
    ap (λ (r : Reply). messages_in (length r.written) r.written) same
    ∙ by_line_lem v k (first_due (table v k.lent k.room)) refl (tabled v k.lent k.room)
    (sym (ap (λ (r : Reply). r.number) same) ∙ z)
