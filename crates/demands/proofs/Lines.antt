-- What the definition of a call gives is what the first line of the table that is due says, and where none is, the outcome. Assumes nothing.
use Prim.Native.Nat.{ℕ, ◌<◌}
use mathlib.Core.Path.{◌≡◌, refl, sym, ap, subst, ◌∙◌}
use mathlib.Core.Bool.{Bool, true, false, false≢true}
use mathlib.Core.Option.{Option, none, some}
use mathlib.Core.List.{List, ◌∷◌}
use lib.Dec.{eqb, ltb}
use lib.Ieee.{Float}
use lib.ListN.{length, take}
use borrow.Author.Tests.{leb-true, leb-false}
use Rattle.std.proofs.Common.{Ok, Err}
use Rattle.framing.specs.Framing.{Framing, Frame, framing}
use Rattle.framing.specs.declared.NoFrame.TheVariants.{More, NoMessage, TooLong, TooShort}
use Rattle.message.specs.Message.{Start, Fields, request, response, event, Head, part, on_reading, message}
use Rattle.message.specs.StartLines.{Started, started, start_line}
use Rattle.message.specs.Reading.{read_from, read_framed, reading, read_bytes}
use Rattle.message.specs.declared.Span.{Span}
use Rattle.answer.specs.Written.{written_all}
use Rattle.answer.specs.Answers.{cause_names}
use Rattle.ledger.specs.Ledger.{Turn}
use Rattle.synth.specs.Settings.{edition_at}
use Rattle.synth.specs.Channel.{View, kind, sound}
use Rattle.synth.specs.Request.{request_of}
use Rattle.synth.specs.States.{Outcome, judge, completed}
use Rattle.synth.specs.Calls.{Lent, input, report, back, Reply, refuse, deliver, awaits, is_no_score, is_no_cause, call}
use Rattle.synth.specs.declared.Entry.{Entry}
use Rattle.synth.specs.declared.Edition.{Edition}
use Rattle.synth.proofs.Theorems.GoingBack.{goes_back, twelve}
use Rattle.demands.specs.Demands.{Line, ending, outcome, stated, table, first_due}
use Rattle.engine.proofs.Reports.{no_such_cause, no_number, nothing_awaited, ends, has_active}

-- a refusal, which is no 0, and 21 only where the channel is not sound; or the outcome
abbrev pub Gives : View → ℕ → Outcome → Option Line → Turn View Reply → Type 0
Gives v consumed o (some l) t =
    (t ≡ refuse v l.number l.consumed) × (eqb l.number 0 ≡ false) × (sound v ≡ true → eqb l.number 21 ≡ false)
Gives v consumed o none t = t ≡ record { reply = record { number = 0; consumed = consumed; written = written_all o.says }; next = o.next }

abbrev pub Tabled : View → Lent → ℕ → Type 0
Tabled v lent room = Gives v (stated lent) (outcome v lent) (first_due (table v lent room)) (call v (record { lent = lent; room = room }))

module _ (v : View) (room : ℕ) where
  unsound : (lent : Lent) → sound v ≡ false → Tabled v lent room
  unfolding call table
  unsound (input s) e = rw (e, call, table) (refl, refl, λ y. absurd (false≢true (sym e ∙ y)))
  unsound (report cause score) e = rw (e, call, table) (refl, refl, λ y. absurd (false≢true (sym e ∙ y)))
  unsound (back n) e = rw (e, call, table) (refl, refl, λ y. absurd (false≢true (sym e ∙ y)))

  module _ (sane : sound v ≡ true) where
    module _ (s : List ℕ) where
      module _ (a b k n : ℕ) (f : framing s ≡ Frame a b k n) where
        abbrev head : Head
        head = record { stated = n; major = a; minor = b }

        module _ (x : Start Span) (at : ℕ) (g : start_line k (take n s) ≡ started x at) where
          -- the exact answer to a request is longer than the output, or not
          answer_fits : (name : List ℕ) (id : ℕ) (fs : Fields (List ℕ)) → read_bytes s ≡ message head (request name id) fs
              → (c : Bool) → ltb room (length (written_all (judge v (request_of (kind v) head name id fs)).says)) ≡ c → Tabled v (input s) room
          unfolding call table deliver
          answer_fits name id fs e true r = rw (sane, f, e, g, r, call, table, deliver) (refl, refl, λ y. refl)
          answer_fits name id fs e false r = rw (sane, f, e, g, r, call, table, deliver) refl

        by_line_lem : (y : Started) → start_line k (take n s) ≡ y → read_bytes s ≡ on_reading (part s) (read_from head (take n s) y) → Tabled v (input s) room
        unfolding call table
        by_line_lem Started.malformed g e = rw (sane, f, e, g, call, table) (refl, refl, λ y. refl)
        by_line_lem (started (request name id) at) g e = answer_fits (request name id) at g (part s name) id _ e _ refl
        by_line_lem (started (response id status state) at) g e = rw (sane, f, e, g, call, table) (refl, refl, λ y. refl)
        by_line_lem (started (event name id state) at) g e = rw (sane, f, e, g, call, table) (refl, refl, λ y. refl)

      by_framing : (x : Framing) → framing s ≡ x → read_bytes s ≡ on_reading (part s) (read_framed s x) → Tabled v (input s) room
      unfolding call table
      by_framing (Err More) f e = rw (sane, f, e, call, table) (refl, refl, λ y. refl)
      by_framing (Err NoMessage) f e = rw (sane, f, e, call, table) (refl, refl, λ y. refl)
      by_framing (Err TooLong) f e = rw (sane, f, e, call, table) (refl, refl, λ y. refl)
      by_framing (Err TooShort) f e = rw (sane, f, e, call, table) (refl, refl, λ y. refl)
      by_framing (Ok x) f e = by_line_lem x.major x.minor x.opening x.length f (start_line x.opening (take x.length s)) refl e

      message_tabled : Tabled v (input s) room
      unfolding read_bytes reading
      message_tabled = by_framing (framing s) refl refl

    module _ (cause : ℕ) (score : Float) where
      abbrev made : Lent
      made = report cause score

      no_cause : is_no_cause (kind v) cause ≡ true → Tabled v made room
      unfolding table
      no_cause h = rw (sane, h, table) (no_such_cause v (kind v) refl cause score room sane (leb-true (length (cause_names (kind v))) cause h), refl, λ y. refl)

      module _ (h : is_no_cause (kind v) cause ≡ false) where
        has : cause < length (cause_names (kind v))
        has = leb-false (length (cause_names (kind v))) cause h

        no_score : is_no_score (kind v) score ≡ true → Tabled v made room
        unfolding table
        no_score n = rw (sane, h, n, table) (no_number v (kind v) refl cause score room sane has n, refl, λ y. refl)

        module _ (n : is_no_score (kind v) score ≡ false) where
          silent : awaits v.state ≡ false → Tabled v made room
          unfolding table
          silent s = rw (sane, h, n, s, table) (nothing_awaited v (kind v) refl cause score room sane has n s, refl, λ y. refl)

          -- the events are longer than the output, or not
          module _ (e : Entry) (queue : List Entry) (q : v.queue ≡ e ∷ queue) (s : awaits v.state ≡ true) where
            ended : ending v v.queue cause score ≡ completed (kind v) e queue v cause score
            ended = ap (λ (l : List Entry). ending v l cause score) q

            events_fit : (c : Bool) → ltb room (length (written_all (completed (kind v) e queue v cause score).says)) ≡ c → Tabled v made room
            unfolding table deliver
            events_fit true r =
                rw (sane, h, n, s, ended, r, table) (rw (r, deliver) at (ends v (kind v) refl cause score room sane has n s e queue q), refl, λ y. refl)
            events_fit false r = rw (sane, h, n, s, ended, r, table) (rw (r, deliver) at (ends v (kind v) refl cause score room sane has n s e queue q))

          by_state : (b : Bool) → awaits v.state ≡ b → Tabled v made room
          by_state true s = let a = has_active v sane s in events_fit a.entry a.others a.queued s _ refl
          by_state false s = silent s

        by_score : (b : Bool) → is_no_score (kind v) score ≡ b → Tabled v made room
        by_score true n = no_score n
        by_score false n = by_state n (awaits v.state) refl

      by_cause : (b : Bool) → is_no_cause (kind v) cause ≡ b → Tabled v made room
      by_cause true h = no_cause h
      by_cause false h = by_score h (is_no_score (kind v) score) refl

    -- an edition of that number is kept, or none is
    by_edition : (n : ℕ) (o : Option Edition) → edition_at n v.editions ≡ o → Tabled v (back n) room
    unfolding table written_all
    by_edition n none e = rw (sane, e, table) (twelve v sane room n e, refl, λ y. refl)
    by_edition n (some x) e = rw (sane, e, table) (goes_back v sane room n x e)

    on_sound_lem : (lent : Lent) → Tabled v lent room
    on_sound_lem (input s) = message_tabled s
    on_sound_lem (report cause score) = by_cause cause score (is_no_cause (kind v) cause) refl
    on_sound_lem (back n) = by_edition n (edition_at n v.editions) refl

pub tabled : (v : View) (lent : Lent) (room : ℕ) → Tabled v lent room
tabled v lent room = go (sound v) refl
  where
    go : (b : Bool) → sound v ≡ b → Tabled v lent room
    go true e = on_sound_lem v room e lent
    go false e = unsound v room lent e

-- a line that is due has no 0
pub not_0 : (v : View) (lent : Lent) (room : ℕ) (l : Line) → first_due (table v lent room) ≡ some l → l.number ≡ 0 → ⊥
not_0 v lent room l e z =
    let g = subst (λ (o : Option Line). Gives v (stated lent) (outcome v lent) o (call v (record { lent = lent; room = room }))) e (tabled v lent room) in
    false≢true (sym g.1 ∙ ap (λ (n : ℕ). eqb n 0) z)
