-- What a client message comes to, one law for each way out. Assumes nothing.
use Prim.Native.Nat.{ℕ, ◌≤◌}
use mathlib.Core.Path.{◌≡◌, refl, sym, ap, ap₂, subst, ◌∙◌}
use mathlib.Core.Bool.{true}
use mathlib.Core.List.{List, append-nil}
use lib.ListN.{length, take}
use Rattle.framing.specs.Framing.{Framing, Frame, framing, frame_length}
use Rattle.framing.specs.declared.NoFrame.{NoFrame}
use Rattle.framing.specs.declared.NoFrame.TheVariants.{More, NoMessage, TooLong, TooShort}
use Rattle.message.specs.Message as M
use Rattle.message.specs.Message.{InRange}
use Rattle.message.specs.StartLines.{started, start_line}
use Rattle.message.specs.Reading.{read_from, read_framed, reading, read_bytes}
use Rattle.message.specs.declared.Span.{Span}
use Rattle.std.proofs.Common.{◌⊎◌, inl, inr, Option, Err}
use Rattle.message.proofs.StartLine.{Begun, start_line_lem}
use Rattle.message.proofs.Says.{told, frame_length_lem}
use Rattle.message.proofs.Parts.{reading_within}
use Rattle.startline.specs.StartLine.{start_of}
use Rattle.startline.specs.declared.Start.{Start}
use Rattle.answer.specs.Written.{written, written_all}
use Rattle.answer.specs.Answers.{response_of}
use Rattle.synth.specs.Kinds.{kind_of}
use Rattle.synth.specs.Channel.{View, kind, with_queue, well_named, sound}
use Rattle.synth.specs.Calls.{input, refuse, answer, call}
use Rattle.synth.specs.States as S
use Rattle.outcomes.specs.declared.Outcome.{Outcome}
use Rattle.synth.specs.Settings.{is_edition_of, newest, further}
use Rattle.synth.specs.declared.State.{State}
use Rattle.synth.specs.declared.Entry.{Entry}
use Rattle.synth.specs.declared.Edition.{Edition}
use Rattle.synth.proofs.Channels.{sound_facts}
use Rattle.synth.proofs.Editions.{newest_own}
use Rattle.queue.specs.Queue.{list_of}
use Rattle.channelnames.specs.Names.{name_of}
use Rattle.channel.specs.Channel.{view, view_on, current_of}
use Rattle.channel.specs.declared.Channel.{Channel}
use Rattle.channel.specs.declared.Current.{Current}
use Rattle.calls.specs.Refusals.{number_of, unframed}
use Rattle.calls.proofs.Leaving.{queue_short}
use Rattle.settings.specs.Kept.{further_on}
use Rattle.params.specs.Doing.{said_by, left_by, Does}
use Rattle.params.specs.declared.Effect.{Effect}
use Rattle.client.specs.Turns.{line_turn, frame_turn, listing, settings_told, made_by}

-- one message written is its bytes
pub said_written : {v : View} {o : Outcome} {x : Effect} {d : S.Outcome} → Does v o x d → written_all d.says ≡ written (said_by x v o)
unfolding written_all
said_written m = ap written_all (sym m.says) ∙ append-nil _

-- where nothing is told, ids are listed
pub lists : (v : View) (o : Outcome) {x : Effect} → (x ≡ Effect.Nothing) ⊎ ((e : Edition) × (x ≡ Effect.Set e))
    → said_by x v o ≡ response_of v.name o.answer (take o.listed.count o.listed.ids)
lists v o {x} (inl p) = ap (λ (x : Effect). said_by x v o) p
lists v o {x} (inr (e, p)) = ap (λ (x : Effect). said_by x v o) p

-- under that name, with the ids that it lists, where nothing is told
pub listed_written : {v : View} {o : Outcome} {x : Effect} {d : S.Outcome} (name : List ℕ) → v.name ≡ name
    → said_by x v o ≡ response_of v.name o.answer (take o.listed.count o.listed.ids) → Does v o x d
    → listing name o ≡ written_all d.says
listed_written {v} {o} {x} name n e m =
    sym (said_written m ∙ ap written e
    ∙ ap (λ (l : List ℕ). written (response_of l o.answer (take o.listed.count o.listed.ids))) n)

-- with the settings that it tells
pub told_written : {v : View} {o : Outcome} {x : Effect} {d : S.Outcome} (name : List ℕ) (set : Edition) (asked : ℕ)
    → v.name ≡ name → newest v.editions ≡ set → x ≡ Effect.Tell asked → Does v o x d
    → settings_told name set o.answer asked ≡ written_all d.says
told_written {v} {o} {x} name set asked n s e m =
    sym (said_written m ∙ ap (λ (x : Effect). written (said_by x v o)) e
    ∙ ap₂ (λ (l : List ℕ) (e : Edition). settings_told l e o.answer asked) n s)

-- what holds on a sound channel as it is at present holds on the channel
pub on_channel : (last : Option ℕ) (c : Channel) (set : Edition) (es : List Edition) (now : Current) (J : View → Type 0) → now ≡ current_of c set → newest es ≡ set
    → sound (view last c es) ≡ true → (well_named (name_of now.name) ≡ true → length (list_of now.queue) ≤ 16
    → is_edition_of (kind_of (name_of now.name)) now.set ≡ true → (es : List Edition) → newest es ≡ now.set → J (view_on last now es))
    → J (view last c es)
on_channel last c set es now J e n s h =
    let v : View = view last c es in
    let f = sound_facts v s in
    subst (λ (x : Current). (well_named (name_of x.name) ≡ true → length (list_of x.queue) ≤ 16
    → is_edition_of (kind_of (name_of x.name)) x.set ≡ true → (es : List Edition) → newest es ≡ x.set → J (view_on last x es))) e h
    f.named (queue_short v s) (subst (λ (x : Edition). is_edition_of (kind v) x ≡ true) n (newest_own (kind v) es f.editions_fit)) es n

-- the start line that was read is in range
pub in_range_lem : (k : ℕ) (f : List ℕ) (start : Start) (at : ℕ) → started (start_of start) at ≡ start_line k f → InRange (start_of start)
in_range_lem k f start at e = (subst (Begun k (length f)) (sym e) (start_line_lem k f)).1

-- a start line that is no request's
pub no_request : (v : View) (room : ℕ) (f : List ℕ) (major minor at : ℕ) (start : Start) → ((name : Span) (id : ℕ) → start ≡ Start.Request name id → ⊥)
    → line_turn v room f major minor at start ≡ refuse v 6 (length f)
no_request v room f major minor at (Start.Request name id) h = absurd (h name id refl)
no_request v room f major minor at (Start.Response id status state) h = refl
no_request v room f major minor at (Start.Event name id state) h = refl

-- a frame has its stated length
pub sized : (s : List ℕ) (a b k n : ℕ) → framing s ≡ Frame a b k n → n ≡ length (take n s)
sized s a b k n e = sym (frame_length_lem s a b k n e)

-- what a sound channel answers to lent bytes, by their framing
module _ (v : View) (s : List ℕ) (room : ℕ) (sane : sound v ≡ true) where
  handles : call v (record { lent = input s; room = room }) ≡ answer v room (read_bytes s)
  unfolding call
  handles = rw (sane, call)

  by_framing : (x : Framing) → framing s ≡ x → call v (record { lent = input s; room = room }) ≡ answer v room (M.on_reading (M.part s) (read_framed s x))
  unfolding read_bytes reading
  by_framing x e = handles ∙ ap (λ (y : Framing). answer v room (M.on_reading (M.part s) (read_framed s y))) e

  pub framed_refused : (why : NoFrame) → framing s ≡ Err why → call v (record { lent = input s; room = room }) ≡ refuse v (number_of (unframed why)) 0
  framed_refused More e = by_framing (Err More) e
  framed_refused NoMessage e = by_framing (Err NoMessage) e
  framed_refused TooLong e = by_framing (Err TooLong) e
  framed_refused TooShort e = by_framing (Err TooShort) e

  module _ (a b k n : ℕ) (e : framing s ≡ Frame a b k n) where
    -- parts of the frame are parts of the lent bytes
    within : M.on_reading (M.part (take n s)) (reading s) ≡ read_bytes s
    unfolding read_bytes
    within = ap (λ (m : ℕ). M.on_reading (M.part (take m s)) (reading s)) (sym (ap frame_length e)) ∙ reading_within s (reading s) (told s)

    reads : reading s ≡ read_from (record { stated = length (take n s); major = a; minor = b }) (take n s) (start_line k (take n s))
    unfolding reading
    reads = ap (read_framed s) e ∙ ap (λ (m : ℕ). read_from (record { stated = m; major = a; minor = b }) (take n s) (start_line k (take n s))) (sized s a b k n e)

    pub framed_line : call v (record { lent = input s; room = room }) ≡ frame_turn v room (take n s) a b (start_line k (take n s))
    framed_line = handles ∙ ap (answer v room) (sym within ∙ ap (M.on_reading (M.part (take n s))) reads)

-- what is left of a channel: the outcome's state and queue, and the edition that was made
pub left_is : (seen : Option ℕ) (c next : Channel) (state : State) (queue : List Entry) (x : Effect)
    → ((es : List Edition) → view seen next es ≡ with_queue state queue (view seen c es))
    → (es : List Edition) → view seen next (further_on (made_by x) es) ≡ left_by x (with_queue state queue (view seen c es))
left_is seen c next state queue Effect.Nothing h es = h es
left_is seen c next state queue (Effect.Set e) h es = h (further e es)
left_is seen c next state queue (Effect.Tell asked) h es = h es
