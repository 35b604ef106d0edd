-- What an engine report that ends the active request comes to, on a channel of either kind: events that read back and fit, that close the
-- ids ended, and a sound channel. Assumes nothing.
use Prim.Native.Nat.{ℕ, suc, ◌+◌, ◌*◌, ◌≤◌, ◌<◌}
use mathlib.Core.Path.{◌≡◌, refl, ap}
use mathlib.Core.Bool.{true, false, not, ◌&&◌, beq, false≢true}
use mathlib.Core.List.{List, [], ◌∷◌, map, append-nil}
use native.Mathlib.Nat.{le_refl}
use native.Mathlib.Omega.{arith}
use lib.Dec.{leb, lit<}
use lib.ListN.{length, length-append, length-map}
use lib.Ieee.{Float, lt}
use Rattle.std.specs.Prelude.{Option, Some, None}
use Rattle.lists.specs.Lists.{is_empty, Ascends, All, Split, gone}
use Rattle.lists.proofs.Tests.{both, choose}
use Rattle.lists.proofs.Membership.{elem_head}
use Rattle.lists.proofs.Rising.{ascends_le}
use Rattle.lists.proofs.Dealing.{split_none, split_all, split_ascends, split_swap}
use Rattle.message.specs.Message.{Message}
use Rattle.answer.specs.Written.{written, written_all}
use Rattle.answer.specs.Writable.{Writable}
use Rattle.answer.specs.Answers.{cause_names, event_name, complete}
use Rattle.answer.specs.declared.Kind.{Kind}
use Rattle.answer.proofs.Values.{cause_most, cause_fits}
use Rattle.answer.proofs.Theorems.AnswersWritable.{NameFits, complete_writable}
use Rattle.answer.proofs.Theorems.LongestAnswer.{longest_event, longest_cancelled}
use Rattle.ledger.proofs.Effects.{Effect, some_end}
use Rattle.synth.specs.Kinds.{most, is_state_of}
use Rattle.synth.specs.Levels.{single}
use Rattle.synth.specs.Channel.{View, kind, with_queue, ids, held, is_busy, idle_unseen, first_above, are_levels}
use Rattle.synth.specs.States.{Outcome, while_any, ends_one, ends_all, is_match, counted, completed}
use Rattle.synth.specs.Calls.{report, enough}
use Rattle.synth.specs.Demand3.{accepting, closing, collected}
use Rattle.synth.specs.declared.State.{State}
use Rattle.synth.specs.declared.State.TheVariants.{Idle, Speaking, Recognizing, Recognized}
use Rattle.synth.specs.declared.Entry.{Entry}
use Rattle.synth.proofs.Channels.{Small, small_by, Facts, held_small}
use Rattle.synth.proofs.Methods.{while_agrees, while_ours}
use Rattle.synth.proofs.Names.{name_fits_lem}

-- its effect on the ledger, events that read back and fit together where there is enough room, and a sound channel
pub record GoodEnding (v : View) (cause : ℕ) (score : Float) (o : Outcome) : Type 0 where
  pub effect : Effect (held v) (first_above v.last) (collected (accepting (report cause score)) o.says)
      (collected (closing (report cause score)) o.says) (held o.next) (first_above o.next.last)
  pub writable : All Writable o.says
  pub short : length (written_all o.says) ≤ enough (kind v) (report cause score)
  pub stays_sound : Facts o.next

-- the waiting ones, each of which ends with event 011
module _ (name : List ℕ) (fits : NameFits name) (cause : ℕ) (score : Float) where
  abbrev cancelled : List ℕ → List Message
  cancelled l = map (λ i. complete Kind.Recognizer name i 11) l

  cancelled_writable : (l : List ℕ) → Small l → All Writable (cancelled l)
  cancelled_writable [] h = tt
  cancelled_writable (i ∷ l) h =
      (complete_writable Kind.Recognizer name i 11 fits h.0 (cause_fits Kind.Recognizer 11 (lit< tt)), cancelled_writable l h.1)

  cancelled_short : (l : List ℕ) → Small l → length (written_all (cancelled l)) ≤ length l * 154
  unfolding written_all
  cancelled_short [] h = omega arith
  cancelled_short (i ∷ l) h =
      omega (
        arith,
        length-append (written (complete Kind.Recognizer name i 11)) (written_all (cancelled l)),
        longest_cancelled name i fits h.0,
        cancelled_short l h.1,
      )

  cancelled_none : (l : List ℕ) → collected (accepting (report cause score)) (cancelled l) ≡ []
  cancelled_none [] = refl
  cancelled_none (i ∷ l) = cancelled_none l

  cancelled_ids : (l : List ℕ) → collected (closing (report cause score)) (cancelled l) ≡ l
  unfolding complete
  cancelled_ids [] = refl
  cancelled_ids (i ∷ l) = ap (λ (m : List ℕ). i ∷ m) (cancelled_ids l)

-- a channel on which something is outstanding has seen a request
seen_held : (last : Option ℕ) (x : ℕ) (l : List ℕ) → Ascends 0 (x ∷ l) (first_above last) → (s : State) → idle_unseen last s ≡ true
seen_held None x l a s = let h = ascends_le (suc x) l 0 a.1 in absurd (omega arith)
seen_held (Some id) x l a s = refl

pub counted_cause : (threshold cause : ℕ) (score : Float) → cause < 16 → counted threshold cause score < 16
counted_cause threshold cause score h =
    choose (λ (n : ℕ). n < 16) (is_match cause && not (lt (single threshold) score)) (λ t. lit< tt) (λ t. h)

-- one event fits
event_enough : (k : Kind) (cause : ℕ) (score : Float) (n : ℕ) → n ≤ 121 + length (event_name k) + cause_most k → n ≤ enough k (report cause score)
event_enough Kind.Synthesizer cause score n h = omega arith
event_enough Kind.Recognizer cause score n h = omega arith

module _ (v : View) (f : Facts v) (cause : ℕ) (score : Float) (e : Entry) (q : List Entry) (eq : v.queue ≡ e ∷ q) where
  fits : NameFits v.name
  fits = name_fits_lem v.name f.named

  active_small : e.id < 4294967296
  active_small = held_small f e.id (rw eq (elem_head e.id (ids q)))

  waiting_small : Small (ids q)
  waiting_small = let h : Small (ids (e ∷ q)) = rw eq at (small_by (held v) (held_small f)) in h.1

  waiting_few : suc (length q) ≤ most (kind v)
  waiting_few = rw eq at f.few

  waiting_levels : are_levels q ≡ true
  waiting_levels =
      let h : are_levels (e ∷ q) ≡ true = rw eq at f.thresholds_fit in
      (both (leb e.threshold 1000000) (are_levels q) h).1

  first_goes : Split (e.id ∷ ids q) (e.id ∷ []) (ids q)
  first_goes = gone {x = e.id} (split_none (ids q))

  -- what is left of the queue, in a state that agrees with it
  left_facts : (s : State) (rest : List Entry) {ended : List ℕ} → Split (e.id ∷ ids q) ended (ids rest) → length rest ≤ most (kind v)
      → is_state_of (kind v) s ≡ true → beq (is_busy s) (not (is_empty rest)) ≡ true → are_levels rest ≡ true
      → Facts (with_queue s rest v)
  left_facts s rest d few ours agrees levels = record {
    named = f.named;
    state_ours = ours;
    busy_held = agrees;
    unseen = seen_held v.last e.id (ids q) (rw eq at f.rising) s;
    few = few;
    rising = split_ascends (split_swap d) 0 (first_above v.last) (rw eq at f.rising);
    in_range_lem = f.in_range_lem;
    editions_fit = f.editions_fit;
    thresholds_fit = levels;
  }

  -- the active one ends alone
  one_good : (k : Kind) → kind v ≡ k → (n : ℕ) → n < length (cause_names k) → (last state : State) → is_busy last ≡ false → is_busy state ≡ true
      → is_state_of k last ≡ true → is_state_of k state ≡ true → GoodEnding v cause score (ends_one k last state e q v n)
  unfolding complete written_all
  one_good k told n small last state calm busy last-ours state_ours =
      let fit = cause_fits k n small in
      let long = longest_event k v.name e.id n fits active_small fit in
      record {
        effect = rw eq (some_end (first_above v.last) (first_above v.last) first_goes (le_refl _));
        writable = (complete_writable k v.name e.id n fits active_small fit, tt);
        short = rw (told, append-nil) (event_enough k cause score _ long);
        stays_sound =
            left_facts (while_any last state q) q first_goes (omega (arith, waiting_few)) (rw told (while_ours k last state q last-ours state_ours))
            (while_agrees state (e ∷ q) q (λ t. absurd (false≢true t)) (rw busy) last calm) waiting_levels;
      }

  -- all end
  all_good : kind v ≡ Kind.Recognizer → (n : ℕ) → n < 16 → GoodEnding v cause score (ends_all Kind.Recognizer Recognized e q v n)
  unfolding complete written_all
  all_good told n small =
      let fit = cause_fits Kind.Recognizer n small in
      record {
        effect =
            rw (eq, cancelled_none v.name fits cause score (ids q), cancelled_ids v.name fits cause score (ids q))
            (some_end (first_above v.last) (first_above v.last) (split_all (e.id ∷ ids q)) (le_refl _));
        writable =
            (complete_writable Kind.Recognizer v.name e.id n fits active_small fit, cancelled_writable v.name fits cause score (ids q) waiting_small);
        short =
            rw told
            (let few : suc (length q) ≤ 8 = rw told at waiting_few in
            let waiting : length (ids q) ≡ length q = length-map q (λ (x : Entry). x.id) in
            omega (
              arith,
              longest_event Kind.Recognizer v.name e.id n fits active_small fit,
              length-append (written (complete Kind.Recognizer v.name e.id n)) (written_all (cancelled v.name fits cause score (ids q))),
              cancelled_short v.name fits cause score (ids q) waiting_small,
            ));
        stays_sound = left_facts Recognized [] (split_all (e.id ∷ ids q)) (omega arith) (rw told refl) refl refl;
      }

  pub completed_good : (k : Kind) → kind v ≡ k → cause < length (cause_names k) → GoodEnding v cause score (completed k e q v cause score)
  completed_good Kind.Synthesizer told small = one_good Kind.Synthesizer told cause small Idle Speaking refl refl refl refl
  completed_good Kind.Recognizer told small =
      let n = counted e.threshold cause score in
      let m : n < 16 = counted_cause e.threshold cause score small in
      choose (GoodEnding v cause score) (is_match n) (λ t. one_good Kind.Recognizer told n m Recognized Recognizing refl refl refl refl) (λ t. all_good told n m)
