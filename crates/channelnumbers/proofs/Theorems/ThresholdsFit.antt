-- Every call keeps a channel that the numbers can tell. A queue after a call holds entries of before, and at most the
-- new one, to which no threshold is set on a synthesizer; an edition is one of before, or has levels that were read, so
-- with the single-precision numbers of their millionths. Assumes nothing.
use Prim.Native.Nat.{ℕ, zero, suc}
use mathlib.Core.Path.{◌≡◌, refl, sym, ap, subst, ◌∙◌}
use mathlib.Core.Bool.{Bool, true, false, false≢true, not}
use mathlib.Core.Option.{Option, none, some}
use mathlib.Core.List.{List, [], ◌∷◌}
use lib.Dec.{eqb}
use lib.Ieee.{Float}
use lib.ListN.{take}
use Rattle.std.specs.Prelude.{Some}
use Rattle.lists.specs.Lists.{all, put, keep, All}
use Rattle.lists.proofs.Tests.{both, choose}
use Rattle.lists.proofs.Scans.{all_append}
use Rattle.message.specs.Message.{fields_in}
use Rattle.message.specs.Known.{judged_value}
use Rattle.message.specs.declared.Known.TheVariants.{ActiveRequestIdList, ConfidenceThreshold}
use Rattle.answer.specs.declared.Kind.{Kind}
use Rattle.synth.specs.Kinds.{kind_of, method_in}
use Rattle.synth.specs.Levels.{level_in}
use Rattle.synth.specs.Settings.{Name, Sort, flag, millis, level, settings, field_of, sort_of, slot, unset, level_or, setting_as, setting_in, kept_for, is_unset, other_kind, is_edition_of, newest, edition_at}
use Rattle.synth.specs.Channel.{View, kind, fresh, with_last, is, is_busy, sound}
use Rattle.synth.specs.Request.{Request, is_recognize, method_of, request_of, acts, acting}
use Rattle.synth.specs.Judgement.{Verdict, passes, fails, early, late}
use Rattle.synth.specs.States.{Outcome, threshold_in, entry_of, joined, enter, ends, barge_in, set_by, changed, act, after_late, after_early, judge, is_match, counted, completed}
use Rattle.synth.specs.Calls.{Call, on_sound, refuse, call}
use Rattle.synth.specs.declared.State.{State}
use Rattle.synth.specs.declared.State.TheVariants.{Speaking, Paused, Recognizing}
use Rattle.synth.specs.declared.Method.{Method}
use Rattle.synth.specs.declared.Level.{Level}
use Rattle.synth.specs.declared.Entry.{Entry}
use Rattle.synth.specs.declared.Setting.{Setting}
use Rattle.synth.specs.declared.Edition.{Edition}
use Rattle.synth.proofs.Channels.{sound_facts}
use Rattle.synth.proofs.Levels.{read_exact}
use Rattle.synth.proofs.Nexts.{Next, same, judged, ended, gone, next_of}
use Rattle.synth.proofs.Theorems.Soundness.{call_sound}
use Rattle.queue.specs.Queue.{is_synthesizer}
use Rattle.channelnames.specs.Names.{kind_by}
use Rattle.channelnames.proofs.Tails.{named_kind}
use Rattle.channelnumbers.proofs.Theorems.LoadSaved.{Told, AllTold, Tells, Zeroed, Tellable, flag_told, level_told, set_told, unset_is, sound_own}

-- ---- settings that are read

read_told : (s : Sort) (v : List ℕ) → Told (setting_as s v)
read_told flag v = flag_told _
read_told millis v = refl
read_told level v = go (level_in v) refl
  where
    go : (o : Option Level) → level_in v ≡ o → Told (level_or o)
    go none e = refl
    go (some l) e = level_told l (read_exact v l e)

set_by_told : (n : Name) (o : Option (List ℕ)) (e : Edition) → AllTold e → AllTold (set_by n o e)
set_by_told n none e h = h
set_by_told n (some v) e h = set_told n (setting_in n v) (read_told (sort_of n) v) e h

changed_told : (ns : List Name) (r : Request) (e : Edition) → AllTold e → AllTold (changed ns r e)
changed_told [] r e h = h
changed_told (n ∷ ns) r e h = changed_told ns r (set_by n (acting (field_of n) r) e) (set_by_told n (acting (field_of n) r) e h)

-- ---- editions

all_take : (n : ℕ) (es : List Edition) → All AllTold es → All AllTold (take n es)
all_take zero es h = tt
all_take (suc n) [] h = tt
all_take (suc n) (e ∷ es) (t, h) = (t, all_take n es h)

newest_told : (es : List Edition) → All AllTold es → AllTold (newest es)
newest_told [] h = (refl, refl, refl, refl, refl)
newest_told (e ∷ es) (t, h) = t

none_some : {e : Edition} → ◌≡◌ {A = Option Edition} none (some e) → ⊥
none_some e = false≢true (ap (λ (o : Option Edition). elim o [ none ↦ false | some e ↦ true ]) e)

at_told : (n : ℕ) (es : List Edition) (e : Edition) → edition_at n es ≡ some e → All AllTold es → AllTold e
at_told n [] e p h = absurd (none_some p)
at_told zero (x ∷ es) e p h = absurd (none_some p)
at_told (suc zero) (x ∷ es) e p (t, h) = let same : x ≡ e = cc in subst AllTold same t
at_told (suc (suc n)) (x ∷ es) e p (t, h) = at_told (suc n) es e p h

each_told : (k : Kind) (es : List Edition) → All (Tells k) es → All AllTold es
each_told k [] h = tt
each_told k (e ∷ es) (t, h) = (t.told, each_told k es h)

each_tells : (k : Kind) (es : List Edition) → All AllTold es → all (is_edition_of k) es ≡ true → All (Tells k) es
each_tells k [] h f = tt
each_tells k (e ∷ es) (t, h) f =
    let p = both (is_edition_of k e) (all (is_edition_of k) es) f in
    let q = both (all (λ n. kept_for n (slot n e)) (settings k)) (all (λ n. is_unset (slot n e)) (settings (other_kind k))) p.0 in
    (record { told = t; others = q.1 }, each_tells k es h p.1)

newest_unset : (es : List Edition) → All (Tells Kind.Synthesizer) es → Setting.Unset ≡ (newest es).confidence
newest_unset [] h = refl
newest_unset (e ∷ es) (t, h) =
    let p = both (is_unset e.silence) _ t.others in
    unset_is e.confidence (both (is_unset e.confidence) _ p.1).0

-- ---- the queue

abbrev is_zero : Entry → Bool
is_zero e = eqb e.threshold 0

none_zeroed : (k : Kind) → Zeroed k []
none_zeroed Kind.Synthesizer = refl
none_zeroed Kind.Recognizer = tt

rest_zeroed : (k : Kind) (e : Entry) (q : List Entry) → Zeroed k (e ∷ q) → Zeroed k q
rest_zeroed Kind.Synthesizer e q h = (both (is_zero e) (all is_zero q) h).1
rest_zeroed Kind.Recognizer e q h = tt

kept_zeroed : (k : Kind) (test : Entry → Bool) (q : List Entry) → Zeroed k q → Zeroed k (keep test q)
kept_zeroed Kind.Recognizer test q h = tt
kept_zeroed Kind.Synthesizer test [] h = refl
kept_zeroed Kind.Synthesizer test (e ∷ q) h =
    let p = both (is_zero e) (all is_zero q) h in
    go (test e) p.0 (kept_zeroed Kind.Synthesizer test q p.1)
  where
    go : (b : Bool) → is_zero e ≡ true → all is_zero (keep test q) ≡ true → all is_zero (put b e (keep test q)) ≡ true
    go true h t = rw (h, t)
    go false h t = t

-- no threshold acts on a synthesizer, and none is set there
abbrev Unacting : Kind → Request → Type 0
Unacting k r = k ≡ Kind.Synthesizer → acts r.method ConfidenceThreshold ≡ false

joined_zeroed : (k : Kind) (v : View) (r : Request) → Zeroed k v.queue → All (Tells k) v.editions → Unacting k r
    → Zeroed k (joined v r)
unfolding acting
joined_zeroed Kind.Recognizer v r z t u = tt
joined_zeroed Kind.Synthesizer v r z t u =
    let x : Setting = (newest v.editions).confidence in
    let zero : is_zero (entry_of (newest v.editions) r) ≡ true =
    ap (λ (b : Bool). eqb (threshold_in x (elim b [ true ↦ judged_value ConfidenceThreshold (fields_in r.fields) | false ↦ none ])) 0) (u refl)
    ∙ ap (λ (s : Setting). eqb (threshold_in s none) 0) (sym (newest_unset v.editions t)) in
    all_append is_zero v.queue (entry_of (newest v.editions) r ∷ []) z (rw zero)

-- ---- calls

-- what a call keeps of a channel of that kind; soundness keeps the settings of the other kind unset
record Keeps (k : Kind) (w : View) : Type 0 where
  named : kind_by w.name ≡ k
  zeroed : Zeroed k w.queue
  told : All AllTold w.editions

no_recognize : (k : Kind) (m : Method) → k ≡ Kind.Synthesizer → is_recognize (method_in k m) ≡ true → ⊥
no_recognize Kind.Recognizer m e h = false≢true (ap is_synthesizer e)
no_recognize Kind.Synthesizer m e h = go m h
  where
    go : (m : Method) → is_recognize (method_in Kind.Synthesizer m) ≡ true → ⊥
    go Method.Speak h = false≢true h
    go Method.Stop h = false≢true h
    go Method.Pause h = false≢true h
    go Method.Resume h = false≢true h
    go Method.Control h = false≢true h
    go Method.BargeInOccurred h = false≢true h
    go Method.Unknown h = false≢true h
    go Method.Recognize h = false≢true h
    go Method.StartInputTimers h = false≢true h
    go Method.SetParams h = false≢true h
    go Method.GetParams h = false≢true h

module _ (k : Kind) (v : View) (named : kind_by v.name ≡ k) (z : Zeroed k v.queue) (t : All (Tells k) v.editions) where
  abbrev Kept : Outcome → Type 0
  Kept o = Keeps k o.next

  told : All AllTold v.editions
  told = each_told k v.editions t

  as_it_was : Keeps k v
  as_it_was = record { named = named; zeroed = z; told = told }

  module _ (r : Request) (suits : k ≡ Kind.Synthesizer → is_recognize r.method ≡ true → ⊥) where
    with_queue_lem : {state : State} {q : List Entry} → Zeroed k q
        → Keeps k (record { name = v.name; state = state; queue = q; last = v.last; editions = v.editions })
    with_queue_lem h = record { named = named; zeroed = h; told = told }

    entered : (active : State) → Unacting k r → Kept (enter active v r)
    entered active u =
        let h = joined_zeroed k v r z t u in
        choose Kept (is_busy v.state) (λ _. with_queue_lem h) (λ _. with_queue_lem h)

    barged : (q : List Entry) → Kept (barge_in q v r)
    barged [] = with_queue_lem z
    barged (e ∷ q) = choose Kept e.kill (λ _. with_queue_lem (none_zeroed k)) (λ _. with_queue_lem z)

    acted : (m : Method) → r.method ≡ m → Kept (act m v r)
    unfolding act
    acted Method.Speak e = entered Speaking (λ s. ap (λ (m : Method). acts m ConfidenceThreshold) e)
    acted Method.Stop e = with_queue_lem (kept_zeroed k (λ e. not (ends (acting ActiveRequestIdList r) e)) v.queue z)
    acted Method.Pause e = with_queue_lem z
    acted Method.Resume e = choose Kept (is v.state Paused) (λ _. with_queue_lem z) (λ _. with_queue_lem z)
    acted Method.Control e = with_queue_lem z
    acted Method.BargeInOccurred e = barged v.queue
    acted Method.Unknown e = as_it_was
    acted Method.Recognize e = entered Recognizing (λ s. absurd (suits s (ap is_recognize e)))
    acted Method.StartInputTimers e = with_queue_lem z
    acted Method.SetParams e = record {
      named = named;
      zeroed = z;
      told = all_take 4 (changed (settings (kind v)) r (newest v.editions) ∷ v.editions)
          (changed_told (settings (kind v)) r (newest v.editions) (newest_told v.editions told), told);
    }
    acted Method.GetParams e = as_it_was

    after_late_lem : (verdict : Verdict) → Kept (after_late verdict v r)
    after_late_lem passes = acted r.method refl
    after_late_lem (fails status) = as_it_was

  completes : (j : Kind) (e : Entry) (q : List Entry) (cause : ℕ) (score : Float) → Zeroed k q → Kept (completed j e q v cause score)
  completes Kind.Synthesizer e q cause score h = record { named = named; zeroed = h; told = told }
  completes Kind.Recognizer e q cause score h =
      choose Kept (is_match (counted e.threshold cause score))
      (λ _. record { named = named; zeroed = h; told = told })
      (λ _. record { named = named; zeroed = none_zeroed k; told = told })

module _ (k : Kind) (v : View) (named : kind_by v.name ≡ k) (z : Zeroed k v.queue) (t : All (Tells k) v.editions) where
  judgement : (r : Request) → (k ≡ Kind.Synthesizer → is_recognize r.method ≡ true → ⊥) → Keeps k (judge v r).next
  unfolding judge
  judgement r suits = go (early v r)
    where
      go : (verdict : Verdict) → Keeps k (after_early verdict v r).next
      go passes = let seen : View = with_last (Some r.id) v in after_late_lem k seen named z t r suits (late seen r)
      go (fails status) = as_it_was k v named z t

  leaves : kind_of v.name ≡ k → (c : Call) → Keeps k (call v c).next
  leaves own c = go (call v c).next (next_of v c)
    where
      all_told : All AllTold v.editions
      all_told = each_told k v.editions t

      go : (w : View) → Next v c.lent w → Keeps k w
      go w (same e) = subst (Keeps k) (sym e) (as_it_was k v named z t)
      go w (judged s h name id fs l e x) =
          subst (Keeps k) (sym x) (judgement (request_of (kind v) h name id fs) (λ i. no_recognize (kind v) (method_of name) (own ∙ i)))
      go w (ended cause score e q l eq x) =
          subst (Keeps k) (sym x) (completes k v named z t (kind v) e q cause score (rest_zeroed k e q (subst (Zeroed k) eq z)))
      go w (gone n e l p x) =
          subst (Keeps k) (sym x)
          (record { named = named; zeroed = z; told = all_take 4 (e ∷ v.editions) (at_told n v.editions e p all_told, all_told) })

pub call_fit : (v : View) → Tellable v → (c : Call) → Tellable (call v c).next
call_fit v fit c = go (sound v) refl
  where
    go : (b : Bool) → sound v ≡ b → Tellable (call v c).next
    go false s =
        let refused : call v c ≡ refuse v 21 0 = unfold call in
        ap (λ (b : Bool). elim b [ true ↦ on_sound c.lent v c.room | false ↦ refuse v 21 0 ]) s in
        rw refused fit
    go true s =
        let next : View = (call v c).next in
        let h = leaves (kind_by v.name) v refl fit.zeroed fit.editions (named_kind v.name (sound_facts v s).named) c in
        record {
          zeroed = subst (λ (k : Kind). Zeroed k next.queue) (sym h.named) h.zeroed;
          editions = each_tells (kind_by next.name) next.editions h.told (sound_own next (call_sound v c s));
        }

others_unset : (k : Kind) → all (λ n. is_unset (slot n unset)) (settings (other_kind k)) ≡ true
others_unset Kind.Synthesizer = refl
others_unset Kind.Recognizer = refl

pub fresh_fit : (name : List ℕ) → Tellable (fresh name)
fresh_fit name = record {
  zeroed = none_zeroed (kind_by name);
  editions = (record { told = (refl, refl, refl, refl, refl); others = others_unset (kind_by name) }, tt);
}
