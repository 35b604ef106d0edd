-- The setting of the moment is taken at acceptance and not changed later: after any call each outstanding request is as
-- it was before, less those that ended, and at most one has joined at the end, with its own field or else the newest
-- edition's setting. Assumes nothing.
use Prim.Native.Nat.{ℕ}
use mathlib.Core.Path.{◌≡◌, refl, sym, ap, subst, ◌∙◌}
use mathlib.Core.Bool.{Bool, true, false, not}
use mathlib.Core.Option.{none, some}
use mathlib.Core.List.{List, [], ◌∷◌}
use mathlib.Core.Logic.{◌⊎◌, inl, inr}
use lib.Ieee.{Float}
use Rattle.std.specs.Prelude.{Some}
use Rattle.lists.specs.Lists.{put, keep}
use Rattle.lists.proofs.Tests.{choose}
use Rattle.message.specs.Message.{Head, Fields, message, request}
use Rattle.message.specs.Reading.{read_bytes}
use Rattle.message.specs.declared.Known.TheVariants.{ActiveRequestIdList}
use Rattle.answer.specs.declared.Kind.{Kind}
use Rattle.synth.specs.Levels.{single, level_in}
use Rattle.synth.specs.Channel.{View, kind, with_last, is, is_busy}
use Rattle.synth.specs.Request.{Request, request_of, acting}
use Rattle.synth.specs.Judgement.{Verdict, passes, fails, early, late}
use Rattle.synth.specs.States.{Outcome, killable, threshold_in, joined, ends, barge_in, enter, resume, act, after_late, after_early, judge, is_match, counted, completed}
use Rattle.synth.specs.Calls.{Lent, input, Call, call}
use Rattle.synth.specs.declared.State.{State}
use Rattle.synth.specs.declared.State.TheVariants.{Speaking, Paused, Recognizing}
use Rattle.synth.specs.declared.Method.{Method}
use Rattle.synth.specs.declared.Level.{Level}
use Rattle.synth.specs.declared.Entry.{Entry}
use Rattle.synth.specs.declared.Setting.{Setting}
use Rattle.synth.proofs.Nexts.{Next, same, judged, ended, gone, next_of}
use Rattle.synth.proofs.Theorems.Thresholds.{by_millionths}

-- ---- what a request takes along: its own field, or else the newest edition's setting, or else `true` and 0

-- the request's own field: whatever the settings are
pub own_kill : (x : Setting) (v : List ℕ) (y : Setting) → killable x (some v) ≡ killable y (some v)
own_kill x v y = refl

pub own_threshold : (x : Setting) (v : List ℕ) (y : Setting) → threshold_in x (some v) ≡ threshold_in y (some v)
own_threshold x v y = refl

-- else the setting
pub kill_of_the_moment : (b : Bool) → killable (Setting.Flag b) none ≡ b
kill_of_the_moment b = refl

pub threshold_of_the_moment : (l : Level) → threshold_in (Setting.Level l) none ≡ l.millionths
threshold_of_the_moment l = refl

-- whose number is that of the level, as it was read
pub number_of_the_moment : (v : List ℕ) (l : Level) → level_in v ≡ some l
    → single (threshold_in (Setting.Level l) none) ≡ l.single
number_of_the_moment v l e = by_millionths v l e

-- unset
pub kill_unset : killable Setting.Unset none ≡ true
kill_unset = refl

pub threshold_unset : threshold_in Setting.Unset none ≡ 0
threshold_unset = refl

-- ---- of every call

-- some of a queue's requests, each as it was, in order
pub data Left : List Entry → List Entry → Type 0 where
  none_there : Left [] []
  goes : {e : Entry} {q r : List Entry} → Left q r → Left (e ∷ q) r
  stays : {e : Entry} {q r : List Entry} → Left q r → Left (e ∷ q) (e ∷ r)

all_left : (q : List Entry) → Left q q
all_left [] = none_there
all_left (e ∷ q) = stays (all_left q)

none_left : (q : List Entry) → Left q []
none_left [] = none_there
none_left (e ∷ q) = goes (none_left q)

keep_left : (p : Entry → Bool) (q : List Entry) → Left q (keep p q)
keep_left p [] = none_there
keep_left p (e ∷ q) = go (p e) (keep_left p q)
  where
    go : (b : Bool) → Left q (keep p q) → Left (e ∷ q) (put b e (keep p q))
    go true h = stays h
    go false h = goes h

-- a request joined: the one that the input has at its front, with the settings of the edition that was the newest then
pub record Joins (lent : Lent) (v : View) (q : List Entry) : Type 0 where
  pub s : List ℕ
  pub head : Head
  pub name : List ℕ
  pub id : ℕ
  pub fields : Fields (List ℕ)
  pub lent_is : lent ≡ input s
  pub hears : read_bytes s ≡ message head (request name id) fields
  pub queue_is : q ≡ joined v (request_of (kind v) head name id fields)

module _ (v : View) (r : Request) where
  abbrev Stand : List Entry → Type 0
  Stand q = Left v.queue q ⊎ (q ≡ joined v r)

  abbrev Stands : Outcome → Type 0
  Stands o = Stand o.next.queue

  as_it_was : Stand v.queue
  as_it_was = inl (all_left v.queue)

  barged : (q : List Entry) → Stands (barge_in q v r)
  barged [] = as_it_was
  barged (e ∷ q) = choose Stands e.kill (λ t. inl (none_left v.queue)) (λ t. as_it_was)

  entered : (s : State) → Stands (enter s v r)
  entered s = choose Stands (is_busy v.state) (λ t. inr refl) (λ t. inr refl)

  resumed : Stands (resume v r)
  resumed = choose Stands (is v.state Paused) (λ t. as_it_was) (λ t. as_it_was)

  acted : (m : Method) → Stands (act m v r)
  unfolding act
  acted Method.Speak = entered Speaking
  acted Method.Stop = inl (keep_left (λ e. not (ends (acting ActiveRequestIdList r) e)) v.queue)
  acted Method.Pause = as_it_was
  acted Method.Resume = resumed
  acted Method.Control = as_it_was
  acted Method.BargeInOccurred = barged v.queue
  acted Method.Unknown = as_it_was
  acted Method.Recognize = entered Recognizing
  acted Method.StartInputTimers = as_it_was
  acted Method.SetParams = as_it_was
  acted Method.GetParams = as_it_was

  after_late_lem : (l : Verdict) → Stands (after_late l v r)
  after_late_lem passes = acted r.method
  after_late_lem (fails status) = as_it_was

after_early_lem : (v : View) (r : Request) (l : Verdict) → Stands v r (after_early l v r)
after_early_lem v r passes = let seen : View = with_last (Some r.id) v in after_late_lem seen r (late seen r)
after_early_lem v r (fails status) = as_it_was v r

judgement : (v : View) (r : Request) → Stands v r (judge v r)
unfolding judge
judgement v r = after_early_lem v r (early v r)

completes : (v : View) (cause : ℕ) (score : Float) (k : Kind) (e : Entry) (q : List Entry)
    → Left (e ∷ q) (completed k e q v cause score).next.queue
completes v cause score Kind.Synthesizer e q = goes (all_left q)
completes v cause score Kind.Recognizer e q =
    choose (λ (o : Outcome). Left (e ∷ q) o.next.queue) (is_match (counted e.threshold cause score))
    (λ t. goes (all_left q)) (λ t. none_left (e ∷ q))

pub taken_at_acceptance : (v : View) (c : Call)
    → Left v.queue (call v c).next.queue ⊎ Joins c.lent v (call v c).next.queue
taken_at_acceptance v c = go (call v c).next (next_of v c)
  where
    go : (w : View) → Next v c.lent w → Left v.queue w.queue ⊎ Joins c.lent v w.queue
    go w (same e) = inl (rw e (all_left v.queue))
    go w (judged s h name id fs l e x) = told (judgement v (request_of (kind v) h name id fs))
      where
        told : Stands v (request_of (kind v) h name id fs) (judge v (request_of (kind v) h name id fs))
            → Left v.queue w.queue ⊎ Joins c.lent v w.queue
        told (inl k) = inl (rw x k)
        told (inr k) =
            inr (record {
              s = s;
              head = h;
              name = name;
              id = id;
              fields = fs;
              lent_is = l;
              hears = e;
              queue_is = ap (λ (u : View). u.queue) x ∙ k;
            })
    go w (ended cause score e q l eq x) =
        inl (rw x (subst (λ (p : List Entry). Left p (completed (kind v) e q v cause score).next.queue) (sym eq)
        (completes v cause score (kind v) e q)))
    go w (gone n e l k x) = inl (rw x (all_left v.queue))
