-- Only a SET-PARAMS that succeeds and a going back make a further edition; every other call leaves the editions as they
-- were. Assumes nothing.
use Prim.Native.Nat.{ℕ}
use mathlib.Core.Path.{◌≡◌, refl, ap, ◌∙◌}
use mathlib.Core.Bool.{false≢true}
use mathlib.Core.Option.{some}
use mathlib.Core.List.{List, [], ◌∷◌, map}
use mathlib.Core.Logic.{◌⊎◌, inl, inr}
use lib.Ieee.{Float}
use Rattle.std.specs.Prelude.{Some}
use Rattle.lists.specs.Lists.{elem}
use Rattle.lists.proofs.Tests.{choose}
use Rattle.message.specs.Reading.{read_bytes}
use Rattle.answer.specs.declared.Kind.{Kind}
use Rattle.synth.specs.Kinds.{method_number, methods, method_in}
use Rattle.synth.specs.Settings.{further, edition_at}
use Rattle.synth.specs.Channel.{View, kind, with_last, is, is_busy}
use Rattle.synth.specs.Request.{Request, method_of, is_set, request_of}
use Rattle.synth.specs.Judgement.{Verdict, passes, fails, early, late}
use Rattle.synth.specs.States.{Outcome, enter, barge_in, resume, act, after_late, after_early, judge, is_match, counted, completed}
use Rattle.synth.specs.Calls.{Lent, input, back, Call, call}
use Rattle.synth.specs.Demand3.{asked_by}
use Rattle.synth.specs.declared.State.{State}
use Rattle.synth.specs.declared.State.TheVariants.{Speaking, Paused, Recognizing}
use Rattle.synth.specs.declared.Method.{Method}
use Rattle.synth.specs.declared.Entry.{Entry}
use Rattle.synth.specs.declared.Edition.{Edition}
use Rattle.synth.proofs.Nexts.{Next, same, judged, ended, gone, next_of}

-- one more in front, and of all the newest four
abbrev pub OneMore : List Edition → List Edition → Type 0
OneMore before after = (e : Edition) × (after ≡ further e before)

-- the call is one that makes editions: the request at the front of the input is a SET-PARAMS; or the number gone back
-- to is kept, and the new one equal
pub data Makes (lent : Lent) (before after : List Edition) : Type 0 where
  sets : (s : List ℕ) (id : ℕ) → lent ≡ input s
      → asked_by (read_bytes s) ≡ some (record { method = Method.SetParams; id = id }) → OneMore before after
      → Makes lent before after
  goes_back : (n : ℕ) (e : Edition) → lent ≡ back n → edition_at n before ≡ some e → after ≡ further e before
      → Makes lent before after

module _ (v : View) (r : Request) where
  abbrev Same : Outcome → Type 0
  Same o = o.next.editions ≡ v.editions

  barged : (q : List Entry) → Same (barge_in q v r)
  barged [] = refl
  barged (e ∷ q) = choose Same e.kill (λ t. refl) (λ t. refl)

  entered : (s : State) → Same (enter s v r)
  entered s = choose Same (is_busy v.state) (λ t. refl) (λ t. refl)

  resumed : Same (resume v r)
  resumed = choose Same (is v.state Paused) (λ t. refl) (λ t. refl)

  -- as before, unless the method is SET-PARAMS
  abbrev Made : Method → Outcome → Type 0
  Made m o = Same o ⊎ ((m ≡ Method.SetParams) × OneMore v.editions o.next.editions)

  acted : (m : Method) → Made m (act m v r)
  unfolding act
  acted Method.Speak = inl (entered Speaking)
  acted Method.Stop = inl refl
  acted Method.Pause = inl refl
  acted Method.Resume = inl resumed
  acted Method.Control = inl refl
  acted Method.BargeInOccurred = inl (barged v.queue)
  acted Method.Unknown = inl refl
  acted Method.Recognize = inl (entered Recognizing)
  acted Method.StartInputTimers = inl refl
  acted Method.SetParams = inr (refl, (_, refl))
  acted Method.GetParams = inl refl

  after_late_lem : (l : Verdict) → Made r.method (after_late l v r)
  after_late_lem passes = acted r.method
  after_late_lem (fails status) = inl refl

after_early_lem : (v : View) (r : Request) (l : Verdict) → Made v r r.method (after_early l v r)
after_early_lem v r passes = let seen : View = with_last (Some r.id) v in after_late_lem seen r (late seen r)
after_early_lem v r (fails status) = inl refl

judgement : (v : View) (r : Request) → Made v r r.method (judge v r)
unfolding judge
judgement v r = after_early_lem v r (early v r)

-- a request that is judged as a SET-PARAMS names it
named_set : (k : Kind) (m : Method) → method_in k m ≡ Method.SetParams → m ≡ Method.SetParams
named_set k m =
    choose (λ (n : Method). n ≡ Method.SetParams → m ≡ Method.SetParams)
    (elem (method_number m) (map method_number (methods k))) (λ t h. h) (λ t h. absurd (false≢true (ap is_set h)))

completes : (v : View) (cause : ℕ) (score : Float) (k : Kind) (e : Entry) (q : List Entry)
    → (completed k e q v cause score).next.editions ≡ v.editions
completes v cause score Kind.Synthesizer e q = refl
completes v cause score Kind.Recognizer e q =
    choose (λ (o : Outcome). o.next.editions ≡ v.editions) (is_match (counted e.threshold cause score)) (λ t. refl)
    (λ t. refl)

pub editions_made : (v : View) (c : Call)
    → ((call v c).next.editions ≡ v.editions) ⊎ Makes c.lent v.editions (call v c).next.editions
editions_made v c = go (call v c).next (next_of v c)
  where
    go : (w : View) → Next v c.lent w → (w.editions ≡ v.editions) ⊎ Makes c.lent v.editions w.editions
    go w (same e) = inl (ap (λ (u : View). u.editions) e)
    go w (judged s h name id fs l e x) = told (judgement v (request_of (kind v) h name id fs))
      where
        told : Made v (request_of (kind v) h name id fs) (method_in (kind v) (method_of name))
            (judge v (request_of (kind v) h name id fs))
            → (w.editions ≡ v.editions) ⊎ Makes c.lent v.editions w.editions
        told (inl k) = inl (ap (λ (u : View). u.editions) x ∙ k)
        told (inr (m, (y, k))) =
            let asks = ap asked_by e
            ∙ ap (λ (n : Method). some (record { method = n; id = id })) (named_set (kind v) (method_of name) m) in
            inr (sets s id l asks (y, ap (λ (u : View). u.editions) x ∙ k))
    go w (ended cause score e q l eq x) =
        inl (ap (λ (u : View). u.editions) x ∙ completes v cause score (kind v) e q)
    go w (gone n e l k x) = inr (goes_back n e l k (ap (λ (u : View). u.editions) x))
