-- 403 exactly: judgements 1 to 5 pass, the request is a SET-PARAMS or a GET-PARAMS, and it has a field that is neither
-- a setting of the channel's kind nor one that acts everywhere or nowhere; the 404 of judgement 6 comes after it. Both
-- methods are valid in every state. Assumes nothing.
use Prim.Native.Nat.{ℕ}
use mathlib.Core.Path.{◌≡◌, refl, sym, ap, ◌∙◌}
use mathlib.Core.Bool.{Bool, true, false, not, ◌||◌, false≢true}
use mathlib.Core.List.{List, [], ◌∷◌}
use mathlib.Core.Logic.{◌⊎◌, inl, inr}
use native.Mathlib.Omega.{arith}
use Rattle.std.specs.Prelude.{Some}
use Rattle.lists.specs.Lists.{all}
use Rattle.lists.proofs.Tests.{choose}
use Rattle.message.specs.Message.{Start, request, response, event, fields_in, Message}
use Rattle.message.specs.Known.{names_of}
use Rattle.answer.specs.Answers as A
use Rattle.synth.specs.Settings.{may_stand}
use Rattle.synth.specs.Channel.{View, kind, with_last, is, is_busy}
use Rattle.synth.specs.Request.{Request, opens, is_params, ignores_any}
use Rattle.synth.specs.Judgement.{Verdict, passes, fails, ◌then◌, unless, in_opening, version, well_formed, addressed, ours, above, permitted, legal, of_kind, is_valid, valid, content, capacity, success, early, late}
use Rattle.synth.specs.States.{Outcome, failed, enter, barge_in, resume, act, after_late, after_early, judge}
use Rattle.synth.specs.declared.State.{State}
use Rattle.synth.specs.declared.State.TheVariants.{Speaking, Paused, Recognizing}
use Rattle.synth.specs.declared.Method.{Method}
use Rattle.synth.specs.declared.Entry.{Entry}

-- a SET-PARAMS or GET-PARAMS with a field that may not stand in it
abbrev pub Forbidden : View → Request → Type 0
Forbidden v r =
    (is_params r.method ≡ true) × (all (may_stand (kind v)) (names_of (fields_in r.fields)) ≡ false)

one_zero : {X : Type 0} → ◌≡◌ {A = ℕ} 0 1 → X
one_zero e = absurd (omega arith)

-- a step fails with one status alone
unless_fails : (b : Bool) (k n : ℕ) → unless b k ≡ fails n → (b ≡ false) × (k ≡ n)
unfolding unless
unless_fails true k n e = one_zero cc
unless_fails false k n e = (refl, cc)

then_fails : (a b : Verdict) (n : ℕ) → (a then b) ≡ fails n → (a ≡ fails n) ⊎ (b ≡ fails n)
unfolding ◌then◌
then_fails passes b n e = inr e
then_fails (fails k) b n e = inl e

-- it never fails with 403
abbrev pub Never : Verdict → Type 0
Never a = a ≡ fails 403 → ⊥

unless_never : (b : Bool) (k : ℕ) → (k ≡ 403 → ⊥) → Never (unless b k)
unless_never b k h e = h (unless_fails b k 403 e).1

then_never : {a b : Verdict} → Never a → Never b → Never (a then b)
then_never {a} {b} h k e = go (then_fails a b 403 e)
  where
    go : (a ≡ fails 403) ⊎ (b ≡ fails 403) → ⊥
    go (inl x) = h x
    go (inr x) = k x

opening_never : (r : Request) (a : Verdict) → Never a → Never (in_opening r a)
opening_never r a h = choose Never (opens r.method) (λ t. h) (λ t e. one_zero cc)

module _ (v : View) (r : Request) where
  content_never : Never (content r)
  unfolding content
  content_never =
      opening_never r _
      (then_never (unless_never _ 406 (λ q. omega arith))
      (then_never (unless_never _ 408 (λ q. omega arith))
      (unless_never _ 409 (λ q. omega arith))))

  rest_never : Never (legal r then of_kind r then valid v r then content r then capacity v r)
  unfolding legal of_kind valid capacity
  rest_never =
      then_never (unless_never _ 404 (λ q. omega arith))
      (then_never (unless_never _ 401 (λ q. omega arith))
      (then_never (unless_never _ 402 (λ q. omega arith))
      (then_never content_never
      (opening_never r _ (unless_never _ 407 (λ q. omega arith))))))

  forbids : permitted v r ≡ fails 403 → Forbidden v r
  unfolding permitted
  forbids e =
      go (is_params r.method) (all (may_stand (kind v)) (names_of (fields_in r.fields))) refl refl
      (unless_fails _ 403 403 e).0
    where
      go : (a b : Bool) → is_params r.method ≡ a → all (may_stand (kind v)) (names_of (fields_in r.fields)) ≡ b
          → not a || b ≡ false → Forbidden v r
      go true true p q h = absurd (false≢true (sym h))
      go true false p q h = (p, q)
      go false b p q h = absurd (false≢true (sym h))

  -- where 403 is given
  pub given_403 : late v r ≡ fails 403 → Forbidden v r
  unfolding late
  given_403 e = go (then_fails (permitted v r) _ 403 e)
    where
      go : (permitted v r ≡ fails 403)
          ⊎ ((legal r then of_kind r then valid v r then content r then capacity v r) ≡ fails 403) → Forbidden v r
      go (inl x) = forbids x
      go (inr x) = absurd (rest_never x)

  -- and given wherever it is due, before a value is judged
  pub due_403 : Forbidden v r → late v r ≡ fails 403
  unfolding late permitted unless ◌then◌
  due_403 (m, f) = rw (m, f)

  pub early_never : Never (early v r)
  unfolding early version well_formed addressed ours above
  early_never =
      then_never (unless_never _ 502 (λ q. omega arith))
      (then_never (unless_never _ 404 (λ q. omega arith))
      (then_never (unless_never _ 406 (λ q. omega arith))
      (then_never (unless_never _ 405 (λ q. omega arith))
      (unless_never _ 410 (λ q. omega arith)))))

  -- valid in every state
  pub set_anywhere : r.method ≡ Method.SetParams → valid v r ≡ passes
  unfolding valid unless
  set_anywhere e = ap (λ (m : Method). unless (is_valid m (is_busy v.state)) 402) e

  pub get_anywhere : r.method ≡ Method.GetParams → valid v r ≡ passes
  unfolding valid unless
  get_anywhere e = ap (λ (m : Method). unless (is_valid m (is_busy v.state)) 402) e

-- ---- of the answer

-- the status of the first message, where it is a response
abbrev status_of : Start (List ℕ) → ℕ
status_of (request name id) = 0
status_of (response id status state) = status
status_of (event name id state) = 0

abbrev pub status_said : List Message → ℕ
status_said [] = 0
status_said (m ∷ ms) = status_of m.start

-- it is due: the answer is 403, and nothing changes but the last id seen
pub judged_403 : (v : View) (r : Request) → early v r ≡ passes → Forbidden v r
    → judge v r ≡ failed (with_last (Some r.id) v) r 403
unfolding judge
judged_403 v r e f =
    let seen : View = with_last (Some r.id) v in
    ap (λ (l : Verdict). after_early l v r) e ∙ ap (λ (l : Verdict). after_late l seen r) (due_403 seen r f)

module _ (v : View) (r : Request) where
  abbrev Other : Outcome → Type 0
  Other o = status_said o.says ≡ 403 → ⊥

  success_other : success r ≡ 403 → ⊥
  unfolding success
  success_other = choose (λ (n : ℕ). n ≡ 403 → ⊥) (ignores_any r) (λ t e. omega arith) (λ t e. omega arith)

  entered : (s : State) → Other (enter s v r)
  unfolding A.response
  entered s = choose Other (is_busy v.state) (λ t. success_other) (λ t. success_other)

  barged : (q : List Entry) → Other (barge_in q v r)
  unfolding A.response
  barged [] = success_other
  barged (e ∷ q) = choose Other e.kill (λ t. success_other) (λ t. success_other)

  resumed : Other (resume v r)
  unfolding A.response
  resumed = choose Other (is v.state Paused) (λ t. success_other) (λ t. success_other)

  acted : (m : Method) → Other (act m v r)
  unfolding act A.response A.telling
  acted Method.Speak = entered Speaking
  acted Method.Stop = success_other
  acted Method.Pause = success_other
  acted Method.Resume = resumed
  acted Method.Control = success_other
  acted Method.BargeInOccurred = barged v.queue
  acted Method.Unknown = λ e. omega arith
  acted Method.Recognize = entered Recognizing
  acted Method.StartInputTimers = success_other
  acted Method.SetParams = success_other
  acted Method.GetParams = success_other

  by_late : (l : Verdict) → late v r ≡ l → status_said (after_late l v r).says ≡ 403 → Forbidden v r
  unfolding A.response
  by_late passes e h = absurd (acted r.method h)
  by_late (fails n) e h = given_403 v r (e ∙ ap fails h)

module _ (v : View) (r : Request) where
  by_early : (l : Verdict) → early v r ≡ l → status_said (after_early l v r).says ≡ 403
      → (early v r ≡ passes) × Forbidden v r
  unfolding A.response
  by_early passes e h =
      let seen : View = with_last (Some r.id) v in
      (e, by_late seen r (late seen r) refl h)
  by_early (fails n) e h = absurd (early_never v r (e ∙ ap fails h))

  -- it is given: judgements 1 to 5 passed, and it was due
  pub only_403 : status_said (judge v r).says ≡ 403 → (early v r ≡ passes) × Forbidden v r
  unfolding judge
  only_403 = by_early (early v r) refl
