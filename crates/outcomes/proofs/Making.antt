-- An outcome made of its parts is the one that document 01 asks for. Assumes nothing.
use Prim.Native.Nat.{ℕ}
use mathlib.Core.Path.{◌≡◌, refl, sym, ap, ◌∙◌}
use mathlib.Core.Bool.{Bool, true, false, cond}
use mathlib.Core.List.{List, [], ◌∷◌}
use lib.ListN.{length}
use mir.Val.{Val}
use denote.Laws.{Is}
use Rattle.message.specs.declared.RequestState.{RequestState}
use Rattle.message.specs.declared.RequestState.TheVariants.{Complete}
use Rattle.answer.specs.Answers.{response}
use Rattle.answer.specs.declared.Answer.{Answer}
use Rattle.answer.specs.declared.Status.{Status}
use Rattle.synth.specs.Channel.{View, with_queue}
use Rattle.synth.specs.Request.{Request, ignores_any}
use Rattle.synth.specs.Judgement.{success}
use Rattle.synth.specs.States as S
use Rattle.synth.specs.declared.Entry.{Entry}
use Rattle.synth.specs.declared.State.{State}
use Rattle.queue.specs.Queue.{list_of, no_ids, Lists}
use Rattle.queue.specs.declared.Ids.{Ids}
use Rattle.queue.specs.declared.Queue.{Queue}
use Rattle.queue.proofs.Queues.{length_of, none_listed}
use Rattle.outcomes.specs.Outcomes.{outcome, Makes}
use Rattle.outcomes.specs.declared.Outcome.{Outcome}
use Rattle.outcomes.specs.contracts.Outcome.{the_row}

pub listed_16 : (o : Outcome) (vs : List Val) → Is the_row o vs → length o.listed.ids ≡ 16
listed_16 o vs good = search length_of

-- an answer is given by its parts
pub answer_is : {a : Answer} {id code : ℕ} {status : Status} {state : RequestState} → (a.id ≡ id) × (a.status ≡ status) × (a.state ≡ state) → status.code ≡ code
    → a ≡ record { id = id; status = record { code = code }; state = state }
answer_is {a} {id} {code} {status} {state} e f =
    (λ i. record { id = e.0 i; status = e.1 i; state = e.2 i }) ∙ (λ i. record { id = id; status = record { code = f i }; state = state })

-- 200, or 201 if a field was ignored
success_is : (r : Request) (ignored : Bool) → ignored ≡ ignores_any r → cond ignored 201 200 ≡ success r
unfolding success
success_is r ignored e = ap {B = ℕ} (λ b. cond b 201 200) e ∙ go (ignores_any r)
  where
    go : (b : Bool) → ◌≡◌ {A = ℕ} (cond b 201 200) (elim b [ true ↦ 201 | false ↦ 200 ])
    go true = refl
    go false = refl

module _ (v : View) (r : Request) (state : State) (queue : Queue) {o : Outcome} {d : S.Outcome} where
  makes : (code : ℕ) (progress : RequestState) (ids : Ids) {listed : List ℕ} → o ≡ outcome r.id code progress ids state queue → Lists listed ids
      → d ≡ record { says = response v.name r.id code progress listed ∷ []; next = with_queue state (list_of queue) v } → Makes v o d
  makes code progress ids e l f = rw (f, e) (record { says = rw l.shown; left = refl; few = l.few })

  -- a failure, and a success
  pub makes_failed : (code : ℕ) {n : ℕ} → n ≡ code → o ≡ outcome r.id n Complete no_ids state queue → d ≡ S.failed (with_queue state (list_of queue) v) r code
      → Makes (with_queue state (list_of queue) v) o d
  makes_failed code h e f = rw (f, e, h) (record { says = refl; left = refl; few = none_listed.few })

  pub makes_success : {ignored : Bool} → ignored ≡ ignores_any r → (progress : RequestState) (ids : Ids) {listed : List ℕ} {entries : List Entry}
      → o ≡ outcome r.id (cond ignored 201 200) progress ids state queue → Lists listed ids → list_of queue ≡ entries
      → d ≡ S.succeeded v r progress listed state entries → Makes v o d
  makes_success {ignored} i progress ids {listed} {entries} e l q f =
      makes (cond ignored 201 200) progress ids e l
      (f ∙ sym ((λ z. record { says = response v.name r.id (success_is r ignored i z) progress listed ∷ []; next = with_queue state (q z) v })))
