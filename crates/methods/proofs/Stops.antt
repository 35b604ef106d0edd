-- STOP and BARGE-IN-OCCURRED: which of the ids held the list names, and what ends. Assumes nothing.
use Prim.Native.Nat.{ℕ, ◌≤◌, ◌<◌}
use mathlib.Core.Path.{◌≡◌, refl, sym, ap, ap₂, ◌∙◌}
use mathlib.Core.Bool.{Bool, true, false}
use mathlib.Core.Option.{none, some}
use mathlib.Core.List.{List, [], ◌∷◌}
use native.Mathlib.Omega.{arith}
use lib.Dec.{leb}
use lib.ListN.{length, take}
use lib.Seq.{take_all}
use borrow.Author.Tests.{leb-true, leb-false}
use Rattle.lists.specs.Lists.{keep}
use Rattle.message.specs.declared.RequestState.TheVariants.{Complete}
use Rattle.message.specs.Folds.{joined}
use Rattle.answer.specs.IdList.{is_id_list, ids_of}
use Rattle.answer.proofs.Theorems.ListsJudgedAlike.{lists_alike, ids_alike}
use Rattle.idlist.specs.Named.{bits_from, named_in}
use Rattle.std.proofs.Common.{Option, Some, None}
use Rattle.synth.specs.Channel.{View, with_queue, ids}
use Rattle.synth.specs.Request.{Request, ignores_any}
use Rattle.synth.specs.States as S
use Rattle.synth.specs.States.{while_any, ends, stop}
use Rattle.synth.specs.declared.Entry.{Entry}
use Rattle.synth.specs.declared.State.{State}
use Rattle.synth.specs.declared.State.TheVariants.{Idle}
use Rattle.queue.specs.Queue.{list_of, marked, no_ids, Lists}
use Rattle.queue.specs.declared.Ids.{Ids}
use Rattle.queue.specs.declared.Queue.{Queue}
use Rattle.queue.proofs.Masks as Q
use Rattle.outcomes.specs.Outcomes.{Makes}
use Rattle.outcomes.specs.declared.Outcome.{Outcome}
use Rattle.outcomes.proofs.Making.{makes_success}
use Rattle.methods.specs.Ending.{EndsBy}
use Rattle.methods.proofs.Masks.{marks_listed, marks_others}

-- never more than the array holds
pub held_few : (queue : List Entry) (l : Ids) → ((length queue ≤ 16 → Lists (ids queue) l) × (16 < length queue → l ≡ no_ids)) → l.count ≤ 16
held_few queue l e = go (leb (length queue) 16) refl
  where
    go : (b : Bool) → leb (length queue) 16 ≡ b → l.count ≤ 16
    go true t = (e.0 (leb-true (length queue) 16 t)).few
    go false t = rw (e.1 (leb-false (length queue) 16 t)) (omega arith)

-- a list names the same as it stands and as it is judged
pub named_joined : (list held : List ℕ) → named_in list held ≡ named_in (joined list) held
unfolding named_in
named_joined list held = go (is_id_list list) refl
  where
    by : Bool → List ℕ → Option ℕ
    by b ids = elim b [ true ↦ Some (bits_from 0 ids (take 64 held)) | false ↦ None ]

    go : (b : Bool) → is_id_list list ≡ b
        → by (is_id_list list) (ids_of list) ≡ by (is_id_list (joined list)) (ids_of (joined list))
    go true e = sym (ap₂ by (lists_alike list) (ids_alike list e))
    go false e = ap (λ b. by b (ids_of list)) e ∙ sym (ap (λ b. by b (ids_of (joined list))) (lists_alike list ∙ e))

-- what the list says of the ids held
module _ (list held : List ℕ) where
  abbrev answered : Bool → Option ℕ
  answered b = elim b [ true ↦ Some (bits_from 0 (ids_of list) (take 64 held)) | false ↦ None ]

  pub named_illegal : {w : Option ℕ} → w ≡ named_in list held → w ≡ None → is_id_list list ≡ false
  unfolding named_in
  named_illegal e f = go (is_id_list list) (sym e ∙ f)
    where
      go : (b : Bool) → answered b ≡ None → b ≡ false
      go true e = let d : ◌≡◌ {A = ℕ} 0 1 = cc in absurd (omega arith)
      go false e = refl

  pub named_those : {w : Option ℕ} (mask : ℕ) → w ≡ named_in list held → w ≡ Some mask → length held ≤ 16
      → (is_id_list list ≡ true) × (mask ≡ bits_from 0 (ids_of list) held)
  unfolding named_in
  named_those mask e f few = go (is_id_list list) (sym e ∙ f)
    where
      go : (b : Bool) → answered b ≡ Some mask → (b ≡ true) × (mask ≡ bits_from 0 (ids_of list) held)
      go true e =
          let same : mask ≡ bits_from 0 (ids_of list) (take 64 held) = cc in
          (refl, same ∙ ap (bits_from 0 (ids_of list)) (take_all 64 held (omega arith)))
      go false e = let d : ◌≡◌ {A = ℕ} 0 1 = cc in absurd (omega arith)

-- without a list all are kept among those that end
keep_every : (q : List Entry) → keep (λ (e : Entry). true) q ≡ q
keep_every [] = refl
keep_every (e ∷ q) = rw (keep_every q)

keep_no : (q : List Entry) → keep (λ (e : Entry). false) q ≡ []
keep_no [] = refl
keep_no (e ∷ q) = rw (keep_no q)

-- what ends, and what is answered
module _ (state : State) (q : Queue) (v : View) (r : Request) where
  abbrev w : View
  w = with_queue state (list_of q) v

  module _ {ignored : Bool} {o : Outcome} {d : S.Outcome} (told : ignored ≡ ignores_any r) where
    ended : (mask : ℕ) {gone rest : List Entry} → EndsBy mask state (list_of q) r.id ignored o → marked true mask 0 (list_of q) ≡ gone
        → marked false mask 0 (list_of q) ≡ rest → d ≡ S.succeeded w r Complete (ids gone) (while_any Idle state rest) rest → Makes w o d
    ended mask {gone} {rest} e g k f =
        let left : list_of o.queue ≡ rest = e.ends.left ∙ k in
        makes_success w r (while_any Idle state (list_of o.queue)) o.queue told Complete o.listed e.answers e.ends.lists left
        (f ∙ sym (λ z. S.succeeded w r Complete (ids (g z)) (while_any Idle state (left z)) rest))

    -- those named end, the others stay
    pub named_end : (list : List ℕ) (mask : ℕ) → mask ≡ bits_from 0 (ids_of list) (ids (list_of q)) → EndsBy mask state (list_of q) r.id ignored o
        → d ≡ stop (some list) w r → Makes w o d
    named_end list mask m e f =
        ended mask e (ap (λ (n : ℕ). marked true n 0 (list_of q)) m ∙ marks_listed (ids_of list) (list_of q))
        (ap (λ (n : ℕ). marked false n 0 (list_of q)) m ∙ marks_others (ids_of list) (list_of q)) f

    module _ (few : length (list_of q) ≤ 16) (e : EndsBy 65535 state (list_of q) r.id ignored o) where
      pub all_stop : d ≡ stop none w r → Makes w o d
      all_stop f = ended 65535 e (Q.all_end (list_of q) few ∙ sym (keep_every (list_of q))) (Q.none_remains (list_of q) few ∙ sym (keep_no (list_of q))) f

      pub all_end : d ≡ S.succeeded w r Complete (ids (list_of q)) Idle [] → Makes w o d
      all_end f = ended 65535 e (Q.all_end (list_of q) few) (Q.none_remains (list_of q) few) f
