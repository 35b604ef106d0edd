-- What a call leaves: the channel as it was; what judging the request at the front of the input makes of it; what
-- ending the active request makes of it; or a further edition. Whatever is to be shown of every call goes by these four
-- cases. Assumes nothing.
use Prim.Native.Nat.{ℕ}
use mathlib.Core.Path.{◌≡◌, refl}
use mathlib.Core.Option.{Option, none, some}
use mathlib.Core.List.{List, [], ◌∷◌}
use lib.Dec.{ltb}
use lib.Ieee.{Float}
use lib.ListN.{length}
use Rattle.lists.proofs.Tests.{choose}
use Rattle.message.specs.Message.{Head, Fields, Reading, refused, message, request, response, event}
use Rattle.message.specs.Reading.{read_bytes}
use Rattle.answer.specs.Written.{written_all}
use Rattle.ledger.specs.Ledger.{Turn}
use Rattle.synth.specs.Settings.{edition_at}
use Rattle.synth.specs.Channel.{View, kind, with_edition, sound}
use Rattle.synth.specs.Request.{request_of}
use Rattle.synth.specs.States.{judge, completed}
use Rattle.synth.specs.Calls.{Lent, input, report, back, Call, Reply, deliver, answer, awaits, is_no_score, is_no_cause, ending, reported, going_back, gone_back, on_sound, call}
use Rattle.synth.specs.declared.Entry.{Entry}
use Rattle.synth.specs.declared.Edition.{Edition}

pub data Next (v : View) (lent : Lent) (w : View) : Type 0 where
  same : w ≡ v → Next v lent w
  judged : (s : List ℕ) (h : Head) (name : List ℕ) (id : ℕ) (fs : Fields (List ℕ)) → lent ≡ input s
      → read_bytes s ≡ message h (request name id) fs → w ≡ (judge v (request_of (kind v) h name id fs)).next
      → Next v lent w
  ended : (cause : ℕ) (score : Float) (e : Entry) (q : List Entry) → lent ≡ report cause score → v.queue ≡ e ∷ q
      → w ≡ (completed (kind v) e q v cause score).next → Next v lent w
  gone : (n : ℕ) (e : Edition) → lent ≡ back n → edition_at n v.editions ≡ some e → w ≡ with_edition e v
      → Next v lent w

module _ (v : View) where
  abbrev Leaves : Lent → Turn View Reply → Type 0
  Leaves lent t = Next v lent t.next

  answered : (s : List ℕ) (room : ℕ) (m : Reading (List ℕ)) → read_bytes s ≡ m → Leaves (input s) (answer v room m)
  unfolding deliver
  answered s room (refused n k) e = same refl
  answered s room (message h (request name id) fs) e =
      choose (Leaves (input s)) (ltb room (length (written_all (judge v (request_of (kind v) h name id fs)).says)))
      (λ t. same refl) (λ t. judged s h name id fs refl e refl)
  answered s room (message h (response id status state) fs) e = same refl
  answered s room (message h (event name id state) fs) e = same refl

  module _ (cause : ℕ) (score : Float) (room : ℕ) where
    ends : (q : List Entry) → v.queue ≡ q → Leaves (report cause score) (ending q v cause score room)
    unfolding deliver
    ends [] eq = same refl
    ends (e ∷ q) eq =
        choose (Leaves (report cause score))
        (ltb room (length (written_all (completed (kind v) e q v cause score).says))) (λ t. same refl)
        (λ t. ended cause score e q refl eq refl)

    reports : Leaves (report cause score) (reported v cause score room)
    unfolding reported
    reports =
        choose (Leaves (report cause score)) (is_no_cause (kind v) cause) (λ t. same refl)
        (λ t. choose (Leaves (report cause score)) (is_no_score (kind v) score) (λ u. same refl)
        (λ u. choose (Leaves (report cause score)) (awaits v.state) (λ w. ends v.queue refl) (λ w. same refl)))

  goes : (n : ℕ) (o : Option Edition) → edition_at n v.editions ≡ o → Leaves (back n) (going_back o v)
  goes n none e = same refl
  goes n (some x) e = gone n x refl e refl

  sounded : (lent : Lent) (room : ℕ) → Leaves lent (on_sound lent v room)
  sounded (input s) room = answered s room (read_bytes s) refl
  sounded (report cause score) room = reports cause score room
  sounded (back n) room = unfold gone_back in goes n (edition_at n v.editions) refl

pub next_of : (v : View) (c : Call) → Next v c.lent (call v c).next
unfolding call
next_of v c = choose (Leaves v c.lent) (sound v) (λ t. sounded v c.lent c.room) (λ t. same refl)
