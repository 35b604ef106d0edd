-- SOUNDNESS OF THE C FACE. The numbers of a channel that `klarvesimo_open` opened stay those of a sound channel through
-- every list of calls of `klarvesimo_handle`, `klarvesimo_report`, `klarvesimo_back` and `klarvesimo_held`, with any
-- arrays, and none of them returns 21. Every beginning of such a list is one itself, so the numbers on the way are
-- sound too. Assumes nothing.
use Prim.Native.Nat.{ℕ}
use mathlib.Core.Path.{◌≡◌, sym, ap, ◌∙◌}
use mathlib.Core.Bool.{true, false≢true}
use mathlib.Core.Option.{Option, none, some}
use mathlib.Core.List.{List, [], ◌∷◌}
use native.Mathlib.Omega.{arith}
use lib.Dec.{eqb, ltb}
use lib.ListN.{length}
use Rattle.lists.specs.Lists.{All}
use Rattle.lists.proofs.Tests.{choose}
use Rattle.ledger.specs.Ledger.{Exchange, Turn, after, trace}
use Rattle.synth.specs.Channel.{View, held, sound}
use Rattle.synth.specs.Calls.{Lent, input, report, back, Call, Reply}
use Rattle.synth.proofs.Theorems.Soundness.{opened_sound, call_sound}
use Rattle.channelnumbers.specs.Numbers.{view_of}
use Rattle.klarvesimo.specs.Face.{open_face, call_face, back_face, HeldFace, held_on, held_face}
use Rattle.demands.specs.FromC.{OnChannel, handles, reports, goes, lists, seen_as, channel_in, stepped}
use Rattle.demands.specs.FromC.{SoundOfTheFace}
use Rattle.demands.proofs.Faces.{nameless}
use Rattle.demands.proofs.Theorems.Soundness.{not_21}
use Rattle.demands.proofs.Theorems.Demand3FromC.{face_meets, opened_numbers}

-- a call on the numbers of a sound channel
abbrev Stays : Turn (List ℕ) ℕ → Type 0
Stays t = (sound (channel_in t.next) ≡ true) × (t.reply ≡ 21 → ⊥)

call_stays : (ws out : List ℕ) (lent : Lent) → sound (channel_in ws) ≡ true
    → Stays (record { reply = (call_face ws lent out).number; next = (call_face ws lent out).channel })
call_stays ws out lent e =
    let m = face_meets ws out lent in
    let k : Call = record { lent = lent; room = length out } in (
      ap sound m.leaves ∙ call_sound (channel_in ws) k e,
      λ n. not_21 (channel_in ws) k e (sym (ap (λ (r : Reply). r.number) m.replies) ∙ n),
    )

list_stays : (o : Option View) (ids : List ℕ) → sound (seen_as o) ≡ true → (held_on o ids).number ≡ 21 → ⊥
list_stays none ids e n = false≢true (sym nameless ∙ e)
list_stays (some v) ids e n =
    choose (λ (f : HeldFace). f.number ≡ 21 → ⊥) (sound v)
    (λ _. choose (λ (f : HeldFace). f.number ≡ 21 → ⊥) (ltb (length ids) (length (held v)))
    (λ _ z. omega arith) (λ _ z. omega arith))
    (λ f z. false≢true (sym f ∙ e)) n

stays : (ws : List ℕ) (c : OnChannel) → sound (channel_in ws) ≡ true → Stays (stepped ws c)
unfolding back_face held_face
stays ws (handles s out counts) e = call_stays ws out (input s) e
stays ws (reports cause score out written) e = call_stays ws out (report cause score) e
stays ws (goes n) e = call_stays ws [] (back n) e
stays ws (lists ids count) e = (e, list_stays (view_of ws) ids e)

all_stay : (calls : List OnChannel) (ws : List ℕ) → sound (channel_in ws) ≡ true
    → (sound (channel_in (after stepped ws calls)) ≡ true)
    × All (λ (x : Exchange OnChannel ℕ). x.reply ≡ 21 → ⊥) (trace stepped ws calls)
all_stay [] ws e = (e, tt)
all_stay (c ∷ calls) ws e =
    let s = stays ws c e in
    let rest = all_stay calls (stepped ws c).next s.0 in
    (rest.0, (s.1, rest.1))

-- a channel that was opened with number 0 is sound
pub opened_face : (name : List ℕ) → (open_face name).number ≡ 0 → sound (channel_in (open_face name).channel) ≡ true
unfolding open_face
opened_face name e = ap sound (opened_numbers name) ∙ opened_sound name ∙ ap (λ (n : ℕ). eqb n 0) e

pub sound_of_the_face : SoundOfTheFace
sound_of_the_face name calls e = all_stay calls (open_face name).channel (opened_face name e)
