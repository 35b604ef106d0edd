-- DEMAND 3 OF THE C FACE. The calls of `klarvesimo_handle`, `klarvesimo_report` and `klarvesimo_back`, on the 89
-- numbers that `klarvesimo_open` gave and each call then left, keep the ledger in balance: the contracts of the C face
-- name these numbers whole, and what a call saves the next one loads. Assumes nothing.
use Prim.Native.Nat.{ℕ, zero, suc}
use mathlib.Core.Path.{◌≡◌, refl, sym, ap, ◌∙◌}
use mathlib.Core.Bool.{Bool, true, false}
use mathlib.Core.Option.{Option, none, some}
use mathlib.Core.List.{List, []}
use native.Mathlib.Omega.{arith}
use lib.ListN.{length, take, drop, get_or}
use lib.Seq.{take-append_seam}
use Rattle.lists.proofs.Tests.{choose}
use Rattle.ledger.specs.Ledger.{Exchange, Run, ended, called, Turn}
use Rattle.synth.specs.Channel.{View, fresh, well_named, sound}
use Rattle.synth.specs.Calls.{Lent, input, report, back, Call, Reply, Opened, refuse, call, open_channel}
use Rattle.synth.specs.Demand3.{Meets}
use Rattle.synth.proofs.Theorems.Demand3.{demand3}
use Rattle.synth.proofs.Theorems.Soundness.{call_sound, refused_keeps}
use Rattle.channelnames.proofs.Fits.{name_fits_lem}
use Rattle.calls.proofs.Leaving.{name_short, unsound_refused}
use Rattle.channelnumbers.specs.Numbers.{numbers_of, view_of}
use Rattle.channelnumbers.proofs.Theorems.LoadSaved.{sound_few, load_saved, loaded_fit}
use Rattle.channelnumbers.proofs.Theorems.ThresholdsFit.{call_fit, fresh_fit}
use Rattle.klarvesimo.specs.Face.{open_face, CallFace, keeping, turn_face, call_on, call_face, back_face}
use Rattle.demands.specs.FromC.{on, handing, Lending, Places, seen_as, channel_in, seen, stepped, CalledFromC}
use Rattle.demands.specs.FromC.{Demand3OfTheFace}
use Rattle.demands.proofs.Faces.{nameless, one_place, two_places, report_consumes_none}
use Rattle.demands.proofs.Faces.{back_consumes_none, back_writes_none}

-- what is seen of a call before the counts are in their places
abbrev pub reply_of : CallFace → Reply
reply_of f = record { number = f.number; consumed = f.consumed; written = take f.written f.out }

abbrev pub FaceMeets : List ℕ → List ℕ → Lent → Type 0
FaceMeets ws out lent =
    let f : CallFace = call_face ws lent out in
    Meets channel_in ws (record { lent = lent; room = length out }) (reply_of f) f.channel

-- a call meets the definition: on numbers that are a channel
module _ (v : View) (ws out : List ℕ) (lent : Lent) (is : view_of ws ≡ some v) where
  abbrev made : Call
  made = record { lent = lent; room = length out }

  abbrev t : Turn View Reply
  t = call v made

  face : call_face ws lent out ≡ turn_face t ws out
  unfolding call_face
  face = ap (λ (o : Option View). call_on o ws lent out) is

  replied : reply_of (turn_face t ws out) ≡ t.reply
  replied = λ i.
      let bytes : List ℕ = t.reply.written in
      record {
        number = t.reply.number;
        consumed = t.reply.consumed;
        written = take-append_seam bytes (drop (length bytes) out) i;
      }

  sane : t.reply.number ≡ 0 → sound v ≡ true
  sane z = go (sound v) refl
    where
      go : (b : Bool) → sound v ≡ b → sound v ≡ true
      go true e = e
      go false e =
          let n : t.reply.number ≡ 21 = ap (λ (x : Turn View Reply). x.reply.number) (unsound_refused v made e) in
          absurd (omega (arith, n, z))

  saved : (n : ℕ) → t.reply.number ≡ n → channel_in (keeping n ws t.next) ≡ t.next
  saved zero e =
      let s = call_sound v made (sane e) in
      ap seen_as (load_saved t.next (sound_few t.next s) (name_short t.next s) (call_fit v (loaded_fit ws is) made))
  saved (suc n) e = ap seen_as is ∙ sym (refused_keeps v made (λ z. let y : 0 ≡ suc n = sym z ∙ e in omega arith)).1

  meets_channel : FaceMeets ws out lent
  meets_channel = record {
    replies = ap reply_of face ∙ replied ∙ ap (λ (o : Option View). (call (seen_as o) made).reply) (sym is);
    leaves =
        ap (λ (f : CallFace). channel_in f.channel) face
        ∙ saved t.reply.number refl
        ∙ ap (λ (o : Option View). (call (seen_as o) made).next) (sym is);
  }

-- and on numbers that are none
meets_none : (ws out : List ℕ) (lent : Lent) → view_of ws ≡ none → FaceMeets ws out lent
meets_none ws out lent is =
    let k : Call = record { lent = lent; room = length out } in
    let face : call_face ws lent out ≡ record { number = 21; channel = ws; consumed = 0; written = 0; out = out } =
    unfold call_face in ap (λ (o : Option View). call_on o ws lent out) is in
    let refusal : call (channel_in ws) k ≡ refuse (channel_in ws) 21 0 =
    unsound_refused (channel_in ws) k (ap (λ (o : Option View). sound (seen_as o)) is ∙ nameless) in
    record {
      replies = ap reply_of face ∙ ap (λ (x : Turn View Reply). x.reply) (sym refusal);
      leaves =
          ap (λ (f : CallFace). channel_in f.channel) face ∙ ap (λ (x : Turn View Reply). x.next) (sym refusal);
    }

pub face_meets : (ws out : List ℕ) (lent : Lent) → FaceMeets ws out lent
face_meets ws out lent = go (view_of ws) refl
  where
    go : (o : Option View) → view_of ws ≡ o → FaceMeets ws out lent
    go none e = meets_none ws out lent e
    go (some v) e = meets_channel v ws out lent e

-- the counts stand in their places
seen_reply : (ws out counts : List ℕ) (lent : Lent) → Lending lent out → Places (on ws (handing lent out counts))
    → seen ws lent out counts ≡ reply_of (call_face ws lent out)
unfolding back_face
seen_reply ws out counts (input s) any two =
    let f = call_face ws (input s) out in
    ap (λ (l : List ℕ). record { number = f.number; consumed = get_or l 0 0; written = take (get_or l 1 0) f.out })
    (two_places counts f.consumed f.written two)
seen_reply ws out written (report cause score) any one =
    let f = call_face ws (report cause score) out in
    ap (λ (l : List ℕ). record { number = f.number; consumed = 0; written = take (get_or l 0 0) f.out })
    (one_place written f.written one)
    ∙ ap (λ (m : ℕ). record { number = f.number; consumed = m; written = take f.written f.out })
    (sym (report_consumes_none ws cause score out))
seen_reply ws out counts (back n) nil any =
    let f = call_face ws (back n) [] in
    (λ i. record {
      number = f.number;
      consumed = sym (back_consumes_none ws n []) i;
      written = take (sym (back_writes_none ws n []) i) f.out;
    })
    ∙ ap (λ (out : List ℕ). reply_of (call_face ws (back n) out)) (sym nil)

left_channel : (ws out counts : List ℕ) (lent : Lent) → Lending lent out
    → (stepped ws (handing lent out counts)).next ≡ (call_face ws lent out).channel
unfolding back_face
left_channel ws out counts (input s) any = refl
left_channel ws out counts (report cause score) any = refl
left_channel ws out counts (back n) nil = ap (λ (out : List ℕ). (call_face ws (back n) out).channel) (sym nil)

pub meets : {ws : List ℕ} {k : Call} {r : Reply} {next : List ℕ} → CalledFromC ws k r next → Meets channel_in ws k r next
meets {ws} {k} {r} {next} c =
    let m = face_meets ws c.out k.lent in
    let as-made : (n : ℕ) → Call = λ n. record { lent = k.lent; room = n } in
    record {
      replies =
          c.saw ∙ seen_reply ws c.out c.counts k.lent c.lends c.places ∙ m.replies
          ∙ ap (λ (n : ℕ). (call (channel_in ws) (as-made n)).reply) (sym c.room);
      leaves =
          ap channel_in (c.left ∙ left_channel ws c.out c.counts k.lent c.lends) ∙ m.leaves
          ∙ ap (λ (n : ℕ). (call (channel_in ws) (as-made n)).next) (sym c.room);
    }

pub each_meets : {ws last : List ℕ} {calls : List (Exchange Call Reply)} → Run CalledFromC ws calls last
    → Run (Meets channel_in) ws calls last
each_meets ended = ended
each_meets (called c run) = called (meets c) (each_meets run)

pub opened_numbers : (name : List ℕ) → channel_in (open_face name).channel ≡ (open_channel name).channel
unfolding open_face open_channel
opened_numbers name =
    choose (λ (o : Opened). channel_in (numbers_of o.channel) ≡ o.channel) (well_named name)
    (λ e. ap seen_as (load_saved (fresh name) (omega arith) (name_fits_lem name e) (fresh_fit name)))
    (λ e. ap seen_as (load_saved (fresh []) (omega arith) (omega arith) (fresh_fit [])))

pub demand3_of_the_face : Demand3OfTheFace
demand3_of_the_face name calls last run =
    demand3 (List ℕ) channel_in name (open_face name).channel last calls (opened_numbers name) (each_meets run)
