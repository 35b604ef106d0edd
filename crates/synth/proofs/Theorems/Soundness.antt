-- A channel that opening gives with number 0 is sound, and one that it refuses is not; every call on a sound channel leaves a sound one; a call that
-- returns another number than 0 writes nothing and leaves the channel as it was. Opening and soundness by table. Assumes nothing.
use mathlib.Core.Path.{◌≡◌, refl}
use mathlib.Core.Bool.{Bool, true, false}
use mathlib.Core.List.{List, [], ◌∷◌, map}
use mathlib.Core.Logic.{⊎_elim}
use Prim.Native.Nat.{ℕ}
use Prim.Native.String.{String}
use native.Mathlib.Omega.{arith}
use lib.Dec.{eqb}
use Rattle.std.specs.Prelude.{Option, Some, None}
use Rattle.lists.proofs.Tests.{choose}
use Rattle.octets.specs.Octets.{bytes}
use Rattle.synth.specs.Kinds.{kind_of}
use Rattle.synth.specs.Channel.{View, kind, fresh, well_named, shaped, are_editions, sound}
use Rattle.synth.specs.Calls.{Call, Opened, call, open_channel}
use Rattle.synth.specs.declared.State.{State}
use Rattle.synth.specs.declared.State.TheVariants.{Idle, Speaking, Paused, Recognizing, Recognized}
use Rattle.synth.proofs.Computed.{channel, killed}
use Rattle.synth.proofs.Channels.{facts_sound}
use Rattle.synth.proofs.Editions.{unset_alone}
use Rattle.synth.proofs.Methods.{idle_ours}
use Rattle.synth.proofs.Turns.{call_law}

pub opened_sound : (name : List ℕ) → sound (open_channel name).channel ≡ eqb (open_channel name).number 0
unfolding open_channel
opened_sound name =
    choose (λ (o : Opened). sound o.channel ≡ eqb o.number 0) (well_named name)
    (λ e. facts_sound (fresh name) (record {
      named = e;
      state_ours = idle_ours (kind (fresh name));
      busy_held = refl;
      unseen = refl;
      few = omega arith;
      rising = omega arith;
      in_range_lem = omega arith;
      editions_fit = unset_alone (kind (fresh name));
      thresholds_fit = refl;
    }))
    (λ e. empty_name)
  where
    empty_name : sound (fresh []) ≡ false
    empty_name = unfold sound shaped well_named kind_of in refl

pub call_sound : (v : View) (c : Call) → sound v ≡ true → sound (call v c).next ≡ true
call_sound v c s = ⊎_elim {C = sound (call v c).next ≡ true} (λ h. rw h.kept s) (λ h. h.stays_sound) (call_law v c).does

pub refused_keeps : (v : View) (c : Call) → ((call v c).reply.number ≡ 0 → ⊥) → ((call v c).reply.written ≡ []) × ((call v c).next ≡ v)
refused_keeps v c n = ⊎_elim {C = ((call v c).reply.written ≡ []) × ((call v c).next ≡ v)} (λ h. (h.silent, h.kept)) (λ h. absurd (n h.number)) (call_law v c).does

pub named : State → List ℕ → Option ℕ → Bool
named state ids last = sound (channel "7f3a@speechsynth" state (map killed ids) last)

pub recognizer : State → List ℕ → Option ℕ → Bool
recognizer state ids last = sound (channel "7f3a@speechrecog" state (map killed ids) last)

pub sixteen : List ℕ
sixteen = 1 ∷ 2 ∷ 3 ∷ 4 ∷ 5 ∷ 6 ∷ 7 ∷ 8 ∷ 9 ∷ 10 ∷ 11 ∷ 12 ∷ 13 ∷ 14 ∷ 15 ∷ 16 ∷ []

pub soundness :
    named Idle [] None
    ∷ named Idle [] (Some 8)
    ∷ named Speaking (7 ∷ 9 ∷ []) (Some 9)
    ∷ named Paused (0 ∷ []) (Some 4294967295)
    ∷ named Speaking sixteen (Some 16)
    ∷ named Idle (7 ∷ []) (Some 8)  -- idle, and one outstanding
    ∷ named Paused [] (Some 8)  -- not idle, and none
    ∷ named Speaking (0 ∷ sixteen) (Some 16)  -- seventeen
    ∷ named Speaking (7 ∷ 7 ∷ []) (Some 8)  -- ids that do not rise
    ∷ named Speaking (8 ∷ 7 ∷ []) (Some 8)
    ∷ named Speaking (9 ∷ []) (Some 8)  -- above the last one seen
    ∷ named Speaking (0 ∷ []) None  -- none seen
    ∷ named Idle [] (Some 4294967296)  -- no request-id
    ∷ named Recognizing (7 ∷ []) (Some 8)  -- states of the other kind
    ∷ named Recognized [] (Some 8)
    ∷ sound (channel "" Idle [] None)
    ∷ []
    ≡ true ∷ true ∷ true ∷ true ∷ true ∷ false ∷ false ∷ false ∷ false ∷ false ∷ false ∷ false ∷ false ∷ false ∷ false ∷ false ∷ []
unfolding named sixteen sound shaped are_editions well_named kind_of
soundness = refl

pub eight : List ℕ
eight = 1 ∷ 2 ∷ 3 ∷ 4 ∷ 5 ∷ 6 ∷ 7 ∷ 8 ∷ []

pub soundness_of_a_recognizer :
    recognizer Idle [] None
    ∷ recognizer Idle [] (Some 8)
    ∷ recognizer Recognizing (7 ∷ 9 ∷ []) (Some 9)
    ∷ recognizer Recognizing eight (Some 8)
    ∷ recognizer Recognized [] (Some 8)
    ∷ recognizer Recognizing (0 ∷ eight) (Some 8)  -- nine
    ∷ recognizer Recognizing [] (Some 8)  -- recognizing, and none outstanding
    ∷ recognizer Idle (7 ∷ []) (Some 8)  -- one outstanding, and not recognizing
    ∷ recognizer Recognized (7 ∷ []) (Some 8)
    ∷ recognizer Recognized [] None  -- none seen, and not idle
    ∷ recognizer Recognizing (7 ∷ 7 ∷ []) (Some 8)  -- ids that do not rise
    ∷ recognizer Recognizing (9 ∷ []) (Some 8)  -- above the last one seen
    ∷ recognizer Speaking (7 ∷ []) (Some 8)  -- states of the other kind
    ∷ recognizer Paused (7 ∷ []) (Some 8)
    ∷ []
    ≡ true ∷ true ∷ true ∷ true ∷ true ∷ false ∷ false ∷ false ∷ false ∷ false ∷ false ∷ false ∷ false ∷ false ∷ []
unfolding recognizer eight sound shaped are_editions well_named kind_of
soundness_of_a_recognizer = refl

pub opens : String → Opened
opens name = open_channel (bytes name)

pub gives : ℕ → String → Opened
gives number name = record { number = number; channel = channel name Idle [] None }

pub openings :
    opens "7f3a@speechsynth"
    ∷ opens "Abcdefghijklmnopqrstuvwxyz012345@speechsynth"  -- 32 letters or digits
    ∷ opens "Abcdefghijklmnopqrstuvwxyz0123456@speechsynth"  -- 33
    ∷ opens "@speechsynth"  -- none
    ∷ opens "7f-3@speechsynth"
    ∷ opens "7f3a@SPEECHSYNTH"
    ∷ opens "7f3a@speechsynth "
    ∷ opens "7f3a@speechrecog"
    ∷ opens "Abcdefghijklmnopqrstuvwxyz012345@speechrecog"
    ∷ opens "Abcdefghijklmnopqrstuvwxyz0123456@speechrecog"
    ∷ opens "@speechrecog"
    ∷ opens "7f3a@speechsynth@speechrecog"
    ∷ opens "7f3a@speechRecog"
    ∷ []
    ≡ gives 0 "7f3a@speechsynth"
    ∷ gives 0 "Abcdefghijklmnopqrstuvwxyz012345@speechsynth"
    ∷ gives 10 ""
    ∷ gives 10 ""
    ∷ gives 10 ""
    ∷ gives 10 ""
    ∷ gives 10 ""
    ∷ gives 0 "7f3a@speechrecog"
    ∷ gives 0 "Abcdefghijklmnopqrstuvwxyz012345@speechrecog"
    ∷ gives 10 ""
    ∷ gives 10 ""
    ∷ gives 10 ""
    ∷ gives 10 ""
    ∷ []
unfolding opens gives open_channel well_named kind_of
openings = refl
