-- A lent output of 305 bytes never meets refusal 7, nor one of 1,250 where a recognizer's report is handed in, and a going back needs no output,
-- whatever the channel, the call and its bytes; and neither number can be lowered. Assumes nothing.
use Prim.Native.Nat.{ℕ, ◌≤◌}
use mathlib.Core.Path.{◌≡◌, refl}
use mathlib.Core.List.{List, [], ◌∷◌, map}
use lib.ListN.{length}
use Rattle.std.specs.Prelude.{Some}
use Rattle.octets.specs.Octets.{bytes}
use Rattle.synth.specs.Channel.{View, kind}
use Rattle.synth.specs.Calls.{Lent, input, report, Call, Reply, enough, call}
use Rattle.synth.specs.Levels.{single}
use Rattle.synth.specs.declared.State.TheVariants.{Speaking, Recognizing}
use Rattle.synth.proofs.Computed.{channel, killed, replies}
use Rattle.synth.proofs.Turns.{call_law}

pub never_7 : (v : View) (c : Call) → enough (kind v) c.lent ≤ c.room → (call v c).reply.number ≡ 7 → ⊥
never_7 v c = (call_law v c).roomy

-- ids of ten digits under the longest name, as many as each kind holds
abbrev pub eight : List ℕ
eight = 4294967287 ∷ 4294967288 ∷ 4294967289 ∷ 4294967290 ∷ 4294967291 ∷ 4294967292 ∷ 4294967293 ∷ 4294967294 ∷ []

abbrev pub sixteen : List ℕ
sixteen = 4294967279 ∷ 4294967280 ∷ 4294967281 ∷ 4294967282 ∷ 4294967283 ∷ 4294967284 ∷ 4294967285 ∷ 4294967286 ∷ eight

pub speaking : View
speaking = channel "abcdefghijklmnopqrstuvwxyzabcdef@speechsynth" Speaking (map killed sixteen) (Some 4294967294)

pub recognizing : View
recognizing = channel "abcdefghijklmnopqrstuvwxyzabcdef@speechrecog" Recognizing (map killed eight) (Some 4294967294)

-- all sixteen listed
pub stop : Lent
stop = input (bytes "MRCP/2.0 96 STOP 4294967295\r\nChannel-Identifier:abcdefghijklmnopqrstuvwxyzabcdef@speechsynth\r\n\r\n")

-- the cause with the longest name, and seven cancelled
pub failure : Lent
failure = report 5 (single 0)

-- the number returned and how many bytes were written
pub record Row : Type 0 where
  pub number : ℕ
  pub wrote : ℕ

pub into : View → Lent → ℕ → List Row
into v lent room = map (λ (r : Reply). record { number = r.number; wrote = length r.written }) (replies v (record { lent = lent; room = room } ∷ []))

pub gives : ℕ → ℕ → List Row
gives number wrote = record { number = number; wrote = wrote } ∷ []

pub reached :
    into speaking stop 305
    ∷ into speaking stop 304
    ∷ into recognizing failure 1250
    ∷ into recognizing failure 1249
    ∷ []
    ≡ gives 0 305
    ∷ gives 7 0
    ∷ gives 0 1250
    ∷ gives 7 0
    ∷ []
unfolding speaking recognizing stop failure into gives replies
reached = refl
