-- States and queue by table: for each state and method what is answered and what the channel becomes, and what an engine report does in
-- each state. Assumes nothing.
use Prim.Native.Nat.{ℕ}
use Prim.Native.String.{String}
use mathlib.Core.Path.{◌≡◌, refl}
use mathlib.Core.Option.{Option, none, some}
use mathlib.Core.List.{List, [], ◌∷◌, map}
use Rattle.std.specs.Prelude.{Some}
use Rattle.octets.specs.Octets.{bytes}
use Rattle.message.specs.Message.{Start, request, response, event, Field, good, Message}
use Rattle.message.specs.declared.RequestState.{RequestState}
use Rattle.message.specs.declared.RequestState.TheVariants.{Pending, InProgress, Complete}
use Rattle.message.specs.Known.{value_of}
use Rattle.message.specs.declared.Known.TheVariants.{ActiveRequestIdList}
use Rattle.synth.specs.Channel.{View}
use Rattle.synth.specs.Request.{Request, method_of}
use Rattle.synth.specs.States.{Outcome}
use Rattle.synth.specs.Calls.{Reply}
use Rattle.synth.specs.declared.State.{State}
use Rattle.synth.specs.declared.State.TheVariants.{Idle, Speaking, Paused}
use Rattle.synth.specs.declared.Method.{Method}
use Rattle.synth.specs.declared.Entry.{Entry}
use Rattle.synth.proofs.Computed.{channel, killed, spared, field, status_of, judges, replies, leaves, reports}

abbrev pub holding : State → List Entry → View
holding state queue = channel "7f3a@speechsynth" state queue (Some 8)

pub idle : View
idle = holding Idle []

pub speaking : View
speaking = holding Speaking (killed 7 ∷ spared 8 ∷ [])

pub paused : View
paused = holding Paused (killed 7 ∷ spared 8 ∷ [])

abbrev pub asks : Method → List (Field (List ℕ)) → String → Request
asks m fs body =
    record { major = 2; minor = 0; method = m; id = 9; fields = good (field "Channel-Identifier" "7f3a@speechsynth" ∷ fs) (bytes body) }

abbrev pub plain : Method → Request
plain m = asks m [] ""

pub speak : Request
speak = asks Method.Speak (field "Content-Type" "text/plain" ∷ field "Content-Length" "2" ∷ []) "Hi"

pub sparing : Request
sparing = asks Method.Speak (field "Content-Type" "text/plain" ∷ field "Content-Length" "2" ∷ field "Kill-On-Barge-In" "false" ∷ []) "Hi"

abbrev pub stops : String → Request
stops list = asks Method.Stop (field "Active-Request-Id-List" list ∷ []) ""

pub methods : List Method
methods = map (λ (name : String). method_of (bytes name)) ("SPEAK" ∷ "STOP" ∷ "PAUSE" ∷ "RESUME" ∷ "CONTROL" ∷ "BARGE-IN-OCCURRED" ∷ "LISTEN" ∷ "Stop" ∷ [])

pub method_names :
    methods
    ≡ Method.Speak ∷ Method.Stop ∷ Method.Pause ∷ Method.Resume ∷ Method.Control ∷ Method.BargeInOccurred ∷ Method.Unknown ∷ Method.Unknown ∷ []
unfolding methods method_of
method_names = refl

-- what is answered, the list field where there is one, and the channel's state and queue afterwards
pub record Row : Type 0 where
  pub status : ℕ
  pub progress : Option RequestState
  pub listed : Option (List ℕ)
  pub state : State
  pub queue : List Entry

abbrev pub progress_of : Start (List ℕ) → Option RequestState
progress_of (request name id) = none
progress_of (response id status state) = some state
progress_of (event name id state) = none

-- one message is said, and no more
abbrev pub answered : List Message → State → List Entry → Row
answered [] state queue = record { status = 0; progress = none; listed = none; state = state; queue = queue }
answered (m ∷ []) state queue = record {
  status = status_of m.start;
  progress = progress_of m.start;
  listed = value_of ActiveRequestIdList m.fields;
  state = state;
  queue = queue;
}
answered (m ∷ n ∷ ms) state queue = record { status = 0; progress = none; listed = none; state = state; queue = queue }

unfoldable pub row : Outcome → Row
unfolding value_of Rattle.message.specs.Known.known_of
row o = answered o.says o.next.state o.next.queue

unfoldable pub on : View → Request → Row
on v r = row (judges v r)

unfoldable pub gives : ℕ → RequestState → Option (List ℕ) → State → List Entry → Row
gives status progress listed state queue =
    record { status = status; progress = some progress; listed = listed; state = state; queue = queue }

unfoldable pub lists : String → Option (List ℕ)
lists text = some (bytes text)

pub while_idle :
    on idle speak
    ∷ on idle sparing
    ∷ on idle (plain Method.Stop)
    ∷ on idle (stops "7")
    ∷ on idle (plain Method.Pause)
    ∷ on idle (plain Method.Resume)
    ∷ on idle (plain Method.Control)
    ∷ on idle (plain Method.BargeInOccurred)
    ∷ []
    ≡ gives 200 InProgress none Speaking (killed 9 ∷ [])
    ∷ gives 200 InProgress none Speaking (spared 9 ∷ [])
    ∷ gives 200 Complete none Idle []
    ∷ gives 200 Complete none Idle []
    ∷ gives 402 Complete none Idle []
    ∷ gives 402 Complete none Idle []
    ∷ gives 402 Complete none Idle []
    ∷ gives 200 Complete none Idle []
    ∷ []
unfolding idle speak sparing row on gives judges
while_idle = refl

pub while_speaking :
    on speaking speak
    ∷ on speaking sparing
    ∷ on speaking (plain Method.Stop)
    ∷ on speaking (stops "7")
    ∷ on speaking (stops "8")
    ∷ on speaking (stops "8,5,7")
    ∷ on speaking (stops "5")
    ∷ on speaking (plain Method.Pause)
    ∷ on speaking (plain Method.Resume)
    ∷ on speaking (plain Method.Control)
    ∷ on speaking (plain Method.BargeInOccurred)
    ∷ on (holding Speaking (spared 7 ∷ killed 8 ∷ [])) (plain Method.BargeInOccurred)
    ∷ []
    ≡ gives 200 Pending none Speaking (killed 7 ∷ spared 8 ∷ killed 9 ∷ [])
    ∷ gives 200 Pending none Speaking (killed 7 ∷ spared 8 ∷ spared 9 ∷ [])
    ∷ gives 200 Complete (lists "7,8") Idle []
    ∷ gives 200 Complete (lists "7") Speaking (spared 8 ∷ [])
    ∷ gives 200 Complete (lists "8") Speaking (killed 7 ∷ [])
    ∷ gives 200 Complete (lists "7,8") Idle []
    ∷ gives 200 Complete none Speaking (killed 7 ∷ spared 8 ∷ [])
    ∷ gives 200 Complete (lists "7") Paused (killed 7 ∷ spared 8 ∷ [])
    ∷ gives 200 Complete none Speaking (killed 7 ∷ spared 8 ∷ [])
    ∷ gives 200 Complete (lists "7") Speaking (killed 7 ∷ spared 8 ∷ [])
    ∷ gives 200 Complete (lists "7,8") Idle []
    ∷ gives 200 Complete none Speaking (spared 7 ∷ killed 8 ∷ [])
    ∷ []
unfolding speaking speak sparing row on gives lists judges
while_speaking = refl

pub while_paused :
    on paused speak
    ∷ on paused sparing
    ∷ on paused (plain Method.Stop)
    ∷ on paused (stops "7")
    ∷ on paused (stops "8")
    ∷ on paused (stops "8,5,7")
    ∷ on paused (stops "5")
    ∷ on paused (plain Method.Pause)
    ∷ on paused (plain Method.Resume)
    ∷ on paused (plain Method.Control)
    ∷ on paused (plain Method.BargeInOccurred)
    ∷ on (holding Paused (spared 7 ∷ killed 8 ∷ [])) (plain Method.BargeInOccurred)
    ∷ []
    ≡ gives 200 Pending none Paused (killed 7 ∷ spared 8 ∷ killed 9 ∷ [])
    ∷ gives 200 Pending none Paused (killed 7 ∷ spared 8 ∷ spared 9 ∷ [])
    ∷ gives 200 Complete (lists "7,8") Idle []
    ∷ gives 200 Complete (lists "7") Paused (spared 8 ∷ [])
    ∷ gives 200 Complete (lists "8") Paused (killed 7 ∷ [])
    ∷ gives 200 Complete (lists "7,8") Idle []
    ∷ gives 200 Complete none Paused (killed 7 ∷ spared 8 ∷ [])
    ∷ gives 200 Complete (lists "7") Paused (killed 7 ∷ spared 8 ∷ [])
    ∷ gives 200 Complete (lists "7") Speaking (killed 7 ∷ spared 8 ∷ [])
    ∷ gives 200 Complete (lists "7") Paused (killed 7 ∷ spared 8 ∷ [])
    ∷ gives 200 Complete (lists "7,8") Idle []
    ∷ gives 200 Complete none Paused (spared 7 ∷ killed 8 ∷ [])
    ∷ []
unfolding paused speak sparing row on gives lists judges
while_paused = refl

-- settings: in every state, and state and queue stay
pub anywhere :
    on idle (asks Method.SetParams (field "Kill-On-Barge-In" "false" ∷ []) "")
    ∷ on idle (plain Method.GetParams)
    ∷ on speaking (asks Method.SetParams (field "Kill-On-Barge-In" "false" ∷ []) "")
    ∷ on speaking (plain Method.GetParams)
    ∷ on paused (asks Method.SetParams (field "Kill-On-Barge-In" "false" ∷ []) "")
    ∷ on paused (plain Method.GetParams)
    ∷ []
    ≡ gives 200 Complete none Idle []
    ∷ gives 200 Complete none Idle []
    ∷ gives 200 Complete none Speaking (killed 7 ∷ spared 8 ∷ [])
    ∷ gives 200 Complete none Speaking (killed 7 ∷ spared 8 ∷ [])
    ∷ gives 200 Complete none Paused (killed 7 ∷ spared 8 ∷ [])
    ∷ gives 200 Complete none Paused (killed 7 ∷ spared 8 ∷ [])
    ∷ []
unfolding idle speaking paused row on gives judges
anywhere = refl

-- an engine report: its number, and the channel's state and queue afterwards
pub record Report : Type 0 where
  pub number : ℕ
  pub state : State
  pub queue : List Entry

abbrev pub number_in : List Reply → ℕ
number_in [] = 0
number_in (r ∷ rs) = r.number

pub reported : View → ℕ → Report
unfolding leaves
reported v cause =
    let next : View = leaves v (reports cause 0 ∷ []) in
    record { number = number_in (replies v (reports cause 0 ∷ [])); state = next.state; queue = next.queue }

pub ◌leaves◌with◌ : ℕ → State → List Entry → Report
◌leaves◌with◌ number state queue = record { number = number; state = state; queue = queue }

infix 20 ◌leaves◌with◌
-- 21 before 9, 9 before 8
pub on_report :
    reported speaking 0
    ∷ reported (holding Speaking (spared 8 ∷ [])) 7
    ∷ reported speaking 8
    ∷ reported paused 0
    ∷ reported paused 8
    ∷ reported idle 7
    ∷ reported idle 8
    ∷ reported (holding Idle (killed 7 ∷ [])) 8
    ∷ []
    ≡ (0 leaves Speaking with (spared 8 ∷ []))
    ∷ (0 leaves Idle with [])
    ∷ (9 leaves Speaking with (killed 7 ∷ spared 8 ∷ []))
    ∷ (8 leaves Paused with (killed 7 ∷ spared 8 ∷ []))
    ∷ (9 leaves Paused with (killed 7 ∷ spared 8 ∷ []))
    ∷ (8 leaves Idle with [])
    ∷ (9 leaves Idle with [])
    ∷ (21 leaves Idle with (killed 7 ∷ []))
    ∷ []
unfolding idle speaking paused reported replies leaves ◌leaves◌with◌
on_report = refl
