-- A recognizer's states and queue by table: for each state and method what is answered and what the channel becomes, how a RECOGNIZE is judged,
-- and what an engine report says and leaves, in each state and with each cause. Assumes nothing.
use Prim.Native.Nat.{ℕ}
use Prim.Native.String.{String}
use mathlib.Core.Path.{◌≡◌, refl}
use mathlib.Core.Option.{none}
use mathlib.Core.List.{List, [], ◌∷◌, map}
use Rattle.std.specs.Prelude.{Some}
use Rattle.octets.specs.Octets.{bytes}
use Rattle.message.specs.Message.{event, Field, good, Message}
use Rattle.message.specs.declared.RequestState.TheVariants.{Pending, InProgress, Complete}
use Rattle.synth.specs.Channel.{View}
use Rattle.synth.specs.Request.{Request}
use Rattle.synth.specs.Calls.{Reply}
use Rattle.synth.specs.declared.State.{State}
use Rattle.synth.specs.declared.State.TheVariants.{Idle, Recognizing, Recognized}
use Rattle.synth.specs.declared.Method.{Method}
use Rattle.synth.specs.declared.Entry.{Entry}
use Rattle.synth.proofs.Computed.{channel, killed, beyond, field, judges, replies, leaves, reports, hears_all}
use Rattle.synth.proofs.Theorems.Transitions.{row, on, gives, lists}

-- thresholds of 0.5 and of 1, in millionths
abbrev pub halfway : ℕ
halfway = 500000

abbrev pub whole : ℕ
whole = 1000000

-- the bits of scores of 0.5 and of 1
abbrev pub half : ℕ
half = 1056964608

abbrev pub one : ℕ
one = 1065353216

abbrev pub holding : State → List Entry → View
holding state queue = channel "7f3a@speechrecog" state queue (Some 8)

unfoldable pub idle : View
idle = holding Idle []

unfoldable pub recognizing : View
recognizing = holding Recognizing (beyond halfway 7 ∷ killed 8 ∷ [])

unfoldable pub recognized : View
recognized = holding Recognized []

pub full : View
full = holding Recognizing (map killed (1 ∷ 2 ∷ 3 ∷ 4 ∷ 5 ∷ 6 ∷ 7 ∷ 8 ∷ []))

abbrev pub asks : Method → List (Field (List ℕ)) → String → Request
asks m fs body =
    record { major = 2; minor = 0; method = m; id = 9; fields = good (field "Channel-Identifier" "7f3a@speechrecog" ∷ fs) (bytes body) }

abbrev pub plain : Method → Request
plain m = asks m [] ""

abbrev pub sized : Field (List ℕ)
sized = field "Content-Length" "2"

abbrev pub typed : Field (List ℕ)
typed = field "Content-Type" "application/srgs+xml"

-- a RECOGNIZE with these fields more
unfoldable pub recognizes : List (Field (List ℕ)) → Request
recognizes fs = asks Method.Recognize (typed ∷ sized ∷ fs) "Hi"

abbrev pub stops : String → Request
stops list = asks Method.Stop (field "Active-Request-Id-List" list ∷ []) ""

pub while_idle :
    on idle (recognizes [])
    ∷ on idle (plain Method.Stop)
    ∷ on idle (stops "7")
    ∷ on idle (plain Method.StartInputTimers)
    ∷ []
    ≡ gives 200 InProgress none Recognizing (killed 9 ∷ [])
    ∷ gives 200 Complete none Idle []
    ∷ gives 200 Complete none Idle []
    ∷ gives 402 Complete none Idle []
    ∷ []
unfolding idle recognizes row on gives judges
while_idle = refl

pub while_recognizing :
    on recognizing (recognizes [])
    ∷ on recognizing (plain Method.Stop)
    ∷ on recognizing (stops "7")
    ∷ on recognizing (stops "8")
    ∷ on recognizing (stops "8,5,7")
    ∷ on recognizing (stops "5")
    ∷ on recognizing (plain Method.StartInputTimers)
    ∷ []
    ≡ gives 200 Pending none Recognizing (beyond halfway 7 ∷ killed 8 ∷ killed 9 ∷ [])
    ∷ gives 200 Complete (lists "7,8") Idle []
    ∷ gives 200 Complete (lists "7") Recognizing (killed 8 ∷ [])
    ∷ gives 200 Complete (lists "8") Recognizing (beyond halfway 7 ∷ [])
    ∷ gives 200 Complete (lists "7,8") Idle []
    ∷ gives 200 Complete none Recognizing (beyond halfway 7 ∷ killed 8 ∷ [])
    ∷ gives 200 Complete none Recognizing (beyond halfway 7 ∷ killed 8 ∷ [])
    ∷ []
unfolding recognizing recognizes row on gives lists judges
while_recognizing = refl

pub while_recognized :
    on recognized (recognizes [])
    ∷ on recognized (plain Method.Stop)
    ∷ on recognized (stops "7")
    ∷ on recognized (plain Method.StartInputTimers)
    ∷ []
    ≡ gives 200 InProgress none Recognizing (killed 9 ∷ [])
    ∷ gives 200 Complete none Idle []
    ∷ gives 200 Complete none Idle []
    ∷ gives 402 Complete none Recognized []
    ∷ []
unfolding recognized recognizes row on gives judges
while_recognized = refl

-- settings: in every state, and state and queue stay
pub anywhere :
    on idle (asks Method.SetParams (field "Confidence-Threshold" "1" ∷ []) "")
    ∷ on idle (plain Method.GetParams)
    ∷ on recognizing (asks Method.SetParams (field "Confidence-Threshold" "1" ∷ []) "")
    ∷ on recognizing (plain Method.GetParams)
    ∷ on recognized (asks Method.SetParams (field "Confidence-Threshold" "1" ∷ []) "")
    ∷ on recognized (plain Method.GetParams)
    ∷ []
    ≡ gives 200 Complete none Idle []
    ∷ gives 200 Complete none Idle []
    ∷ gives 200 Complete none Recognizing (beyond halfway 7 ∷ killed 8 ∷ [])
    ∷ gives 200 Complete none Recognizing (beyond halfway 7 ∷ killed 8 ∷ [])
    ∷ gives 200 Complete none Recognized []
    ∷ gives 200 Complete none Recognized []
    ∷ []
unfolding idle recognizing recognized row on gives judges
anywhere = refl

-- exactly eight are too many for one more, and that is judged last
pub with_eight :
    on (holding Recognizing (map killed (1 ∷ 2 ∷ 3 ∷ 4 ∷ 5 ∷ 6 ∷ 7 ∷ []))) (recognizes [])
    ∷ on full (recognizes [])
    ∷ on full (asks Method.Recognize (field "Content-Type" "text/plain" ∷ sized ∷ []) "Hi")
    ∷ on full (plain Method.StartInputTimers)
    ∷ []
    ≡ gives 200 Pending none Recognizing (map killed (1 ∷ 2 ∷ 3 ∷ 4 ∷ 5 ∷ 6 ∷ 7 ∷ 9 ∷ []))
    ∷ gives 407 Complete none Recognizing (map killed (1 ∷ 2 ∷ 3 ∷ 4 ∷ 5 ∷ 6 ∷ 7 ∷ 8 ∷ []))
    ∷ gives 409 Complete none Recognizing (map killed (1 ∷ 2 ∷ 3 ∷ 4 ∷ 5 ∷ 6 ∷ 7 ∷ 8 ∷ []))
    ∷ gives 200 Complete none Recognizing (map killed (1 ∷ 2 ∷ 3 ∷ 4 ∷ 5 ∷ 6 ∷ 7 ∷ 8 ∷ []))
    ∷ []
unfolding full recognizes row on gives judges
with_eight = refl

-- length, type and body, as SPEAK wants them; and the fields that are ignored in it
pub judged :
    on idle (asks Method.Recognize (typed ∷ []) "Hi")
    ∷ on idle (asks Method.Recognize (sized ∷ []) "Hi")
    ∷ on idle (asks Method.Recognize (typed ∷ field "Content-Length" "0" ∷ []) "")
    ∷ on idle (asks Method.Recognize (field "Content-Type" "application/ssml+xml" ∷ sized ∷ []) "Hi")
    ∷ on idle (asks Method.Recognize (field "Content-Type" "text/plain" ∷ sized ∷ []) "Hi")
    ∷ on idle (asks Method.Recognize (field "Content-Type" "application/srgs+xml;" ∷ sized ∷ []) "Hi")
    ∷ on idle (asks Method.Recognize (field "Content-Type" "Application/SRGS+XML" ∷ sized ∷ []) "Hi")
    ∷ on idle (asks Method.Recognize (field "Content-Type" "text/uri-list" ∷ sized ∷ []) "Hi")
    ∷ on idle (recognizes (field "Confidence-Threshold" "x" ∷ []))
    ∷ on idle (recognizes (field "Kill-On-Barge-In" "x" ∷ []))
    ∷ on idle (recognizes (field "Cancel-If-Queue" "true" ∷ []))
    ∷ on idle (recognizes (field "Logging-Tag" "a" ∷ []))
    ∷ []
    ≡ gives 406 Complete none Idle []
    ∷ gives 406 Complete none Idle []
    ∷ gives 408 Complete none Idle []
    ∷ gives 409 Complete none Idle []
    ∷ gives 409 Complete none Idle []
    ∷ gives 409 Complete none Idle []
    ∷ gives 200 InProgress none Recognizing (killed 9 ∷ [])
    ∷ gives 200 InProgress none Recognizing (killed 9 ∷ [])
    ∷ gives 404 Complete none Idle []
    ∷ gives 201 InProgress none Recognizing (killed 9 ∷ [])
    ∷ gives 201 InProgress none Recognizing (killed 9 ∷ [])
    ∷ gives 200 InProgress none Recognizing (killed 9 ∷ [])
    ∷ []
unfolding idle recognizes row on gives judges
judged = refl

-- ---- engine reports: the number, the messages read from what was written, and the channel's state and queue afterwards
pub record Report : Type 0 where
  pub number : ℕ
  pub says : List Message
  pub state : State
  pub queue : List Entry

abbrev pub number_in : List Reply → ℕ
number_in [] = 0
number_in (r ∷ rs) = r.number

abbrev pub written_in : List Reply → List ℕ
written_in [] = []
written_in (r ∷ rs) = r.written

unfoldable pub reported : View → ℕ → ℕ → Report
unfolding leaves replies hears_all
reported v cause score =
    let rs : List Reply = replies v (reports cause score ∷ []) in
    let next : View = leaves v (reports cause score ∷ []) in
    record { number = number_in rs; says = hears_all (written_in rs); state = next.state; queue = next.queue }

-- the event that ends request id with that cause
unfoldable pub ends : ℕ → String → Message
ends id cause = record {
  start = event (bytes "RECOGNITION-COMPLETE") id Complete;
  fields = field "Channel-Identifier" "7f3a@speechrecog" ∷ field "Completion-Cause" cause ∷ [];
  body = [];
}

unfoldable pub leaving : State → List Entry → List Message → Report
leaving state queue says = record { number = 0; says = says; state = state; queue = queue }

unfoldable pub refusing : ℕ → View → Report
refusing number v = record { number = number; says = []; state = v.state; queue = v.queue }

-- 000 and 008 have the next one recognized
abbrev pub next_after : String → Report
next_after cause = leaving Recognizing (killed 8 ∷ []) (ends 7 cause ∷ [])

-- any other ends the waiting one too
abbrev pub all_after : String → Report
all_after cause = leaving Recognized [] (ends 7 cause ∷ ends 8 "011 cancelled" ∷ [])

pub by_cause :
    map (λ cause. reported recognizing cause one) (0 ∷ 1 ∷ 2 ∷ 3 ∷ 4 ∷ 5 ∷ 6 ∷ 7 ∷ 8 ∷ 9 ∷ 10 ∷ 11 ∷ 12 ∷ 13 ∷ 14 ∷ 15 ∷ 16 ∷ [])
    ≡ next_after "000 success"
    ∷ all_after "001 no-match"
    ∷ all_after "002 no-input-timeout"
    ∷ all_after "003 hotword-maxtime"
    ∷ all_after "004 grammar-load-failure"
    ∷ all_after "005 grammar-compilation-failure"
    ∷ all_after "006 recognizer-error"
    ∷ all_after "007 speech-too-early"
    ∷ next_after "008 success-maxtime"
    ∷ all_after "009 uri-failure"
    ∷ all_after "010 language-unsupported"
    ∷ all_after "011 cancelled"
    ∷ all_after "012 semantics-failure"
    ∷ all_after "013 partial-match"
    ∷ all_after "014 partial-match-maxtime"
    ∷ all_after "015 no-match-maxtime"
    ∷ refusing 9 recognizing
    ∷ []
unfolding recognizing reported ends leaving refusing
by_cause = refl

-- three waiting ones end in queue order; the last one leaves the channel recognized, whatever the cause
pub in_queue_order :
    reported (holding Recognizing (map killed (2 ∷ 3 ∷ 5 ∷ 8 ∷ []))) 6 one
    ∷ reported (holding Recognizing (map killed (2 ∷ 3 ∷ 5 ∷ 8 ∷ []))) 0 one
    ∷ reported (holding Recognizing (map killed (8 ∷ []))) 0 one
    ∷ reported (holding Recognizing (map killed (8 ∷ []))) 8 one
    ∷ reported (holding Recognizing (map killed (8 ∷ []))) 15 one
    ∷ []
    ≡ leaving Recognized [] (ends 2 "006 recognizer-error" ∷ ends 3 "011 cancelled" ∷ ends 5 "011 cancelled" ∷ ends 8 "011 cancelled" ∷ [])
    ∷ leaving Recognizing (map killed (3 ∷ 5 ∷ 8 ∷ [])) (ends 2 "000 success" ∷ [])
    ∷ leaving Recognized [] (ends 8 "000 success" ∷ [])
    ∷ leaving Recognized [] (ends 8 "008 success-maxtime" ∷ [])
    ∷ leaving Recognized [] (ends 8 "015 no-match-maxtime" ∷ [])
    ∷ []
unfolding reported ends leaving
in_queue_order = refl

-- 21 before 9, 9 before 8; 8 outside recognizing
pub refused_reports :
    reported idle 0 one
    ∷ reported idle 16 one
    ∷ reported recognized 0 one
    ∷ reported recognized 16 one
    ∷ reported (holding Recognized (killed 7 ∷ [])) 16 one
    ∷ []
    ≡ refusing 8 idle
    ∷ refusing 9 idle
    ∷ refusing 8 recognized
    ∷ refusing 9 recognized
    ∷ refusing 21 (holding Recognized (killed 7 ∷ []))
    ∷ []
unfolding idle recognized reported refusing
refused_reports = refl
