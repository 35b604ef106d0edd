-- Fields that go on, in whole messages, computed: the status for each acting field with folds at the ends of its value
-- and inside, for other fields, and for blocks; and what such values leave. Assumes nothing.
use Prim.Native.Nat.{ℕ, ◌+◌}
use Prim.Native.String.{String}
use mathlib.Core.Path.{◌≡◌, refl}
use mathlib.Core.Bool.{false}
use mathlib.Core.List.{List, [], ◌∷◌, ◌++◌, map}
use lib.ListN.{length}
use Rattle.std.specs.Prelude.{Some}
use Rattle.octets.specs.Octets.{bytes, crlf}
use Rattle.writers.specs.Decimal.{digits, digits_within}
use Rattle.writers.specs.SelfLength.{self_length}
use Rattle.synth.specs.Settings.{edition, unset}
use Rattle.synth.specs.Channel.{View}
use Rattle.synth.specs.Calls.{Call, input}
use Rattle.synth.specs.declared.State.TheVariants.{Speaking, Recognizing}
use Rattle.synth.specs.declared.Setting.{Setting}
use Rattle.synth.proofs.Computed.{opened, channel, killed, spared, beyond, replies, leaves, hears_bytes}
use Rattle.synth.proofs.Theorems.Readings.{number_or_status}

pub synthesizer : View
synthesizer = opened "7f3a@speechsynth"

pub recognizer : View
recognizer = opened "7f3a@speechrecog"

-- a synthesizer that holds 7 and 8
pub speaking : View
speaking = channel "7f3a@speechsynth" Speaking (map killed (7 ∷ 8 ∷ [])) (Some 8)

abbrev pub text_of : List String → List ℕ
text_of [] = []
text_of (field ∷ fields) = bytes field ++ crlf ++ text_of fields

-- a request: its start line behind the length, its fields, its body
abbrev pub asks : String → List String → String → Call
asks start fields body =
    let rest : List ℕ = bytes " " ++ bytes start ++ crlf ++ text_of fields ++ crlf ++ bytes body in
    record { lent = input (bytes "MRCP/2.0 " ++ digits (self_length (9 + length rest)) ++ rest); room = 305 }

abbrev pub ours : String
ours = "Channel-Identifier:7f3a@speechsynth"

abbrev pub stops : List String → Call
stops fields = asks "STOP 9" fields ""

abbrev pub speaks : List String → Call
speaks fields = asks "SPEAK 9" (ours ∷ fields) "Hi"

abbrev pub recognizes : String → Call
recognizes field =
    asks "RECOGNIZE 9"
    ("Channel-Identifier:7f3a@speechrecog" ∷ "Content-Type:text/uri-list" ∷ "Content-Length:2" ∷ field ∷ []) "Hi"

abbrev pub typed : String
typed = "Content-Type:text/plain"

abbrev pub sized : String
sized = "Content-Length:2"

pub on : View → Call → ℕ
on v call = number_or_status (replies v (call ∷ []))

pub folded :
    on synthesizer (stops ("Channel-Identifier:\r\n 7f3a@speechsynth\r\n " ∷ []))  -- a channel's name
    ∷ on synthesizer (stops ("Channel-Identifier:7f3a\r\n @speechsynth" ∷ []))  -- reads `7f3a @speechsynth`
    ∷ on synthesizer (speaks (typed ∷ "Content-Length:\r\n\t2" ∷ []))  -- a length
    ∷ on synthesizer (speaks (typed ∷ "Content-Length:0\r\n 2" ∷ []))  -- reads `0 2`
    ∷ on synthesizer (speaks ("Content-Type:\r\n text/plain \r\n " ∷ sized ∷ []))  -- a type
    ∷ on synthesizer (speaks ("Content-Type:text/\r\n plain" ∷ sized ∷ []))  -- reads `text/ plain`
    ∷ on synthesizer (speaks (typed ∷ sized ∷ "Kill-On-Barge-In: \r\n \tfalse\r\n\t" ∷ []))  -- a flag
    ∷ on synthesizer (speaks (typed ∷ sized ∷ "Kill-On-Barge-In:fal\r\n se" ∷ []))  -- reads `fal se`
    ∷ on speaking (stops (ours ∷ "Active-Request-Id-List:\r\n 7,8\r\n " ∷ []))  -- a list of ids
    ∷ on speaking (stops (ours ∷ "Active-Request-Id-List:7,\r\n 8" ∷ []))  -- reads `7, 8`
    ∷ on recognizer (recognizes "Confidence-Threshold:\r\n 0.5")  -- a level
    ∷ on recognizer (recognizes "Confidence-Threshold:0.\r\n 5")  -- reads `0. 5`
    ∷ on synthesizer (stops (ours ∷ "Logging-Tag:a\r\n b" ∷ []))  -- a field that is never ignored
    ∷ on synthesizer (stops (ours ∷ "Vendor:a\r\n b\r\n c" ∷ []))  -- and one that is
    ∷ on synthesizer (stops (ours ∷ " \t" ∷ []))  -- a line of blanks alone goes on
    ∷ on synthesizer (stops ("Vendor:a" ∷ " Channel-Identifier:7f3a@speechsynth" ∷ []))  -- no field of its own
    ∷ on synthesizer (stops (" a" ∷ ours ∷ []))  -- a continued line before any field
    ∷ on synthesizer (stops (ours ∷ "Vendor\r\n :a" ∷ []))  -- a fold behind a name
    ∷ on synthesizer (stops (ours ∷ "Vendor:a\r\n \u{1}" ∷ []))  -- no value byte
    ∷ on synthesizer (asks "SPEAK 9" (ours ∷ typed ∷ "Content-Length:3\r\n " ∷ []) " Hi")  -- a body from a blank
    ∷ []
    ≡ 200 ∷ 405 ∷ 200 ∷ 404 ∷ 200 ∷ 409 ∷ 200 ∷ 404 ∷ 200 ∷ 404 ∷ 200 ∷ 404
    ∷ 200 ∷ 201 ∷ 200 ∷ 406 ∷ 404 ∷ 404 ∷ 404 ∷ 200
    ∷ []
unfolding on synthesizer recognizer speaking opened replies hears_bytes digits digits_within self_length
folded = refl

-- a flag, a list of ids and a level, each between folds
pub left :
    leaves synthesizer (speaks (typed ∷ sized ∷ "Kill-On-Barge-In:\r\n false\r\n " ∷ []) ∷ [])
    ∷ leaves speaking (stops (ours ∷ "Active-Request-Id-List:\r\n 7\r\n " ∷ []) ∷ [])
    ∷ leaves recognizer (recognizes "Confidence-Threshold:\r\n 0.5\r\n " ∷ [])
    ∷ []
    ≡ channel "7f3a@speechsynth" Speaking (spared 9 ∷ []) (Some 9)
    ∷ channel "7f3a@speechsynth" Speaking (killed 8 ∷ []) (Some 9)
    ∷ channel "7f3a@speechrecog" Recognizing (beyond 500000 9 ∷ []) (Some 9)
    ∷ []
unfolding synthesizer recognizer speaking opened leaves digits digits_within self_length
left = refl

-- settings: milliseconds and a flag between folds, and a fold inside
abbrev pub sets : List String → Call
sets fields = asks "SET-PARAMS 9" (ours ∷ fields) ""

pub settings_folded :
    on synthesizer (sets ("Fetch-Timeout:\r\n 12\r\n " ∷ []))
    ∷ on synthesizer (sets ("Fetch-Timeout:1\r\n 2" ∷ []))  -- reads `1 2`
    ∷ on synthesizer (sets ("Kill-On-Barge-In:\r\n\tTRUE" ∷ []))
    ∷ on synthesizer (sets ("Kill-On-Barge-In:tr\r\n ue" ∷ []))  -- reads `tr ue`
    ∷ on synthesizer (asks "GET-PARAMS 9" (ours ∷ "Fetch-Timeout:1\r\n 2" ∷ []) "")  -- judges no value
    ∷ []
    ≡ 200 ∷ 404 ∷ 200 ∷ 404 ∷ 200 ∷ []
unfolding on synthesizer opened replies hears_bytes digits digits_within self_length
settings_folded = refl

pub settings_left :
    (leaves synthesizer (sets ("Fetch-Timeout:\r\n 012\r\n " ∷ "Kill-On-Barge-In:\r\n false" ∷ []) ∷ [])).editions
    ≡ edition (Setting.Flag false) (Setting.Millis 12) Setting.Unset Setting.Unset Setting.Unset
    ∷ unset
    ∷ []
unfolding synthesizer opened leaves digits digits_within self_length
settings_left = refl
