-- Examples of RFC 6787 with their lengths worked out, as a reader hears them; and three that the RFC prints wrong. Assumes nothing.
use Prim.Native.Nat.{ℕ}
use Prim.Native.String.{String}
use mathlib.Core.Path.{◌≡◌, refl}
use mathlib.Core.List.{List, [], ◌∷◌}
use Rattle.octets.specs.Octets.{bytes}
use Rattle.message.specs.Message.{Start, request, response, event, Field, bad, good, Reading, refused, message}
use Rattle.message.specs.declared.RequestState.TheVariants.{InProgress, Complete}
use Rattle.synth.proofs.Computed.{hears_bytes, hears}

infix 30 ◌is◌
abbrev pub ◌is◌ : String → String → Field (List ℕ)
◌is◌ name value = record { name = bytes name; value = bytes value }

-- a message of version 2.0
abbrev pub says : ℕ → Start (List ℕ) → List (Field (List ℕ)) → String → Reading (List ℕ)
says stated start fields body = message (record { stated = stated; major = 2; minor = 0 }) start (good fields (bytes body))

pub examples :
    ◌≡◌ {A = List (Reading (List ℕ))}
    (hears "MRCP/2.0 85 543266 200 IN-PROGRESS\r\nChannel-Identifier:32AECB23433801@speechrecog\r\n\r\n"  -- 5.1, its length worked out (printed: 82)
    ∷ hears "MRCP/2.0 119 SET-PARAMS 543256\r\nChannel-Identifier:32AECB23433802@speechsynth\r\nVoice-gender:female\r\nVoice-variant:3\r\n\r\n"  -- 6.1.1
    ∷ hears "MRCP/2.0 82 543256 200 COMPLETE\r\nChannel-Identifier:32AECB23433802@speechsynth\r\n\r\n"  -- 6.1.1
    ∷ hears "MRCP/2.0 179 GET-PARAMS 543256\r\nChannel-Identifier:32AECB23433802@speechsynth\r\nVoice-gender:\r\nVoice-variant:\r\nVendor-Specific-Parameters:com.example.param1; com.example.param2\r\n\r\n"  -- 6.1.2, names without values
    ∷ hears "MRCP/2.0 295 SPEAK 543257\r\nChannel-Identifier:32AECB23433802@speechsynth\r\nVoice-gender:neutral\r\nVoice-Age:25\r\nProsody-volume:medium\r\nContent-Type:application/ssml+xml\r\nContent-Length:105\r\n\r\n<?xml version=\"1.0\"?><speak version=\"1.0\" xml:lang=\"en-US\"><p><s>You have 4 new messages.</s></p></speak>"  -- 8.6, body abridged
    ∷ hears "MRCP/2.0 124 543257 200 IN-PROGRESS\r\nChannel-Identifier:32AECB23433802@speechsynth\r\nSpeech-Marker:timestamp=857206027059\r\n\r\n"  -- 8.6
    ∷ hears "MRCP/2.0 161 SPEAK-COMPLETE 543257 COMPLETE\r\nChannel-Identifier:32AECB23433802@speechsynth\r\nCompletion-Cause:000 normal\r\nSpeech-Marker:timestamp=857206027059\r\n\r\n"  -- 8.6
    ∷ hears "MRCP/2.0 74 STOP 543259\r\nChannel-Identifier:32AECB23433802@speechsynth\r\n\r\n"  -- 8.7
    ∷ hears "MRCP/2.0 152 543259 200 COMPLETE\r\nChannel-Identifier:32AECB23433802@speechsynth\r\nActive-Request-Id-List:543258\r\nSpeech-Marker:timestamp=857206039059\r\n\r\n"  -- 8.7
    ∷ hears "MRCP/2.0 113 BARGE-IN-OCCURRED 543259\r\nChannel-Identifier:32AECB23433802@speechsynth\r\nProxy-Sync-Id:987654321\r\n\r\n"  -- 8.8
    ∷ hears "MRCP/2.0 75 PAUSE 543259\r\nChannel-Identifier:32AECB23433802@speechsynth\r\n\r\n"  -- 8.9
    ∷ hears "MRCP/2.0 76 RESUME 543260\r\nChannel-Identifier:32AECB23433802@speechsynth\r\n\r\n"  -- 8.10
    ∷ hears "MRCP/2.0 96 CONTROL 543259\r\nChannel-Identifier:32AECB23433802@speechsynth\r\nProsody-rate:fast\r\n\r\n"  -- 8.11
    ∷ hears "MRCP/2.0 98 CONTROL 543260\r\nChannel-Identifier:32AECB23433802@speechsynth\r\nJump-Size:-15 Words\r\n\r\n"  -- 8.11
    ∷ hears "MRCP/2.0 139 SPEECH-MARKER 543261 IN-PROGRESS\r\nChannel-Identifier:32AECB23433802@speechsynth\r\nSpeech-Marker:timestamp=857206027059;here\r\n\r\n"  -- 8.13
    ∷ hears "MRCP/2.0 82 543266 200 IN-PROGRESS\r\nChannel-Identifier:32AECB23433801@speechrecog\r\n\r\n"  -- 5.1 as printed: three bytes short, so no empty line
    ∷ hears "MRCP/2.0 124 543258 200 IN-PROGRESS@speechsynth\r\nChannel-Identifier:32AECB23433802\r\nSpeech-Marker:timestamp=857206027059\r\n\r\n"  -- 8.10 as printed: no such state
    ∷ hears "MRCP/2.0 137 INTERPRETATION-COMPLETE 543266 200 COMPLETE\r\nChannel-Identifier:32AECB23433801@speechrecog\r\nCompletion-Cause:000 success\r\n\r\n"  -- 5.1 as printed: an event has no status
    ∷ [])
    (says 85 (response 543266 200 InProgress) (("Channel-Identifier" is "32AECB23433801@speechrecog") ∷ []) ""
    ∷ says 119 (request (bytes "SET-PARAMS") 543256) (("Channel-Identifier" is "32AECB23433802@speechsynth") ∷ ("Voice-gender" is "female") ∷ ("Voice-variant" is "3") ∷ []) ""
    ∷ says 82 (response 543256 200 Complete) (("Channel-Identifier" is "32AECB23433802@speechsynth") ∷ []) ""
    ∷ says 179 (request (bytes "GET-PARAMS") 543256) (("Channel-Identifier" is "32AECB23433802@speechsynth") ∷ ("Voice-gender" is "") ∷ ("Voice-variant" is "") ∷ ("Vendor-Specific-Parameters" is "com.example.param1; com.example.param2") ∷ []) ""
    ∷ says 295 (request (bytes "SPEAK") 543257) (("Channel-Identifier" is "32AECB23433802@speechsynth") ∷ ("Voice-gender" is "neutral") ∷ ("Voice-Age" is "25") ∷ ("Prosody-volume" is "medium") ∷ ("Content-Type" is "application/ssml+xml") ∷ ("Content-Length" is "105") ∷ []) "<?xml version=\"1.0\"?><speak version=\"1.0\" xml:lang=\"en-US\"><p><s>You have 4 new messages.</s></p></speak>"
    ∷ says 124 (response 543257 200 InProgress) (("Channel-Identifier" is "32AECB23433802@speechsynth") ∷ ("Speech-Marker" is "timestamp=857206027059") ∷ []) ""
    ∷ says 161 (event (bytes "SPEAK-COMPLETE") 543257 Complete) (("Channel-Identifier" is "32AECB23433802@speechsynth") ∷ ("Completion-Cause" is "000 normal") ∷ ("Speech-Marker" is "timestamp=857206027059") ∷ []) ""
    ∷ says 74 (request (bytes "STOP") 543259) (("Channel-Identifier" is "32AECB23433802@speechsynth") ∷ []) ""
    ∷ says 152 (response 543259 200 Complete) (("Channel-Identifier" is "32AECB23433802@speechsynth") ∷ ("Active-Request-Id-List" is "543258") ∷ ("Speech-Marker" is "timestamp=857206039059") ∷ []) ""
    ∷ says 113 (request (bytes "BARGE-IN-OCCURRED") 543259) (("Channel-Identifier" is "32AECB23433802@speechsynth") ∷ ("Proxy-Sync-Id" is "987654321") ∷ []) ""
    ∷ says 75 (request (bytes "PAUSE") 543259) (("Channel-Identifier" is "32AECB23433802@speechsynth") ∷ []) ""
    ∷ says 76 (request (bytes "RESUME") 543260) (("Channel-Identifier" is "32AECB23433802@speechsynth") ∷ []) ""
    ∷ says 96 (request (bytes "CONTROL") 543259) (("Channel-Identifier" is "32AECB23433802@speechsynth") ∷ ("Prosody-rate" is "fast") ∷ []) ""
    ∷ says 98 (request (bytes "CONTROL") 543260) (("Channel-Identifier" is "32AECB23433802@speechsynth") ∷ ("Jump-Size" is "-15 Words") ∷ []) ""
    ∷ says 139 (event (bytes "SPEECH-MARKER") 543261 InProgress) (("Channel-Identifier" is "32AECB23433802@speechsynth") ∷ ("Speech-Marker" is "timestamp=857206027059;here") ∷ []) ""
    ∷ message (record { stated = 82; major = 2; minor = 0 }) (response 543266 200 InProgress) bad
    ∷ refused 5 124
    ∷ refused 5 137
    ∷ [])
unfolding hears_bytes
examples = refl
