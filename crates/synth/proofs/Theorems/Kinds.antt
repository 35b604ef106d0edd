-- The two kinds of channel: what tells them apart, what each has, and that a method of the other kind is 401, whatever its fields. Assumes nothing.
use Prim.Native.String.{String}
use mathlib.Core.Path.{◌≡◌, refl, ap, ◌∙◌}
use mathlib.Core.Bool.{false, ◌||◌}
use mathlib.Core.Option.{none}
use mathlib.Core.List.{List, [], ◌∷◌, map}
use Rattle.std.specs.Prelude.{Some}
use Rattle.octets.specs.Octets.{bytes}
use Rattle.message.specs.Known as N
use Rattle.message.specs.declared.Known.{Known}
use Rattle.message.specs.declared.Known.TheVariants.{ChannelIdentifier, ContentLength, ContentType, ActiveRequestIdList, KillOnBargeIn, ProxySyncId, LoggingTag, Unknown, ConfidenceThreshold, FetchTimeout, NoInputTimeout, SensitivityLevel}
use Rattle.answer.specs.declared.Kind.{Kind}
use Rattle.synth.specs.Kinds.{kind_of, most, method_in}
use Rattle.synth.specs.Channel.{View, with_last}
use Rattle.synth.specs.Request.{Request, method_of, acts, acting}
use Rattle.synth.specs.Judgement.{passes, fails, ◌then◌, unless, permitted, legal, of_kind, early, late}
use Rattle.synth.specs.States.{failed, after_late, after_early, judge}
use Rattle.synth.specs.declared.State.TheVariants.{Speaking, Recognizing}
use Rattle.synth.specs.declared.Method.{Method}
use Rattle.synth.proofs.Computed.{channel, killed, replies, hears_bytes}
use Rattle.synth.proofs.Theorems.Readings.{at}

-- ---- the end of the name tells the kind

pub kinds : List Kind
kinds =
    map (λ (name : String). kind_of (bytes name))
    ("7f3a@speechsynth" ∷ "7f3a@speechrecog" ∷ "@speechrecog" ∷ "7f3a@speechsynth@speechrecog" ∷ "7f3a@speechRecog" ∷ "7f3a@speechrecog " ∷ "speechrecog" ∷ "" ∷ [])

pub kind_names :
    kinds
    ≡ Kind.Synthesizer
    ∷ Kind.Recognizer
    ∷ Kind.Recognizer
    ∷ Kind.Recognizer
    ∷ Kind.Synthesizer
    ∷ Kind.Synthesizer
    ∷ Kind.Synthesizer
    ∷ Kind.Synthesizer
    ∷ []
unfolding kinds kind_of
kind_names = refl

pub most_outstanding : most Kind.Synthesizer ∷ most Kind.Recognizer ∷ [] ≡ 16 ∷ 8 ∷ []
most_outstanding = refl

-- ---- each name, as a synthesizer and as a recognizer hear it

pub heard_by : Kind → List Method
heard_by kind =
    map (λ (name : String). method_in kind (method_of (bytes name)))
    ("SPEAK" ∷ "STOP" ∷ "PAUSE" ∷ "RESUME" ∷ "CONTROL" ∷ "BARGE-IN-OCCURRED" ∷ "RECOGNIZE" ∷ "START-INPUT-TIMERS" ∷ "SET-PARAMS"
    ∷ "GET-PARAMS" ∷ "LISTEN" ∷ "Recognize" ∷ "Get-Params" ∷ [])

pub a_synthesizer_hears :
    heard_by Kind.Synthesizer
    ≡ Method.Speak
    ∷ Method.Stop
    ∷ Method.Pause
    ∷ Method.Resume
    ∷ Method.Control
    ∷ Method.BargeInOccurred
    ∷ Method.Unknown
    ∷ Method.Unknown
    ∷ Method.SetParams
    ∷ Method.GetParams
    ∷ Method.Unknown
    ∷ Method.Unknown
    ∷ Method.Unknown
    ∷ []
unfolding heard_by method_of
a_synthesizer_hears = refl

pub a_recognizer_hears :
    heard_by Kind.Recognizer
    ≡ Method.Unknown
    ∷ Method.Stop
    ∷ Method.Unknown
    ∷ Method.Unknown
    ∷ Method.Unknown
    ∷ Method.Unknown
    ∷ Method.Recognize
    ∷ Method.StartInputTimers
    ∷ Method.SetParams
    ∷ Method.GetParams
    ∷ Method.Unknown
    ∷ Method.Unknown
    ∷ Method.Unknown
    ∷ []
unfolding heard_by method_of
a_recognizer_hears = refl

-- ---- nothing acts in a method that the kind lacks, but the two fields that act everywhere

pub nothing_acts : (k : Known) → acts Method.Unknown k ≡ N.is k ChannelIdentifier || N.is k ContentLength
nothing_acts ChannelIdentifier = refl
nothing_acts ContentLength = refl
nothing_acts ContentType = refl
nothing_acts ActiveRequestIdList = refl
nothing_acts KillOnBargeIn = refl
nothing_acts ProxySyncId = refl
nothing_acts LoggingTag = refl
nothing_acts Unknown = refl
nothing_acts ConfidenceThreshold = refl
nothing_acts FetchTimeout = refl
nothing_acts NoInputTimeout = refl
nothing_acts SensitivityLevel = refl

module _ (v : View) (r : Request) (lacked : r.method ≡ Method.Unknown) where
  absent : (k : Known) → acts Method.Unknown k ≡ false → acting k r ≡ none
  unfolding acting
  absent k h = rw (ap (λ m. acts m k) lacked ∙ h, acting)

  no_value : legal r ≡ passes
  unfolding legal unless
  no_value =
      rw (
        absent KillOnBargeIn refl,
        absent ActiveRequestIdList refl,
        absent ConfidenceThreshold refl,
        absent FetchTimeout refl,
        absent NoInputTimeout refl,
        absent SensitivityLevel refl,
        legal,
      )

  no_name : permitted v r ≡ passes
  unfolding permitted unless
  no_name = rw (lacked, permitted)

  fails_401 : late v r ≡ fails 401
  unfolding late of_kind ◌then◌ unless
  fails_401 = rw (no_name, no_value, lacked, late, of_kind)

-- so it is 401 where judgements 1 to 5 pass, whatever its fields, and leaves the channel as it was but for the last id seen
pub other_kind_401 : (v : View) (r : Request) → r.method ≡ Method.Unknown → early v r ≡ passes → judge v r ≡ failed (with_last (Some r.id) v) r 401
unfolding judge
other_kind_401 v r lacked e =
    let seen : View = with_last (Some r.id) v in
    ap (λ l. after_early l v r) e ∙ ap (λ l. after_late l seen r) (fails_401 seen r lacked)

-- ---- a channel of each kind, and every method of the other one, with a value that would be 404 where it acts

pub recognizer : View
recognizer = channel "7f3a@speechrecog" Recognizing (killed 7 ∷ []) (Some 8)

pub synthesizer : View
synthesizer = channel "7f3a@speechsynth" Speaking (killed 7 ∷ []) (Some 8)

pub of_the_other_kind :
    at recognizer "MRCP/2.0 126 SPEAK 9\r\nChannel-Identifier:7f3a@speechrecog\r\nContent-Type:text/plain\r\nContent-Length:2\r\nKill-On-Barge-In:x\r\n\r\nHi"
    ∷ at recognizer "MRCP/2.0 60 PAUSE 9\r\nChannel-Identifier:7f3a@speechrecog\r\n\r\n"
    ∷ at recognizer "MRCP/2.0 61 RESUME 9\r\nChannel-Identifier:7f3a@speechrecog\r\n\r\n"
    ∷ at recognizer "MRCP/2.0 62 CONTROL 9\r\nChannel-Identifier:7f3a@speechrecog\r\n\r\n"
    ∷ at recognizer "MRCP/2.0 72 BARGE-IN-OCCURRED 9\r\nChannel-Identifier:7f3a@speechrecog\r\n\r\n"
    ∷ at synthesizer "MRCP/2.0 144 RECOGNIZE 9\r\nChannel-Identifier:7f3a@speechsynth\r\nContent-Type:application/srgs+xml\r\nContent-Length:2\r\nConfidence-Threshold:x\r\n\r\nHi"
    ∷ at synthesizer "MRCP/2.0 73 START-INPUT-TIMERS 9\r\nChannel-Identifier:7f3a@speechsynth\r\n\r\n"
    ∷ []
    ≡ 401 ∷ 401 ∷ 401 ∷ 401 ∷ 401 ∷ 401 ∷ 401 ∷ []
unfolding recognizer synthesizer at replies hears_bytes
of_the_other_kind = refl

-- STOP, SET-PARAMS and GET-PARAMS are methods of both
pub of_both :
    at recognizer "MRCP/2.0 59 STOP 9\r\nChannel-Identifier:7f3a@speechrecog\r\n\r\n"
    ∷ at synthesizer "MRCP/2.0 59 STOP 9\r\nChannel-Identifier:7f3a@speechsynth\r\n\r\n"
    ∷ at recognizer "MRCP/2.0 65 SET-PARAMS 9\r\nChannel-Identifier:7f3a@speechrecog\r\n\r\n"
    ∷ at synthesizer "MRCP/2.0 65 SET-PARAMS 9\r\nChannel-Identifier:7f3a@speechsynth\r\n\r\n"
    ∷ at recognizer "MRCP/2.0 65 GET-PARAMS 9\r\nChannel-Identifier:7f3a@speechrecog\r\n\r\n"
    ∷ at synthesizer "MRCP/2.0 65 GET-PARAMS 9\r\nChannel-Identifier:7f3a@speechsynth\r\n\r\n"
    ∷ []
    ≡ 200 ∷ 200 ∷ 200 ∷ 200 ∷ 200 ∷ 200 ∷ []
unfolding recognizer synthesizer at replies hears_bytes
of_both = refl

-- ---- the eighth known name counts once on either kind, and acts in RECOGNIZE and SET-PARAMS alone

pub threshold_elsewhere :
    at recognizer "MRCP/2.0 83 STOP 9\r\nChannel-Identifier:7f3a@speechrecog\r\nConfidence-Threshold:x\r\n\r\n"
    ∷ at synthesizer "MRCP/2.0 83 STOP 9\r\nChannel-Identifier:7f3a@speechsynth\r\nConfidence-Threshold:x\r\n\r\n"
    ∷ at recognizer "MRCP/2.0 108 STOP 9\r\nChannel-Identifier:7f3a@speechrecog\r\nConfidence-Threshold:0\r\nCONFIDENCE-THRESHOLD:0\r\n\r\n"
    ∷ at synthesizer "MRCP/2.0 108 STOP 9\r\nChannel-Identifier:7f3a@speechsynth\r\nConfidence-Threshold:0\r\nCONFIDENCE-THRESHOLD:0\r\n\r\n"
    ∷ []
    ≡ 201 ∷ 201 ∷ 404 ∷ 404 ∷ []
unfolding recognizer synthesizer at replies hears_bytes
threshold_elsewhere = refl
