-- A request as the judgement sees it: its method, and which fields act there (document 01, "Fields", and document
-- 02, K1 and K5).
use Rattle.std.specs.Prelude.{ℕ, Bool, true, false, ◌&&◌, ◌||◌, not, List, [], ◌∷◌, eqb}
use Rattle.std.proofs.Math.Option.{Option, none}
use Rattle.lists.specs.Lists.{all, same}
use Rattle.octets.specs.Octets.{bytes}
use Rattle.message.specs.Message.{Fields, bad, good, fields_in, Head}
use Rattle.message.specs.Known.{among, names_of, judged_value}
use Rattle.message.specs.declared.Known.{Known}
use Rattle.message.specs.declared.Known.TheVariants.{ChannelIdentifier, ContentLength, ContentType, ActiveRequestIdList, KillOnBargeIn, ProxySyncId, LoggingTag, Unknown, ConfidenceThreshold, FetchTimeout, NoInputTimeout, SensitivityLevel}
use Rattle.answer.specs.declared.Kind.{Kind}
use Rattle.synth.specs.Kinds.{method_number, method_in}
use Rattle.synth.specs.declared.Method.{Method}

abbrev pub method_text : Method → List ℕ
method_text Method.Speak = bytes "SPEAK"
method_text Method.Stop = bytes "STOP"
method_text Method.Pause = bytes "PAUSE"
method_text Method.Resume = bytes "RESUME"
method_text Method.Control = bytes "CONTROL"
method_text Method.BargeInOccurred = bytes "BARGE-IN-OCCURRED"
method_text Method.Unknown = []
method_text Method.Recognize = bytes "RECOGNIZE"
method_text Method.StartInputTimers = bytes "START-INPUT-TIMERS"
method_text Method.SetParams = bytes "SET-PARAMS"
method_text Method.GetParams = bytes "GET-PARAMS"

abbrev pub is : Method → Method → Bool
is m n = eqb (method_number m) (method_number n)

abbrev pub is_speak : Method → Bool
is_speak m = is m Method.Speak

abbrev pub is_stop : Method → Bool
is_stop m = is m Method.Stop

abbrev pub is_recognize : Method → Bool
is_recognize m = is m Method.Recognize

-- SPEAK and RECOGNIZE open a request that stays outstanding
abbrev pub opens : Method → Bool
opens m = is_speak m || is_recognize m

abbrev pub is_set : Method → Bool
is_set m = is m Method.SetParams

abbrev pub is_get : Method → Bool
is_get m = is m Method.GetParams

-- SET-PARAMS and GET-PARAMS
abbrev pub is_params : Method → Bool
is_params m = is_set m || is_get m

abbrev pub or_else : Bool → Method → Method → Method
or_else true m other = m
or_else false m other = other

-- the method of that name, whatever the kind of the channel
unfoldable pub method_of : List ℕ → Method
method_of name =
    or_else (same name (method_text Method.Speak)) Method.Speak
    (or_else (same name (method_text Method.Stop)) Method.Stop
    (or_else (same name (method_text Method.Pause)) Method.Pause
    (or_else (same name (method_text Method.Resume)) Method.Resume
    (or_else (same name (method_text Method.Control)) Method.Control
    (or_else (same name (method_text Method.BargeInOccurred)) Method.BargeInOccurred
    (or_else (same name (method_text Method.Recognize)) Method.Recognize
    (or_else (same name (method_text Method.StartInputTimers)) Method.StartInputTimers
    (or_else (same name (method_text Method.SetParams)) Method.SetParams
    (or_else (same name (method_text Method.GetParams)) Method.GetParams
    Method.Unknown)))))))))

pub record Request : Type 0 where
  pub major : ℕ
  pub minor : ℕ
  pub method : Method
  pub id : ℕ
  pub fields : Fields (List ℕ)

-- a request to a channel of that kind
abbrev pub request_of : Kind → Head → List ℕ → ℕ → Fields (List ℕ) → Request
request_of kind h name id fs = record { major = h.major; minor = h.minor; method = method_in kind (method_of name); id = id; fields = fs }

-- Content-Type acts in SPEAK and RECOGNIZE only, Active-Request-Id-List in STOP only, Channel-Identifier and Content-Length everywhere,
-- Proxy-Sync-Id and Logging-Tag nowhere; the settings in SET-PARAMS, and Kill-On-Barge-In in SPEAK and Confidence-Threshold in
-- RECOGNIZE too
abbrev pub acts : Method → Known → Bool
acts m ChannelIdentifier = true
acts m ContentLength = true
acts m ContentType = opens m
acts m ActiveRequestIdList = is_stop m
acts m KillOnBargeIn = is_speak m || is_set m
acts m ProxySyncId = false
acts m LoggingTag = false
acts m Unknown = false
acts m ConfidenceThreshold = is_recognize m || is_set m
acts m FetchTimeout = is_set m
acts m NoInputTimeout = is_set m
acts m SensitivityLevel = is_set m

-- GET-PARAMS asks for a setting by its name
abbrev pub asks_for : Method → Known → Bool
asks_for m k =
    is_get m && among k (KillOnBargeIn ∷ FetchTimeout ∷ NoInputTimeout ∷ ConfidenceThreshold ∷ SensitivityLevel ∷ [])

-- Proxy-Sync-Id and Logging-Tag are never "ignored"; any other field that neither acts nor is asked for is
abbrev pub ignored : Method → Known → Bool
ignored m k = not (acts m k || asks_for m k || among k (ProxySyncId ∷ LoggingTag ∷ []))

abbrev pub is_good : Fields (List ℕ) → Bool
is_good bad = false
is_good (good fs body) = true

-- the value of a field that acts in the request's method, as it is judged, where it came
unfoldable pub acting : Known → Request → Option (List ℕ)
acting k r = elim (acts r.method k) [ true ↦ judged_value k (fields_in r.fields) | false ↦ none ]

-- a field was ignored
unfoldable pub ignores_any : Request → Bool
ignores_any r = not (all (λ k. not (ignored r.method k)) (names_of (fields_in r.fields)))
