-- The order of judgement for a request, in eleven steps: document 01, "The order of judgement for a request", and
-- document 02, K1 and K5.
use Rattle.std.specs.Prelude.{ℕ, Bool, true, false, ◌&&◌, ◌||◌, not, List, eqb, leb, ltb, length}
use Rattle.std.proofs.Math.Option.{Option, none, some}
use Rattle.lists.specs.Lists.{all, same, is_empty}
use Rattle.octets.specs.Octets.{bytes, alike}
use Rattle.message.specs.Message.{fields_in}
use Rattle.message.specs.Known.{names_of}
use Rattle.message.specs.Reading.{body_in}
use Rattle.message.specs.declared.Known.TheVariants.{ChannelIdentifier, ContentLength, ContentType, ActiveRequestIdList, KillOnBargeIn, ConfidenceThreshold, FetchTimeout, NoInputTimeout, SensitivityLevel}
use Rattle.answer.specs.IdList.{is_id_list}
use Rattle.synth.specs.Levels.{is_level}
use Rattle.synth.specs.Settings.{may_stand, is_flag, is_millis}
use Rattle.synth.specs.Kinds.{most}
use Rattle.synth.specs.Channel.{View, kind, is_busy, first_above}
use Rattle.synth.specs.Request.{Request, is, is_speak, opens, is_params, is_good, acting, ignores_any}
use Rattle.synth.specs.declared.Method.{Method}

-- a step passes, or fails with a status
pub data Verdict : Type 0 where
  passes : Verdict
  fails : ℕ → Verdict

infixr 20 ◌then◌
-- one step, and the next where it passes
unfoldable pub ◌then◌ : Verdict → Verdict → Verdict
◌then◌ passes v = v
◌then◌ (fails status) v = fails status

unfoldable pub unless : Bool → ℕ → Verdict
unless true status = passes
unless false status = fails status

-- there is a value, and it passes the test
abbrev pub given : (List ℕ → Bool) → Option (List ℕ) → Bool
given test none = false
given test (some v) = test v

-- it passes the test where there is one
abbrev pub optional : (List ℕ → Bool) → Option (List ℕ) → Bool
optional test none = true
optional test (some v) = test v

abbrev pub anything : List ℕ → Bool
anything v = true

-- 1. version is not 2.0 (as numbers): 502
unfoldable pub version : Request → Verdict
version r = unless (eqb r.major 2 && eqb r.minor 0) 502

-- 2. malformed field, more than 32, no empty line, a known name twice, or Content-Length different from the body's length: 404
unfoldable pub well_formed : Request → Verdict
well_formed r = unless (is_good r.fields) 404

-- 3. no Channel-Identifier: 406
unfoldable pub addressed : Request → Verdict
addressed r = unless (given anything (acting ChannelIdentifier r)) 406

-- 4. it differs from this channel's name in any byte: 405
unfoldable pub ours : View → Request → Verdict
ours v r = unless (given (same v.name) (acting ChannelIdentifier r)) 405

-- 5. request-id not above the last one seen on this channel (any is above on a fresh channel): 410
unfoldable pub above : View → Request → Verdict
above v r = unless (leb (first_above v.last) r.id) 410

-- 6. in SET-PARAMS and GET-PARAMS, a field neither a setting of this kind nor one that acts everywhere or nowhere: 403
unfoldable pub permitted : View → Request → Verdict
permitted v r = unless (not (is_params r.method) || all (may_stand (kind v)) (names_of (fields_in r.fields))) 403

-- and then: an acting field's value is illegal: 404
unfoldable pub legal : Request → Verdict
legal r =
    unless (optional is_flag (acting KillOnBargeIn r)
    && optional is_id_list (acting ActiveRequestIdList r)
    && optional is_level (acting ConfidenceThreshold r)
    && optional is_millis (acting FetchTimeout r)
    && optional is_millis (acting NoInputTimeout r)
    && optional is_level (acting SensitivityLevel r)) 404

-- a method that the channel's kind lacks has become unknown
abbrev pub is_of_kind : Method → Bool
is_of_kind m = not (is m Method.Unknown)

-- 7. method not among those of the channel's kind: 401
unfoldable pub of_kind : Request → Verdict
of_kind r = unless (is_of_kind r.method) 401

-- PAUSE, RESUME, CONTROL and START-INPUT-TIMERS are valid only while something is outstanding
abbrev pub is_valid : Method → Bool → Bool
is_valid m busy = not ((is m Method.Pause || is m Method.Resume || is m Method.Control || is m Method.StartInputTimers) && not busy)

-- 8. method not valid in this state: 402
unfoldable pub valid : View → Request → Verdict
valid v r = unless (is_valid r.method (is_busy v.state)) 402

-- `text/plain`, `application/ssml+xml`, `text/uri-list` (any case, nothing after)
abbrev pub is_speech_type : List ℕ → Bool
is_speech_type t = alike t (bytes "text/plain") || alike t (bytes "application/ssml+xml") || alike t (bytes "text/uri-list")

-- `application/srgs+xml`, `text/uri-list` (any case, nothing after)
abbrev pub is_grammar_type : List ℕ → Bool
is_grammar_type t = alike t (bytes "application/srgs+xml") || alike t (bytes "text/uri-list")

-- the types of SPEAK, or of RECOGNIZE
abbrev pub is_type_of : Method → List ℕ → Bool
is_type_of m t = elim (is_speak m) [ true ↦ is_speech_type t | false ↦ is_grammar_type t ]

-- a rule for SPEAK and RECOGNIZE alone
abbrev pub in_opening : Request → Verdict → Verdict
in_opening r v = elim (opens r.method) [ true ↦ v | false ↦ passes ]

-- 9. SPEAK or RECOGNIZE without Content-Length or Content-Type 406; with an empty body 408; with another type 409
unfoldable pub content : Request → Verdict
content r =
    in_opening r
    (unless (given anything (acting ContentLength r) && given anything (acting ContentType r)) 406
    then unless (not (is_empty (body_in r.fields))) 408
    then unless (given (is_type_of r.method) (acting ContentType r)) 409)

-- 10. SPEAK with 16 outstanding, RECOGNIZE with 8: 407
unfoldable pub capacity : View → Request → Verdict
capacity v r = in_opening r (unless (ltb (length v.queue) (most (kind v))) 407)

-- 11. success: 200, or 201 if a field was ignored
unfoldable pub success : Request → ℕ
success r = elim (ignores_any r) [ true ↦ 201 | false ↦ 200 ]

-- 1 to 5: where one of them fails, the last id seen stays
unfoldable pub early : View → Request → Verdict
early v r = version r then well_formed r then addressed r then ours v r then above v r

-- 6 to 10: the last id seen has become this one, whatever the answer
unfoldable pub late : View → Request → Verdict
late v r = permitted v r then legal r then of_kind r then valid v r then content r then capacity v r
