-- Responses and events of a channel: document 01, "Bytes written" and "States and queue", and document 02, K1 and K5.
use Rattle.std.specs.Prelude.{ℕ, List, [], ◌∷◌, ◌++◌, map, get_or}
use Rattle.octets.specs.Octets.{bytes}
use Rattle.writers.specs.Decimal.{three_digits}
use Rattle.message.specs.Message.{Field, Message}
use Rattle.message.specs.Message as M
use Rattle.message.specs.declared.RequestState.{RequestState}
use Rattle.message.specs.declared.RequestState.TheVariants.{Complete}
use Rattle.answer.specs.IdList.{id_list_text}
use Rattle.answer.specs.declared.Kind.{Kind}
use Rattle.answer.specs.declared.Answer.{Answer}

abbrev pub channel_identifier : List ℕ → Field (List ℕ)
channel_identifier name = record { name = bytes "Channel-Identifier"; value = name }

-- `Active-Request-Id-List:` where due: no list field when there is nothing to list
abbrev pub active_request_id_list : List ℕ → List (Field (List ℕ))
active_request_id_list [] = []
active_request_id_list (i ∷ is) = record { name = bytes "Active-Request-Id-List"; value = id_list_text (i ∷ is) } ∷ []

-- the answer to request id on the channel of that name, with the ids to list
unfoldable pub response : List ℕ → ℕ → ℕ → RequestState → List ℕ → Message
response name id status state ids =
    record { start = M.response id status state; fields = channel_identifier name ∷ active_request_id_list ids; body = [] }

-- the same for an answer as the code has it
abbrev pub response_of : List ℕ → Answer → List ℕ → Message
response_of name a ids = response name a.id a.status.code a.state ids

-- the answer to request id that tells these fields
unfoldable pub telling : List ℕ → ℕ → ℕ → List (Field (List ℕ)) → Message
telling name id status fields = record { start = M.response id status Complete; fields = channel_identifier name ∷ fields; body = [] }

-- the names of the causes, 0 to 7 of a synthesizer and 0 to 15 of a recognizer
abbrev pub cause_names : Kind → List (List ℕ)
cause_names Kind.Synthesizer =
    bytes "normal" ∷ bytes "barge-in" ∷ bytes "parse-failure" ∷ bytes "uri-failure" ∷ bytes "error" ∷ bytes "language-unsupported"
    ∷ bytes "lexicon-load-failure" ∷ bytes "cancelled" ∷ []
cause_names Kind.Recognizer =
    bytes "success" ∷ bytes "no-match" ∷ bytes "no-input-timeout" ∷ bytes "hotword-maxtime" ∷ bytes "grammar-load-failure"
    ∷ bytes "grammar-compilation-failure" ∷ bytes "recognizer-error" ∷ bytes "speech-too-early" ∷ bytes "success-maxtime"
    ∷ bytes "uri-failure" ∷ bytes "language-unsupported" ∷ bytes "cancelled" ∷ bytes "semantics-failure" ∷ bytes "partial-match"
    ∷ bytes "partial-match-maxtime" ∷ bytes "no-match-maxtime" ∷ []

-- the event that ends a SPEAK, and the one that ends a RECOGNIZE
abbrev pub event_name : Kind → List ℕ
event_name Kind.Synthesizer = bytes "SPEAK-COMPLETE"
event_name Kind.Recognizer = bytes "RECOGNITION-COMPLETE"

abbrev pub completion_cause : Kind → ℕ → Field (List ℕ)
completion_cause kind cause = record { name = bytes "Completion-Cause"; value = three_digits cause ++ bytes " " ++ get_or (cause_names kind) cause [] }

-- the event that ends request id on a channel of that kind
unfoldable pub complete : Kind → List ℕ → ℕ → ℕ → Message
complete kind name id cause =
    record { start = M.event (event_name kind) id Complete; fields = channel_identifier name ∷ completion_cause kind cause ∷ []; body = [] }

-- the events that end several: the first with the cause, each other one with 011, in their order
abbrev pub completes : Kind → List ℕ → List ℕ → ℕ → List Message
completes kind name [] cause = []
completes kind name (id ∷ ids) cause = complete kind name id cause ∷ map (λ i. complete kind name i 11) ids
