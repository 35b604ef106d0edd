-- The order of judgement by table: for each of the eleven a request that fails it alone, and one that fails every later one too that it can,
-- with the status answered and the first id above the last one seen afterwards. Assumes nothing.
use Prim.Native.Nat.{ℕ}
use Prim.Native.String.{String}
use mathlib.Core.Path.{◌≡◌, refl}
use mathlib.Core.List.{List, [], ◌∷◌, map}
use Rattle.std.specs.Prelude.{Option, Some, None}
use Rattle.octets.specs.Octets.{bytes}
use Rattle.message.specs.Message.{Field, bad, good, Message}
use Rattle.synth.specs.Channel.{View, first_above}
use Rattle.synth.specs.Request.{Request}
use Rattle.synth.specs.States.{Outcome}
use Rattle.synth.specs.declared.State.{State}
use Rattle.synth.specs.declared.State.TheVariants.{Idle, Speaking}
use Rattle.synth.specs.declared.Method.{Method}
use Rattle.synth.proofs.Computed.{channel, killed, field, status_of, judges}

-- a channel that holds these ids
abbrev pub holding : State → List ℕ → Option ℕ → View
holding state ids last = channel "7f3a@speechsynth" state (map killed ids) last

pub fresh : View
fresh = holding Idle [] None

pub idle : View
idle = holding Idle [] (Some 8)

pub full : View
full = holding Speaking (1 ∷ 2 ∷ 3 ∷ 4 ∷ 5 ∷ 6 ∷ 7 ∷ 8 ∷ 9 ∷ 10 ∷ 11 ∷ 12 ∷ 13 ∷ 14 ∷ 15 ∷ 16 ∷ []) (Some 16)

abbrev pub to_us : Field (List ℕ)
to_us = field "Channel-Identifier" "7f3a@speechsynth"

abbrev pub to_another : Field (List ℕ)
to_another = field "Channel-Identifier" "7f3b@speechsynth"

abbrev pub sized : Field (List ℕ)
sized = field "Content-Length" "2"

abbrev pub typed : Field (List ℕ)
typed = field "Content-Type" "text/plain"

abbrev pub illegal : Field (List ℕ)
illegal = field "Kill-On-Barge-In" "x"

-- a request with these fields and this body, and one whose fields are bad
abbrev pub asks : Method → ℕ → List (Field (List ℕ)) → String → Request
asks m id fs body = record { major = 2; minor = 0; method = m; id = id; fields = good fs (bytes body) }

abbrev pub garbled : ℕ → Request
garbled id = record { major = 2; minor = 0; method = Method.Speak; id = id; fields = bad }

-- the same request under another version
abbrev pub versioned : ℕ → ℕ → Request → Request
versioned major minor r = record { major = major; minor = minor; method = r.method; id = r.id; fields = r.fields }

abbrev pub speaks : ℕ → List (Field (List ℕ)) → Request
speaks id fs = asks Method.Speak id fs "Hi"

-- what is answered, and what is seen
pub record Row : Type 0 where
  pub status : ℕ
  pub above : ℕ

abbrev pub status_in : List Message → ℕ
status_in [] = 0
status_in (m ∷ ms) = status_of m.start

pub row : Outcome → Row
row o = record { status = status_in o.says; above = first_above o.next.last }

pub on : View → Request → Row
on v r = row (judges v r)

pub ◌then-above◌ : ℕ → ℕ → Row
◌then-above◌ status above = record { status = status; above = above }

infix 20 ◌then-above◌
-- each judgement alone, in the order of the paper
pub alone :
    on idle (versioned 2 1 (speaks 9 (to_us ∷ typed ∷ sized ∷ [])))  -- 1
    ∷ on idle (versioned 3 0 (speaks 9 (to_us ∷ typed ∷ sized ∷ [])))
    ∷ on idle (garbled 9)  -- 2
    ∷ on idle (speaks 9 (typed ∷ sized ∷ []))  -- 3
    ∷ on idle (speaks 9 (to_another ∷ typed ∷ sized ∷ []))  -- 4
    ∷ on idle (speaks 8 (to_us ∷ typed ∷ sized ∷ []))  -- 5
    ∷ on idle (speaks 9 (to_us ∷ typed ∷ sized ∷ illegal ∷ []))  -- 6
    ∷ on idle (asks Method.Stop 9 (to_us ∷ field "Active-Request-Id-List" "7,,8" ∷ []) "")
    ∷ on idle (asks Method.Unknown 9 (to_us ∷ []) "")  -- 7
    ∷ on idle (asks Method.Pause 9 (to_us ∷ []) "")  -- 8
    ∷ on idle (asks Method.Resume 9 (to_us ∷ []) "")
    ∷ on idle (asks Method.Control 9 (to_us ∷ []) "")
    ∷ on idle (speaks 9 (to_us ∷ typed ∷ []))  -- 9
    ∷ on idle (speaks 9 (to_us ∷ sized ∷ []))
    ∷ on idle (asks Method.Speak 9 (to_us ∷ typed ∷ field "Content-Length" "0" ∷ []) "")
    ∷ on idle (speaks 9 (to_us ∷ field "Content-Type" "text/plain;charset=utf-8" ∷ sized ∷ []))
    ∷ on full (speaks 20 (to_us ∷ typed ∷ sized ∷ []))  -- 10
    ∷ []
    ≡ (502 then-above 9)
    ∷ (502 then-above 9)
    ∷ (404 then-above 9)
    ∷ (406 then-above 9)
    ∷ (405 then-above 9)
    ∷ (410 then-above 9)
    ∷ (404 then-above 10)
    ∷ (404 then-above 10)
    ∷ (401 then-above 10)
    ∷ (402 then-above 10)
    ∷ (402 then-above 10)
    ∷ (402 then-above 10)
    ∷ (406 then-above 10)
    ∷ (406 then-above 10)
    ∷ (408 then-above 10)
    ∷ (409 then-above 10)
    ∷ (407 then-above 21)
    ∷ []
unfolding fresh idle full row on ◌then-above◌ judges
alone = refl

-- each judgement before every later one that the same request can fail
pub in_order :
    on full (versioned 2 1 (garbled 16))  -- 1
    ∷ on full (versioned 2 1 (speaks 16 (to_another ∷ illegal ∷ [])))
    ∷ on full (garbled 16)  -- 2
    ∷ on full (speaks 16 (illegal ∷ []))  -- 3
    ∷ on full (speaks 16 (to_another ∷ illegal ∷ []))  -- 4
    ∷ on full (speaks 16 (to_us ∷ illegal ∷ []))  -- 5
    ∷ on idle (asks Method.Unknown 8 (to_us ∷ []) "")
    ∷ on full (speaks 20 (to_us ∷ illegal ∷ []))  -- 6
    ∷ on full (asks Method.Speak 20 (to_us ∷ []) "")  -- 9: 406
    ∷ on full (asks Method.Speak 20 (to_us ∷ field "Content-Length" "0" ∷ []) "")
    ∷ on full (asks Method.Speak 20 (to_us ∷ field "Content-Type" "text" ∷ field "Content-Length" "0" ∷ []) "")  -- 9: 408
    ∷ on full (speaks 20 (to_us ∷ field "Content-Type" "text" ∷ sized ∷ []))  -- 9: 409
    ∷ []
    ≡ (502 then-above 17)
    ∷ (502 then-above 17)
    ∷ (404 then-above 17)
    ∷ (406 then-above 17)
    ∷ (405 then-above 17)
    ∷ (410 then-above 17)
    ∷ (410 then-above 9)
    ∷ (404 then-above 21)
    ∷ (406 then-above 21)
    ∷ (406 then-above 21)
    ∷ (408 then-above 21)
    ∷ (409 then-above 21)
    ∷ []
unfolding fresh idle full row on ◌then-above◌ judges
in_order = refl

abbrev pub sets : ℕ → List (Field (List ℕ)) → Request
sets id fs = asks Method.SetParams id fs ""

abbrev pub gets : ℕ → List (Field (List ℕ)) → Request
gets id fs = asks Method.GetParams id fs ""

abbrev pub strange : Field (List ℕ)
strange = field "Voice-Gender" "x"

-- 6 of SET-PARAMS and GET-PARAMS: 403 after 1 to 5, and before 404
pub of_settings :
    on idle (sets 9 (to_us ∷ strange ∷ []))
    ∷ on idle (gets 9 (to_us ∷ strange ∷ []))
    ∷ on idle (versioned 2 1 (sets 9 (to_us ∷ strange ∷ [])))  -- 1
    ∷ on idle (sets 9 (strange ∷ []))  -- 3
    ∷ on idle (sets 9 (to_another ∷ strange ∷ []))  -- 4
    ∷ on idle (sets 8 (to_us ∷ strange ∷ []))  -- 5
    ∷ on idle (sets 9 (to_us ∷ illegal ∷ strange ∷ []))  -- 403 before 404
    ∷ on idle (sets 9 (to_us ∷ illegal ∷ []))
    ∷ on idle (gets 9 (to_us ∷ illegal ∷ []))  -- no value is judged
    ∷ on idle (sets 9 (to_us ∷ typed ∷ []))
    ∷ on idle (sets 9 (to_us ∷ field "Active-Request-Id-List" "7" ∷ []))
    ∷ on idle (sets 9 (to_us ∷ field "Sensitivity-Level" "1" ∷ []))  -- of the other kind
    ∷ on idle (gets 9 (to_us ∷ field "No-Input-Timeout" "" ∷ []))
    ∷ on idle (asks Method.SetParams 9 (to_us ∷ sized ∷ field "Proxy-Sync-Id" "a" ∷ field "Logging-Tag" "b" ∷ []) "Hi")
    ∷ on full (sets 20 (to_us ∷ field "Fetch-Timeout" "0" ∷ []))
    ∷ []
    ≡ (403 then-above 10)
    ∷ (403 then-above 10)
    ∷ (502 then-above 9)
    ∷ (406 then-above 9)
    ∷ (405 then-above 9)
    ∷ (410 then-above 9)
    ∷ (403 then-above 10)
    ∷ (404 then-above 10)
    ∷ (200 then-above 10)
    ∷ (403 then-above 10)
    ∷ (403 then-above 10)
    ∷ (403 then-above 10)
    ∷ (403 then-above 10)
    ∷ (200 then-above 10)
    ∷ (200 then-above 21)
    ∷ []
unfolding fresh idle full row on ◌then-above◌ judges
of_settings = refl

-- 11: what passes all of them, and whether a field was ignored
pub passing :
    on idle (speaks 9 (to_us ∷ typed ∷ sized ∷ []))
    ∷ on idle (speaks 100 (to_us ∷ field "Content-Type" "APPLICATION/ssml+xml" ∷ sized ∷ []))  -- 5: gaps pass
    ∷ on fresh (speaks 0 (to_us ∷ field "Content-Type" "text/uri-list" ∷ sized ∷ []))  -- 5: any is above on a fresh channel
    ∷ on idle (speaks 9 (to_us ∷ typed ∷ sized ∷ field "Kill-On-Barge-In" "TRUE" ∷ []))
    ∷ on idle (asks Method.Stop 9 (to_us ∷ field "Active-Request-Id-List" "7,8" ∷ []) "")
    ∷ on idle (asks Method.BargeInOccurred 9 (to_us ∷ sized ∷ []) "Hi")
    ∷ on idle (asks Method.Stop 9 (to_us ∷ field "Logging-Tag" "a" ∷ field "Proxy-Sync-Id" "b" ∷ []) "")  -- never ignored
    ∷ on idle (asks Method.Stop 9 (to_us ∷ field "Vendor" "a" ∷ []) "")  -- another field
    ∷ on idle (asks Method.Stop 9 (to_us ∷ illegal ∷ []) "")  -- outside its method, so not judged
    ∷ on idle (asks Method.Stop 9 (to_us ∷ typed ∷ []) "")
    ∷ on idle (speaks 9 (to_us ∷ typed ∷ sized ∷ field "Active-Request-Id-List" "," ∷ []))
    ∷ []
    ≡ (200 then-above 10)
    ∷ (200 then-above 101)
    ∷ (200 then-above 1)
    ∷ (200 then-above 10)
    ∷ (200 then-above 10)
    ∷ (200 then-above 10)
    ∷ (200 then-above 10)
    ∷ (201 then-above 10)
    ∷ (201 then-above 10)
    ∷ (201 then-above 10)
    ∷ (201 then-above 10)
    ∷ []
unfolding fresh idle full row on ◌then-above◌ judges
passing = refl
