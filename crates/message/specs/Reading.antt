-- A message read alone: document 01, "Fields", last paragraph, and judgement 2, and document 02, K5.
use Rattle.std.specs.Prelude.{ℕ, zero, suc, ◌-◌, Bool, true, false, ◌&&◌, ◌||◌, List, [], ◌∷◌, map, eqb, length, take, drop}
use Rattle.std.specs.Prelude.{Ok, Err}
use Rattle.std.proofs.Math.Option.{Option, none, some}
use Rattle.lists.specs.Lists.{same}
use Rattle.octets.specs.Octets.{bytes}
use Rattle.readers.specs.Words.{is_number, number_of}
use Rattle.framing.specs.Framing.{Framing, framing}
use Rattle.framing.specs.declared.NoFrame.TheVariants.{More, NoMessage, TooLong, TooShort}
use Rattle.message.specs.Message.{Start, request, response, event, Field, Fields, bad, good, fields_in, Head, Reading, refused, message, Message, part, on_field, on_reading}
use Rattle.message.specs.StartLines.{Started, started, start_line}
use Rattle.message.specs.Fields.{Lines, lines, field_lines}
use Rattle.message.specs.Known.{once_each, names_of, judged_value}
use Rattle.message.specs.declared.Span.{Span}
use Rattle.message.specs.declared.Known.TheVariants.{ContentLength}

-- Content-Length (1 to 19 digits; absent means 0) and the body's length agree
abbrev pub agrees : Option (List ℕ) → ℕ → Bool
agrees none n = eqb 0 n
agrees (some v) n = is_number 19 v && eqb (number_of v) n

-- the message is a SET-PARAMS or a GET-PARAMS: there all five settings' names count as known
abbrev pub asks_params : List ℕ → Start Span → Bool
asks_params f (request name id) = same (part f name) (bytes "SET-PARAMS") || same (part f name) (bytes "GET-PARAMS")
asks_params f (response id status state) = false
asks_params f (event name id state) = false

-- judgement 2 of the fields of a frame f and the body that begins at b
abbrev pub judged : Bool → List ℕ → Lines → Fields Span
judged params f Lines.malformed = bad
judged params f (lines fs b) =
    let texts : List (Field (List ℕ)) = map (on_field (part f)) fs in
    elim (once_each params (names_of texts) && agrees (judged_value ContentLength texts) (length f - b)) [
      | true ↦ good fs (record { start = b; len = length f - b })
      | false ↦ bad
    ]

-- at most 32 fields from `at` on, up to the first empty line; what remains is the body
unfoldable pub fields_from : Bool → List ℕ → ℕ → Fields Span
fields_from params f at = judged params f (field_lines 32 f at)

abbrev pub read_from : Head → List ℕ → Started → Reading Span
read_from h f Started.malformed = refused 5 h.stated
read_from h f (started s at) = message h s (fields_from (asks_params f s) f at)

abbrev pub read_framed : List ℕ → Framing → Reading Span
read_framed s (Err More) = refused 1 0
read_framed s (Err NoMessage) = refused 2 0
read_framed s (Err TooLong) = refused 3 0
read_framed s (Err TooShort) = refused 4 0
read_framed s (Ok f) =
    let frame = take f.length s in
    read_from (record { stated = f.length; major = f.major; minor = f.minor }) frame (start_line f.opening frame)

-- what the message at the front of the lent bytes says, by places in its frame
unfoldable pub reading : List ℕ → Reading Span
reading s = read_framed s (framing s)

-- the same, by the bytes that stand there
unfoldable pub read_bytes : List ℕ → Reading (List ℕ)
read_bytes s = on_reading (part s) (reading s)

abbrev pub body_in : Fields (List ℕ) → List ℕ
body_in bad = []
body_in (good fs body) = body

-- the messages that stand end to end at the front of s, at most `most`
unfoldable pub messages_in : ℕ → List ℕ → List Message
messages_in zero s = []
messages_in (suc most) s = elim (read_bytes s) [
  | refused number consumed ↦ []
  | message h start fs ↦ record { start = start; fields = fields_in fs; body = body_in fs } ∷ messages_in most (drop h.stated s)
]
