-- Calls in turn, as they compute: to unfold `replies` or `leaves` is to unfold every definition that a call rests on. Assumes nothing.
use Prim.Native.Nat.{ℕ}
use Prim.Native.String.{String}
use mathlib.Core.Bool.{true, false}
use mathlib.Core.List.{List, map}
use lib.Ieee.{binary32, to_bits, of_bits, div, of_int, round, units, odd, size, climb, span, lt, is_nan}
use lib.ListN.{length}
use Rattle.std.specs.Prelude.{Option}
use Rattle.octets.specs.Octets.{bytes}
use Rattle.writers.specs.Decimal.{digits, digits_within, three_digits}
use Rattle.writers.specs.SelfLength.{self_length}
use Rattle.framing.specs.Framing.{opening, framing}
use Rattle.message.specs.Message.{Start, request, response, event, Field, Reading, Message}
use Rattle.message.specs.StartLines.{start_line}
use Rattle.message.specs.Folds.{raw, joined}
use Rattle.message.specs.Fields.{field_line}
use Rattle.message.specs.Known.{known_of, value_of}
use Rattle.message.specs.Reading.{fields_from, reading, read_bytes, messages_in}
use Rattle.answer.specs.Written.{start_text, field_text, fields_text, after_length, written, written_all}
use Rattle.answer.specs.IdList.{is_id_list, ids_of, behind_commas, id_list_text}
use Rattle.answer.specs.Answers as A
use Rattle.answer.specs.Answers.{complete}
use Rattle.ledger.specs.Ledger.{Exchange, after, trace}
use Rattle.synth.specs.Levels.{quotient, level_in}
use Rattle.synth.specs.Settings.{is_kept}
use Rattle.synth.specs.Kinds.{kind_of}
use Rattle.synth.specs.Channel.{View, with_queue, with_last, fresh, well_named, shaped, are_editions, sound}
use Rattle.synth.specs.Request.{Request, method_of, acting, ignores_any}
use Rattle.synth.specs.Judgement.{◌then◌, unless, version, well_formed, addressed, ours, above, permitted, legal, of_kind, valid, content, capacity, success, early, late}
use Rattle.synth.specs.States.{Outcome, act, judge}
use Rattle.synth.specs.declared.State.{State}
use Rattle.synth.specs.declared.Entry.{Entry}
use Rattle.synth.specs.Calls.{Call, Reply, input, report, back, deliver, reported, gone_back, call, open_channel}

-- what a reader hears of bytes, and of a text
unfoldable pub hears_bytes : List ℕ → Reading (List ℕ)
unfolding read_bytes reading framing opening start_line raw joined field_line fields_from known_of value_of
hears_bytes s = read_bytes s

-- the messages that stand end to end in what was written
unfoldable pub hears_all : List ℕ → List Message
unfolding messages_in read_bytes reading framing opening start_line raw joined field_line fields_from known_of value_of
hears_all w = messages_in (length w) w

abbrev pub hears : String → Reading (List ℕ)
hears text = hears_bytes (bytes text)

-- the channel that the opening of that name gives
unfoldable pub opened : String → View
unfolding open_channel kind_of well_named
opened name = (open_channel (bytes name)).channel

-- a channel of that name, in that state, with these requests outstanding: the one place that spells a channel for a table
abbrev pub channel : String → State → List Entry → Option ℕ → View
channel name state queue last = with_last last (with_queue state queue (fresh (bytes name)))

-- an outstanding request that barge-in kills, and one that it spares
abbrev pub killed : ℕ → Entry
killed id = record { id = id; kill = true; threshold = 0 }

abbrev pub spared : ℕ → Entry
spared id = record { id = id; kill = false; threshold = 0 }

-- an outstanding request whose score has to be greater than so many millionths
abbrev pub beyond : ℕ → ℕ → Entry
beyond threshold id = record { id = id; kill = true; threshold = threshold }

-- a field with that name and value
abbrev pub field : String → String → Field (List ℕ)
field name value = record { name = bytes name; value = bytes value }

-- the status of a response; 0 where it is none
abbrev pub status_of : Start (List ℕ) → ℕ
status_of (request name id) = 0
status_of (response id status state) = status
status_of (event name id state) = 0

abbrev pub lends : String → Call
lends text = record { lent = input (bytes text); room = 305 }

-- a report of that cause with a score of these bits
abbrev pub reports : ℕ → ℕ → Call
reports cause score = record { lent = report cause (of_bits binary32 score); room = 1250 }

-- going back to the edition of that number
abbrev pub goes : ℕ → Call
goes n = record { lent = back n; room = 0 }

unfoldable pub replies : View → List Call → List Reply
unfolding read_bytes reading framing opening start_line raw joined field_line fields_from known_of value_of start_text field_text fields_text after_length written written_all
    digits digits_within three_digits self_length is_id_list ids_of behind_commas id_list_text A.response A.telling complete quotient level_in is_kept div of_int round units odd size climb span lt is_nan to_bits of_bits kind_of well_named shaped are_editions sound method_of acting
    ignores_any ◌then◌ unless version well_formed addressed ours above permitted legal of_kind valid content capacity success early late act judge deliver reported gone_back call
replies v calls = map (λ (x : Exchange Call Reply). x.reply) (trace call v calls)

-- what a request comes to
unfoldable pub judges : View → Request → Outcome
unfolding joined known_of value_of digits digits_within is_id_list ids_of behind_commas id_list_text A.response A.telling quotient level_in div of_int round units odd size climb span to_bits kind_of acting ignores_any ◌then◌ unless version well_formed addressed ours
    above permitted legal of_kind valid content capacity success early late act judge
judges v r = judge v r

-- the channel after the calls
unfoldable pub leaves : View → List Call → View
unfolding read_bytes reading framing opening start_line raw joined field_line fields_from known_of value_of start_text field_text fields_text after_length written written_all
    digits digits_within three_digits self_length is_id_list ids_of behind_commas id_list_text A.response A.telling complete quotient level_in is_kept div of_int round units odd size climb span lt is_nan to_bits of_bits kind_of well_named shaped are_editions sound method_of acting
    ignores_any ◌then◌ unless version well_formed addressed ours above permitted legal of_kind valid content capacity success early late act judge deliver reported gone_back call
leaves v calls = after call v calls
