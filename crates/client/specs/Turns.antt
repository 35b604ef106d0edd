-- What a frame comes to on a channel, by its start line; and the bytes of an answer that lists ids or tells settings.
use Rattle.std.specs.Prelude.{ℕ, List, map, length, take, Option, Some, None}
use Rattle.message.specs.Message as M
use Rattle.message.specs.StartLines.{Started}
use Rattle.message.specs.Reading.{asks_params, fields_from, read_from}
use Rattle.startline.specs.StartLine.{start_of}
use Rattle.startline.specs.declared.Start.{Start}
use Rattle.answer.specs.Written.{written}
use Rattle.answer.specs.Answers.{response_of, telling}
use Rattle.answer.specs.declared.Answer.{Answer}
use Rattle.ledger.specs.Ledger.{Turn}
use Rattle.synth.specs.Kinds.{kind_of}
use Rattle.synth.specs.Settings.{setting_field}
use Rattle.synth.specs.declared.Edition.{Edition}
use Rattle.told.specs.Told.{told}
use Rattle.outcomes.specs.declared.Outcome.{Outcome}
use Rattle.params.specs.declared.Effect.{Effect}
use Rattle.synth.specs.Channel.{View}
use Rattle.synth.specs.Calls.{Reply, answer}

module _ (v : View) (room : ℕ) (f : List ℕ) (major minor : ℕ) where
  abbrev head : M.Head
  head = record { stated = length f; major = major; minor = minor }

  -- with a start line that is one of the three kinds, and fields from `at` on
  abbrev pub line_turn : ℕ → Start → Turn View Reply
  line_turn at x =
      answer v room (M.message head (M.on_start (M.part f) (start_of x))
      (M.on_fields (M.part f) (fields_from (asks_params f (start_of x)) f at)))

  -- with a start line, malformed or not
  abbrev pub frame_turn : Started → Turn View Reply
  frame_turn x = answer v room (M.on_reading (M.part f) (read_from head f x))

-- an answer under that name with the ids that it lists, and with the settings that it tells
abbrev pub listing : List ℕ → Outcome → List ℕ
listing name o = written (response_of name o.answer (take o.listed.count o.listed.ids))

abbrev pub settings_told : List ℕ → Edition → Answer → ℕ → List ℕ
settings_told name set a asked =
    written (telling name a.id a.status.code (map (setting_field set) (told (kind_of name) asked)))

-- the edition that a request makes
abbrev pub made_by : Effect → Option Edition
made_by Effect.Nothing = None
made_by (Effect.Set e) = Some e
made_by (Effect.Tell asked) = None
