-- What reading a frame hands back, by its start line.
use Rattle.std.specs.Prelude.{ℕ, List, ◌++◌, length}
use Rattle.message.specs.StartLines.{Started, started}
use Rattle.message.specs.Reading.{asks_params, fields_from}
use Rattle.messagenumbers.specs.Layout.{handed, start_numbers, fields_numbers}
use Rattle.firmware.specs.Face.{ReadFace, consuming}

-- a frame f, by its version and its start line
abbrev pub frame_as : List ℕ → ℕ → ℕ → Started → List ℕ → ReadFace
frame_as f major minor Started.malformed out = record { number = 5; consumed = length f; out = out }
frame_as f major minor (started st at) out =
    consuming (length f)
    (handed (start_numbers major minor st ++ fields_numbers f (fields_from (asks_params f st) f at)) out)
