-- A channel as 89 numbers: state, last id seen, count, size, the queue from 4 on, the name from 20 on, at 64 how many
-- editions of the settings there are, and those from 65 on.
use Rattle.std.specs.Prelude.{ℕ, zero, suc, ◌+◌, ◌-◌, ◌*◌, ◌/◌, Bool, true, false, cond, List, [], ◌∷◌, ◌++◌, map, ltb, length, get_or, replicate, Some, None}
use Rattle.std.specs.declared.option.Option as O
use Rattle.std.proofs.Math.Option.{Option, none, some}
use Rattle.answer.specs.declared.Kind.{Kind}
use Rattle.synth.specs.Kinds.{state_number}
use Rattle.synth.specs.Levels.{single}
use Rattle.synth.specs.Settings.{Name, settings, slot, with_slot, unset}
use Rattle.synth.specs.Channel.{View, first_above, sound}
use Rattle.synth.specs.declared.State.{State}
use Rattle.synth.specs.declared.State.TheVariants.{Idle, Speaking, Paused, Recognizing, Recognized}
use Rattle.synth.specs.declared.Entry.{Entry}
use Rattle.synth.specs.declared.Setting.{Setting}
use Rattle.synth.specs.declared.Edition.{Edition}
use Rattle.channelnames.specs.Names.{kind_by}
use Rattle.queue.specs.Queue.{kill_in}

-- an outstanding request: its id doubled, and one more where barge-in kills it
abbrev pub entry_number : Entry → ℕ
entry_number e = e.id * 2 + cond e.kill 1 0

abbrev pub thresholds : List Entry → List ℕ
thresholds queue = map (λ (e : Entry). e.threshold) queue

-- n numbers, zeros past those of l
abbrev pub padded : ℕ → List ℕ → List ℕ
padded n l = l ++ replicate (n - length l) 0

-- a recognizer has eight places for its requests, then theirs for the thresholds
abbrev pub queue_numbers : Kind → List Entry → List ℕ
queue_numbers Kind.Synthesizer queue = map entry_number queue
queue_numbers Kind.Recognizer queue = padded 8 (map entry_number queue) ++ thresholds queue

-- a setting: its sort and its value
abbrev pub sort_number : Setting → ℕ
sort_number Setting.Unset = 0
sort_number (Setting.Flag b) = 1
sort_number (Setting.Millis n) = 2
sort_number (Setting.Level l) = 3

abbrev pub value_number : Setting → ℕ
value_number Setting.Unset = 0
value_number (Setting.Flag b) = cond b 1 0
value_number (Setting.Millis n) = n
value_number (Setting.Level l) = l.millionths

abbrev pub setting_numbers : List Name → Edition → List ℕ
setting_numbers [] e = []
setting_numbers (n ∷ ns) e = sort_number (slot n e) ∷ value_number (slot n e) ∷ setting_numbers ns e

-- six numbers: the settings of the kind in the order in which they are answered
abbrev pub edition_numbers : Kind → Edition → List ℕ
edition_numbers kind e = padded 6 (setting_numbers (settings kind) e)

abbrev pub editions_numbers : Kind → List Edition → List ℕ
editions_numbers kind [] = []
editions_numbers kind (e ∷ es) = edition_numbers kind e ++ editions_numbers kind es

-- at 64 how many there are, and those
abbrev pub editions_part : Kind → List Edition → List ℕ
editions_part kind es = length es ∷ padded 24 (editions_numbers kind es)

-- the numbers of a channel; the last id seen is told by the first one above it. The kind is that of a sound one: any
-- other has none that counts, and the last byte of its name is looked at alone
unfoldable pub numbers_of : View → List ℕ
numbers_of v =
    state_number v.state ∷ first_above v.last ∷ length v.queue ∷ length v.name
    ∷ padded 16 (queue_numbers (kind_by v.name) v.queue) ++ padded 44 v.name
    ++ editions_part (kind_by v.name) v.editions

abbrev pub state_at : ℕ → Option State
state_at zero = some Idle
state_at (suc zero) = some Speaking
state_at (suc (suc zero)) = some Paused
state_at (suc (suc (suc zero))) = some Recognizing
state_at (suc (suc (suc (suc zero)))) = some Recognized
state_at (suc (suc (suc (suc (suc n))))) = none

abbrev pub last_at : ℕ → O.Option ℕ
last_at zero = None
last_at (suc id) = Some id

-- unlike `id_in`, not cut to 32 bits: a number outside its range is no sound channel's
abbrev pub entry_at : ℕ → Entry
entry_at n = record { id = n / 2; kill = kill_in n; threshold = 0 }

-- entries with other thresholds
abbrev pub leveled : List Entry → List ℕ → List Entry
leveled [] levels = []
leveled (e ∷ queue) [] = []
leveled (e ∷ queue) (n ∷ levels) = record { id = e.id; kill = e.kill; threshold = n } ∷ leveled queue levels

-- n numbers from `at` on
abbrev pub numbers_at : ℕ → ℕ → List ℕ → List ℕ
numbers_at at zero ws = []
numbers_at at (suc n) ws = get_or ws at 0 ∷ numbers_at (suc at) n ws

abbrev pub entries_at : Kind → ℕ → List ℕ → List Entry
entries_at Kind.Synthesizer n ws = map entry_at (numbers_at 4 n ws)
entries_at Kind.Recognizer n ws = leveled (map entry_at (numbers_at 4 n ws)) (numbers_at 12 n ws)

-- the setting of a sort and a value: none where there is no such sort or flag
abbrev pub flag_at : ℕ → Option Setting
flag_at zero = some (Setting.Flag false)
flag_at (suc zero) = some (Setting.Flag true)
flag_at (suc (suc n)) = none

abbrev pub setting_at : ℕ → ℕ → Option Setting
setting_at zero value = some Setting.Unset
setting_at (suc zero) value = flag_at value
setting_at (suc (suc zero)) value = some (Setting.Millis value)
setting_at (suc (suc (suc zero))) value = some (Setting.Level (record { millionths = value; single = single value }))
setting_at (suc (suc (suc (suc n)))) value = none

-- an edition with these settings from `at` on, all others unset
abbrev pub with_setting : Name → Option Setting → Option Edition → Option Edition
with_setting n none e = none
with_setting n (some x) none = none
with_setting n (some x) (some e) = some (with_slot n x e)

abbrev pub edition_from : List Name → ℕ → List ℕ → Option Edition
edition_from [] at ws = some unset
edition_from (n ∷ ns) at ws =
    with_setting n (setting_at (get_or ws at 0) (get_or ws (at + 1) 0)) (edition_from ns (at + 2) ws)

-- n editions from `at` on
abbrev pub joining : Option Edition → Option (List Edition) → Option (List Edition)
joining none es = none
joining (some e) none = none
joining (some e) (some es) = some (e ∷ es)

abbrev pub editions_from : Kind → ℕ → ℕ → List ℕ → Option (List Edition)
editions_from kind at zero ws = some []
editions_from kind at (suc n) ws = joining (edition_from (settings kind) at ws) (editions_from kind (at + 6) n ws)

abbrev pub editions_in : Kind → List ℕ → Option (List Edition)
editions_in kind ws = editions_from kind 65 (get_or ws 64 0) ws

abbrev pub name_in : List ℕ → List ℕ
name_in ws = numbers_at 20 (get_or ws 3 0) ws

abbrev pub view_with : List ℕ → State → List Edition → View
view_with ws state es = record {
  name = name_in ws;
  state = state;
  queue = entries_at (kind_by (name_in ws)) (get_or ws 2 0) ws;
  last = last_at (get_or ws 1 0);
  editions = es;
}

abbrev pub view_at : List ℕ → Option State → Option (List Edition) → Option View
view_at ws none es = none
view_at ws (some state) none = none
view_at ws (some state) (some es) = some (view_with ws state es)

-- the channel that 89 numbers are, sound or not; none where there is no such state or setting. A sound one has at most
-- 16 or 8 outstanding, a name of at most 44 bytes and at most four editions, so of its numbers those past the counts
-- and past the size are not looked at
unfoldable pub view_of : List ℕ → Option View
view_of ws = view_at ws (state_at (get_or ws 0 0)) (editions_in (kind_by (name_in ws)) ws)

abbrev pub is_sound : Option View → Bool
is_sound none = false
is_sound (some v) = sound v

-- the numbers of an entry, and of a byte
abbrev pub is_entry : ℕ → Bool
is_entry n = ltb n 8589934592

abbrev pub is_byte : ℕ → Bool
is_byte n = ltb n 256
