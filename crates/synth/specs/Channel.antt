-- A channel as it is viewed: document 01, "Numbers", "Refusal numbers" (soundness, opening) and "States and queue", and
-- document 02, K1 and K5.
use Rattle.std.specs.Prelude.{ℕ, suc, Bool, true, ◌&&◌, ◌||◌, not, List, [], ◌∷◌, map, leb, eqb, length, drop, Option, Some, None}
use Rattle.std.specs.Bool.{beq}
use Rattle.lists.specs.Lists.{run, all, same, is_empty, ascends}
use Rattle.octets.specs.Octets.{is_digit, is_letter}
use Rattle.answer.specs.declared.Kind.{Kind}
use Rattle.synth.specs.Kinds.{resource, kind_of, most, state_number, is_state_of}
use Rattle.synth.specs.Settings.{unset, is_edition_of, further}
use Rattle.synth.specs.declared.State.{State}
use Rattle.synth.specs.declared.State.TheVariants.{Idle, Speaking, Paused, Recognizing}
use Rattle.synth.specs.declared.Entry.{Entry}
use Rattle.synth.specs.declared.Edition.{Edition}

-- the outstanding requests, SPEAKs or RECOGNIZEs, stand in `queue`, the active one first, and the settings in `editions`, the newest
-- first
pub record View : Type 0 where
  pub name : List ℕ
  pub state : State
  pub queue : List Entry
  pub last : Option ℕ
  pub editions : List Edition

-- with another state and queue, with another last id, and with a further edition: all else of a view stays
abbrev pub with_queue : State → List Entry → View → View
with_queue state queue v = record { name = v.name; state = state; queue = queue; last = v.last; editions = v.editions }

abbrev pub with_last : Option ℕ → View → View
with_last last v = record { name = v.name; state = v.state; queue = v.queue; last = last; editions = v.editions }

abbrev pub with_edition : Edition → View → View
with_edition e v =
    record { name = v.name; state = v.state; queue = v.queue; last = v.last; editions = further e v.editions }

-- an opened channel is idle, with an empty queue, no request seen and one edition, all unset
abbrev pub fresh : List ℕ → View
fresh name = record { name = name; state = Idle; queue = []; last = None; editions = unset ∷ [] }

-- a channel name: 1 to 32 ASCII letters or digits, then `@speechsynth` or `@speechrecog`
unfoldable pub well_named : List ℕ → Bool
well_named name =
    let k : ℕ = run (λ b. is_letter b || is_digit b) name in
    leb 1 k && leb k 32 && same (drop k name) (resource (kind_of name))

abbrev pub kind : View → Kind
kind v = kind_of v.name

abbrev pub ids : List Entry → List ℕ
ids queue = map (λ (e : Entry). e.id) queue

-- the ids that the channel holds, in queue order
abbrev pub held : View → List ℕ
held v = ids v.queue

abbrev pub is : State → State → Bool
is s t = eqb (state_number s) (state_number t)

-- something is outstanding in these
abbrev pub is_busy : State → Bool
is_busy s = is s Speaking || is s Paused || is s Recognizing

-- none seen: idle
abbrev pub idle_unseen : Option ℕ → State → Bool
idle_unseen None s = is s Idle
idle_unseen (Some id) s = true

-- the first id above the last one seen; any is above on a fresh channel
abbrev pub first_above : Option ℕ → ℕ
first_above None = 0
first_above (Some id) = suc id

-- Its name is well formed, its state is one of its kind's, idle (a synthesizer) exactly when nothing is outstanding, recognizing (a recognizer)
-- exactly while any is, at most 16 or 8 are, and their ids rise in queue order with none above the last seen (none seen: idle), which is a
-- request-id.
unfoldable pub shaped : View → Bool
shaped v =
    well_named v.name
    && is_state_of (kind v) v.state
    && beq (is_busy v.state) (not (is_empty v.queue))
    && idle_unseen v.last v.state
    && leb (length v.queue) (most (kind v))
    && ascends 0 (held v) (first_above v.last)
    && leb (first_above v.last) 4294967296

-- one to four editions, with settings that reading can give
unfoldable pub are_editions : Kind → List Edition → Bool
are_editions kind es = leb 1 (length es) && leb (length es) 4 && all (is_edition_of kind) es

-- thresholds that reading can give: so many millionths, at most one
abbrev pub are_levels : List Entry → Bool
are_levels queue = all (λ (e : Entry). leb e.threshold 1000000) queue

unfoldable pub sound : View → Bool
sound v = shaped v && are_editions (kind v) v.editions && are_levels v.queue
