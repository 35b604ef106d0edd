-- The queue that the code keeps, as document 01 has it; which entries a mask marks; which ids are listed.
use Rattle.std.specs.Prelude.{ℕ, suc, ◌-◌, ◌/◌, ◌%◌, ◌≤◌, ◌≡◌, Bool, true, false, ◌&&◌, not, List, [], ◌∷◌, ◌++◌, eqb, length, take, replicate}
use Rattle.std.specs.Bool.{beq}
use Rattle.lists.specs.Lists.{put, bit}
use Rattle.answer.specs.declared.Kind.{Kind}
use Rattle.synth.specs.Kinds.{is_state_of}
use Rattle.synth.specs.Channel.{is_busy, ids}
use Rattle.synth.specs.declared.State.{State}
use Rattle.synth.specs.declared.Entry.{Entry}
use Rattle.queue.specs.declared.Queue.{Queue}
use Rattle.queue.specs.declared.Ids.{Ids}
use Rattle.queue.specs.declared.Ended.{Ended}

-- what the array holds past the count
abbrev pub no_entry : Entry
no_entry = record { id = 0; kill = false; threshold = 0 }

-- what a request's number tells: its id doubled, and one more where barge-in kills it
abbrev pub id_in : ℕ → ℕ
id_in n = n / 2 % 4294967296

abbrev pub kill_in : ℕ → Bool
kill_in n = eqb (n % 2) 1

-- a threshold's number tells millionths, at most one: none is out of range
abbrev pub level_in : ℕ → ℕ
level_in n = n % 1000001

abbrev pub entry_in : ℕ → ℕ → Entry
entry_in n threshold = record { id = id_in n; kill = kill_in n; threshold = level_in threshold }

abbrev pub entries_of : List ℕ → List ℕ → List Entry
entries_of [] levels = []
entries_of (n ∷ numbers) [] = []
entries_of (n ∷ numbers) (m ∷ levels) = entry_in n m ∷ entries_of numbers levels

-- the outstanding requests. A count past the array's length is seen too, so that no such queue looks sound
unfoldable pub list_of : Queue → List Entry
list_of q = take q.count (entries_of q.numbers q.thresholds) ++ replicate (q.count - 16) no_entry

abbrev pub empty_queue : Queue
empty_queue = record { numbers = replicate 16 0; thresholds = replicate 16 0; count = 0 }

-- the active one, where there is one
abbrev pub first : List Entry → Entry
first [] = no_entry
first (e ∷ queue) = e

abbrev pub is_synthesizer : Kind → Bool
is_synthesizer Kind.Synthesizer = true
is_synthesizer Kind.Recognizer = false

-- a state of that kind, in which some are outstanding unless `none` are
abbrev pub fits_in : Kind → State → Bool → Bool
fits_in kind state none = is_state_of kind state && beq (is_busy state) (not none)

-- the entries whose bit, from bit j on, is as wanted
abbrev pub marked : Bool → ℕ → ℕ → List Entry → List Entry
marked want mask j [] = []
marked want mask j (e ∷ queue) = put (beq (bit mask j) want) e (marked want mask (suc j) queue)

abbrev pub no_ids : Ids
no_ids = record { ids = replicate 16 0; count = 0 }

-- these ids are listed
pub record Lists (listed : List ℕ) (r : Ids) : Type 0 where
  pub shown : take r.count r.ids ≡ listed
  pub counted : r.count ≡ length listed
  pub few : r.count ≤ 16

-- of a queue, those that the mask marks are listed, and the others remain
pub record Ends (mask : ℕ) (queue : List Entry) (r : Ended) : Type 0 where
  pub lists : Lists (ids (marked true mask 0 queue)) r.listed
  pub left : list_of r.queue ≡ marked false mask 0 queue
