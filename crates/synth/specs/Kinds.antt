-- What each kind of channel has: document 01, "Numbers" and "States and queue", and document 02, K1 and K5.
use Rattle.std.specs.Prelude.{ℕ, ◌-◌, Bool, true, false, List, [], ◌∷◌, map, length, drop}
use Rattle.lists.specs.Lists.{same, elem}
use Rattle.octets.specs.Octets.{bytes}
use Rattle.answer.specs.declared.Kind.{Kind}
use Rattle.synth.specs.declared.State.{State}
use Rattle.synth.specs.declared.Method.{Method}

-- what a channel's name ends in
abbrev pub resource : Kind → List ℕ
resource Kind.Synthesizer = bytes "@speechsynth"
resource Kind.Recognizer = bytes "@speechrecog"

abbrev pub ends_in : List ℕ → List ℕ → Bool
ends_in l end = same (drop (length l - length end) l) end

-- the kind that a channel's name tells
unfoldable pub kind_of : List ℕ → Kind
kind_of name = elim (ends_in name (resource Kind.Recognizer)) [ true ↦ Kind.Recognizer | false ↦ Kind.Synthesizer ]

-- outstanding requests: at most so many
abbrev pub most : Kind → ℕ
most Kind.Synthesizer = 16
most Kind.Recognizer = 8

-- states and methods are told apart by number: a test names those that it is about, and no others
abbrev pub state_number : State → ℕ
state_number State.Idle = 0
state_number State.Speaking = 1
state_number State.Paused = 2
state_number State.Recognizing = 3
state_number State.Recognized = 4

abbrev pub method_number : Method → ℕ
method_number Method.Unknown = 0
method_number Method.Speak = 1
method_number Method.Stop = 2
method_number Method.Pause = 3
method_number Method.Resume = 4
method_number Method.Control = 5
method_number Method.BargeInOccurred = 6
method_number Method.Recognize = 7
method_number Method.StartInputTimers = 8
method_number Method.SetParams = 9
method_number Method.GetParams = 10

-- the states of a kind
abbrev pub states : Kind → List State
states Kind.Synthesizer = State.Idle ∷ State.Speaking ∷ State.Paused ∷ []
states Kind.Recognizer = State.Idle ∷ State.Recognizing ∷ State.Recognized ∷ []

abbrev pub is_state_of : Kind → State → Bool
is_state_of kind state = elem (state_number state) (map state_number (states kind))

-- the methods of a kind
abbrev pub methods : Kind → List Method
methods Kind.Synthesizer =
    Method.Speak ∷ Method.Stop ∷ Method.Pause ∷ Method.Resume ∷ Method.Control ∷ Method.BargeInOccurred ∷ Method.SetParams
    ∷ Method.GetParams ∷ []
methods Kind.Recognizer = Method.Recognize ∷ Method.Stop ∷ Method.StartInputTimers ∷ Method.SetParams ∷ Method.GetParams ∷ []

-- the method, where a channel of that kind has it: one of the other kind's is as unknown as any other name
abbrev pub method_in : Kind → Method → Method
method_in kind m = elim (elem (method_number m) (map method_number (methods kind))) [ true ↦ m | false ↦ Method.Unknown ]
