-- What the calls on a trace hand back: document 02, K7. include/klarvesimo.h is their manual.
use Rattle.std.specs.Prelude.{ℕ, zero, suc, ◌≡◌, List, [], ◌∷◌, ◌++◌, take, drop, Result, Ok, Err}
use lib.ListN.{get_or, set}
use Rattle.traces.specs.Traces.{message_of, recorded, with_message, finished, with_ending}
use Rattle.message.specs.declared.Span.{Span}
use Rattle.traces.specs.declared.Refusal.{Refusal}
use Rattle.traces.specs.declared.Recorded.{Recorded}
use Rattle.traces.specs.Refusals.{number_of}

-- a call's number, and the place lent for where a message begins and how long it is, as the call leaves it
pub record MessageCall : Type 0 where
  pub number : ℕ
  pub place : List ℕ

abbrev pub entry_as : List ℕ → Result Span Refusal → MessageCall
entry_as place (Err r) = record { number = number_of r; place = place }
entry_as place (Ok p) = record { number = 0; place = set (set place 0 p.start) 1 p.len }

unfoldable pub message_face : List ℕ → ℕ → List ℕ → MessageCall
message_face f n place = entry_as place (message_of f n)

-- a call's number, the trace lent to it (bytes used, messages) and the lent output, as it leaves them
pub record RecordCall : Type 0 where
  pub number : ℕ
  pub trace : List ℕ
  pub out : List ℕ

abbrev pub recorded_as : List ℕ → List ℕ → Result Recorded Refusal → RecordCall
recorded_as trace out (Err r) = record { number = number_of r; trace = trace; out = out }
recorded_as trace out (Ok t) = record { number = 0; trace = set (set trace 0 t.used) 1 t.count; out = out }

-- recording one message behind what the trace has
abbrev pub recorded_in : List ℕ → List ℕ → ℕ → List ℕ → Result Recorded Refusal → RecordCall
recorded_in trace out used m r = recorded_as trace (with_message out used m r) r

unfoldable pub record_face : List ℕ → List ℕ → List ℕ → RecordCall
record_face out trace m =
    recorded_in trace out (get_or trace 0 0) m (recorded out (get_or trace 0 0) (get_or trace 1 0) m)

-- a call's number, the place lent for the file's length and the lent output, as it leaves them
pub record FinishCall : Type 0 where
  pub number : ℕ
  pub length : List ℕ
  pub out : List ℕ

abbrev pub finished_as : List ℕ → List ℕ → Result ℕ Refusal → FinishCall
finished_as place out (Err r) = record { number = number_of r; length = place; out = out }
finished_as place out (Ok n) = record { number = 0; length = set place 0 n; out = out }

unfoldable pub finish_face : List ℕ → ℕ → ℕ → List ℕ → FinishCall
finish_face out used count place =
    finished_as place (with_ending out used (finished out used count)) (finished out used count)

-- Calls of recording one after the other, on a trace that begins as two zeros; those that return 0 have recorded.

-- the messages recorded then: one more where the number is 0
abbrev pub joins : ℕ → List ℕ → List (List ℕ) → List (List ℕ)
joins zero m ms = ms ++ m ∷ []
joins (suc number) m ms = ms

pub data Calls : List (List ℕ) → List ℕ → List ℕ → Type 0 where
  begun : (out : List ℕ) → Calls [] out (0 ∷ 0 ∷ [])
  called : (ms : List (List ℕ)) (out trace : List ℕ) → Calls ms out trace → (m : List ℕ) (c : RecordCall)
      → c ≡ record_face out trace m → Calls (joins c.number m ms) c.out c.trace

-- message k of the file f is told to be m
pub record Told (f : List ℕ) (k : ℕ) (m : List ℕ) : Type 0 where
  pub start : ℕ
  pub len : ℕ
  pub says : (place : List ℕ) → message_face f k place ≡ record { number = 0; place = set (set place 0 start) 1 len }
  pub there : take len (drop start f) ≡ m
