-- The numbers with which reading refuses: 1 to 5. Assumes nothing.
use Prim.Native.Nat.{ℕ, ◌≤◌}
use mathlib.Core.Path.{◌≡◌}
use mathlib.Core.List.{List}
use native.Mathlib.Omega.{arith}
use lib.ListN.{take}
use Rattle.std.specs.Prelude.{Ok, Err}
use Rattle.framing.specs.Framing.{Framing, framing}
use Rattle.framing.specs.declared.NoFrame.TheVariants.{More, NoMessage, TooLong, TooShort}
use Rattle.message.specs.Message.{Head, Reading, refused, message, part, on_reading}
use Rattle.message.specs.StartLines.{Started, started, start_line}
use Rattle.message.specs.Reading.{read_from, read_framed, reading, read_bytes}

module _ (s : List ℕ) where
  -- a reading with a number of the table, and a message with none
  abbrev Numbered : Reading (List ℕ) → Type 0
  Numbered (refused n k) = (1 ≤ n) × (n ≤ 5)
  Numbered (message h st fs) = Unit {0}

  from_line : (h : Head) (f : List ℕ) (t : Started) → Numbered (on_reading (part s) (read_from h f t))
  from_line h f Started.malformed = (omega arith, omega arith)
  from_line h f (started st at) = tt

  from_framing : (f : Framing) → Numbered (on_reading (part s) (read_framed s f))
  from_framing (Err More) = (omega arith, omega arith)
  from_framing (Err NoMessage) = (omega arith, omega arith)
  from_framing (Err TooLong) = (omega arith, omega arith)
  from_framing (Err TooShort) = (omega arith, omega arith)
  from_framing (Ok f) = from_line _ (take f.length s) (start_line f.opening (take f.length s))

  pub refused_number : (n k : ℕ) → read_bytes s ≡ refused n k → (1 ≤ n) × (n ≤ 5)
  unfolding read_bytes reading
  refused_number n k e = rw e at (from_framing (framing s))
