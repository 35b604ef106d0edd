-- Writable messages written end to end read as the list of them.
-- Assumes nothing.
use Prim.Native.Nat.{ℕ, zero, suc, ◌≤◌}
use native.Mathlib.Nat.{le_of_suc-le-suc, not-suc-le-zero}
use native.Mathlib.Omega.{arith}
use mathlib.Core.Path.{◌≡◌, refl, ap}
use mathlib.Core.List.{List, [], ◌∷◌}
use lib.ListN.{length, length-append}
use lib.Seq.{drop-append_seam}
use Rattle.lists.specs.Lists.{All}
use Rattle.message.specs.Message.{Message}
use Rattle.message.specs.Reading.{messages_in}
use Rattle.answer.specs.Written.{written, written_all}
use Rattle.answer.specs.Writable.{Writable}
use Rattle.answer.proofs.Frames.{written_some}
use Rattle.answer.proofs.Reading.{nothing_read}
use Rattle.answer.proofs.Theorems.ReadBack.{read_back}

pub messages_back : (ms : List Message) → All Writable ms → (most : ℕ) → length ms ≤ most → messages_in most (written_all ms) ≡ ms
unfolding messages_in written_all
messages_back [] w zero l = refl
messages_back [] w (suc most) l = rw (nothing_read, messages_in)
messages_back (m ∷ ms) w zero l = absurd (not-suc-le-zero l)
messages_back (m ∷ ms) w (suc most) l =
    rw (read_back m (written_all ms) w.0, drop-append_seam (written m) (written_all ms), messages_in)
    (ap (◌∷◌ m) (messages_back ms w.1 most (le_of_suc-le-suc l)))

some_bytes : (ms : List Message) → length ms ≤ length (written_all ms)
unfolding written_all
some_bytes [] = omega arith
some_bytes (m ∷ ms) = omega (arith, length-append (written m) (written_all ms), written_some m, some_bytes ms)

-- as many as there are bytes are enough
pub all_back : (ms : List Message) → All Writable ms → messages_in (length (written_all ms)) (written_all ms) ≡ ms
all_back ms w = messages_back ms w (length (written_all ms)) (some_bytes ms)
