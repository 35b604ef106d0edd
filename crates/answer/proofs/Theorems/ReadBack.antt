-- Whatever is written can be read: a writable message at the front of any bytes reads as that message, with no bad fields, and the
-- length stated, which is what a reader consumes, is exactly the count of bytes written.
-- Assumes nothing.
use Prim.Native.Nat.{ℕ}
use mathlib.Core.Path.{◌≡◌}
use mathlib.Core.List.{List, ◌++◌}
use lib.ListN.{length}
use Rattle.message.specs.Message.{message, Message, good}
use Rattle.message.specs.Reading.{read_bytes}
use Rattle.answer.specs.Written.{written}
use Rattle.answer.specs.Writable.{Writable}
use Rattle.answer.proofs.Reading.{parts_stand}

pub read_back : (m : Message) (rest : List ℕ) → Writable m
    → read_bytes (written m ++ rest) ≡ message (record { stated = length (written m); major = 2; minor = 0 }) m.start (good m.fields m.body)
read_back m rest w = parts_stand m rest w
