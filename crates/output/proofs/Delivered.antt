-- What is returned and what the lent output holds, where the bytes fit it and where they do not.
-- Assumes nothing.
use Prim.Native.Nat.{ℕ, ◌<◌}
use native.Mathlib.Omega.{arith}
use mathlib.Core.Path.{◌≡◌, ap, ◌∙◌}
use mathlib.Core.List.{List}
use lib.ListN.{length}
use borrow.Author.Tests.{lt-ltb, le-ltb}
use Rattle.std.specs.Prelude.{Ok, Err}
use Rattle.writers.specs.Buffer.{Wrote}
use Rattle.writers.proofs.Put.{put_front}
use Rattle.output.specs.Delivery.{delivered, counted}

pub fits : {bs out after : List ℕ} {n : ℕ} → Wrote out 0 bs after n → (Ok n ≡ counted bs out) × (after ≡ delivered bs out)
unfolding counted delivered
fits {bs} {out} {after} {n} w =
    let room = le-ltb (length out) (length bs) (omega arith) in
    let count : n ≡ length bs = omega arith in
    (rw (room, counted) (ap Ok count), rw (room, delivered) (w.bytes ∙ put_front out bs))

pub refused : (bs out : List ℕ) → length out < length bs → (Err (record {}) ≡ counted bs out) × (out ≡ delivered bs out)
unfolding counted delivered
refused bs out h = let short = lt-ltb (length out) (length bs) h in (rw (short, counted), rw (short, delivered))
