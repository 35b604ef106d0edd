-- A frame's own bytes alone read alike; and after a frame or refusal 2, 3 or 4 more bytes change nothing that is read.
-- Assumes nothing.
use mathlib.Core.Path.{◌≡◌, refl}
use mathlib.Core.List.{List, ◌++◌}
use Prim.Native.Nat.{ℕ}
use lib.ListN.{take}
use lib.Seq.{take-take, take-append-le}
use native.Mathlib.Nat.{le_refl}
use Rattle.framing.specs.Framing.{Frame, framing, refusal, frame_length}
use Rattle.framing.proofs.Frames.{length_there}
use Rattle.framing.proofs.Theorems.FrameAlone.{frame_alone, more_bytes}
use Rattle.message.specs.Reading.{reading, read_bytes}
use Rattle.message.proofs.Alike.{reading_alike, bytes_alike}

module _ (s : List ℕ) (a b k n : ℕ) (e : framing s ≡ Frame a b k n) where
  pub read_alone : reading (take n s) ≡ reading s
  read_alone = reading_alike (take n s) s (Frame a b k n) (frame_alone s a b k n e) e (take-take n n s (le_refl n))

  pub bytes_alone : read_bytes (take n s) ≡ read_bytes s
  bytes_alone = bytes_alike (take n s) s (Frame a b k n) (frame_alone s a b k n e) e (take-take n n s (le_refl n))

module _ (s t : List ℕ) (h : refusal (framing s) ≡ 1 → ⊥) where
  pub read_more : reading (s ++ t) ≡ reading s
  read_more = reading_alike (s ++ t) s (framing s) (more_bytes s t h) refl (take-append-le (frame_length (framing s)) s t (length_there s))

  pub bytes_more : read_bytes (s ++ t) ≡ read_bytes s
  bytes_more = bytes_alike (s ++ t) s (framing s) (more_bytes s t h) refl (take-append-le (frame_length (framing s)) s t (length_there s))
