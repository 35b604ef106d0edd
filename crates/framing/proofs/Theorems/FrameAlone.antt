-- A frame's own bytes alone are framed alike; and after a frame or refusal 2, 3 or 4 more bytes change nothing.
-- Assumes nothing.
use mathlib.Core.Path.{◌≡◌}
use mathlib.Core.List.{List, ◌++◌}
use Prim.Native.Nat.{ℕ}
use native.Mathlib.Omega.{arith}
use lib.ListN.{take}
use lib.Seq.{length-take-le}
use Rattle.framing.specs.Framing.{Frame, framing, refusal}
use Rattle.framing.proofs.Frames.{frame_opened, opened_frame, still_opened, unchanged}

pub frame_alone : (s : List ℕ) (a b k n : ℕ) → framing s ≡ Frame a b k n → framing (take n s) ≡ Frame a b k n
frame_alone s a b k n e =
    let h = frame_opened s a b k n e in
    opened_frame (take n s) a b k n (record {
      opened = still_opened s _ k n h.fits.opens h.opened;
      fits = omega (arith, h.fits, length-take-le n s h.fits.there);
    })

pub more_bytes : (s t : List ℕ) → (refusal (framing s) ≡ 1 → ⊥) → framing (s ++ t) ≡ framing s
more_bytes s t h = unchanged s t h
