-- A message says on its first line that it is 4,000 bytes long, and 200 have come. As C sees it: 1, nothing consumed
-- and nothing written, and channel and output as they were, so as often as it is asked, until the 4,000 are there.
-- Assumes nothing.
use Prim.Native.Nat.{ℕ, ◌≤◌, ◌<◌}
use mathlib.Core.Path.{◌≡◌, ap, ◌∙◌}
use mathlib.Core.Bool.{true}
use mathlib.Core.Option.{none, some}
use mathlib.Core.List.{List, [], ◌∷◌, ◌++◌}
use lib.ListN.{length}
use borrow.Author.Tests.{le-ltb}
use Rattle.framing.specs.Framing.{Framing}
use Rattle.framing.proofs.Theorems.Waiting.{two_hundred, still_asks, handed_out}
use Rattle.synth.specs.Channel.{sound}
use Rattle.demands.specs.Demands.{given, table}
use Rattle.demands.specs.FromC.{handles, frames, on, returned, refusals, channel_in, frame_numbers, at_front}
use Rattle.demands.proofs.Theorems.Demand1FromC.{where_due}

-- whatever comes behind the 200
module _ (t : List ℕ) where
  module _ (few : length (two_hundred ++ t) < 4000) where
    pub frame_waits : (out : List ℕ) → returned (frames (two_hundred ++ t) out) ≡ record { number = 1; out = out }
    frame_waits out =
        where_due (frames (two_hundred ++ t) out) tt (some (given 1 true 0))
        (unfold refusals in rw (still_asks t few, refusals))

    pub handle_waits : (ws out counts : List ℕ) → sound (channel_in ws) ≡ true → length counts ≡ 2
        → returned (on ws (handles (two_hundred ++ t) out counts))
        ≡ record { number = 1; channel = ws; counts = 0 ∷ 0 ∷ []; out = out }
    handle_waits ws out counts s two =
        where_due (on ws (handles (two_hundred ++ t) out counts)) two (some (given 1 true 0))
        (unfold refusals table in rw (s, still_asks t few, refusals, table))

  pub frame_comes : 4000 ≤ length (two_hundred ++ t) → (out : List ℕ) → 4 ≤ length out
      → returned (frames (two_hundred ++ t) out) ≡ record { number = 0; out = at_front (2 ∷ 0 ∷ 14 ∷ 4000 ∷ []) out }
  frame_comes all out room =
      let is = handed_out t all in
      where_due (frames (two_hundred ++ t) out) tt none
      (unfold refusals in rw (is, le-ltb (length out) 4 room, refusals))
      ∙ ap (λ (x : Framing). record { number = 0; out = at_front (frame_numbers x) out }) is
