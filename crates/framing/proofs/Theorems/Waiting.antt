-- A message says on its first line that it is 4,000 bytes long, and 200 have come: refusal 1, as often as asked, until
-- the 4,000 are there. Assumes nothing.
use mathlib.Core.Path.{◌≡◌, refl, ap, ◌∙◌}
use mathlib.Core.List.{List, ◌++◌}
use Prim.Native.Nat.{ℕ, ◌≤◌, ◌<◌}
use lib.Dec.{lit≤}
use lib.ListN.{length, replicate}
use Rattle.octets.specs.Octets.{bytes}
use Rattle.readers.specs.Readers.{got}
use Rattle.std.specs.Prelude.{Err}
use Rattle.framing.specs.Framing.{Frame, opening, framed, framing}
use Rattle.framing.specs.declared.Opening.{Opening}
use Rattle.framing.specs.declared.NoFrame.TheVariants.{More}
use Rattle.framing.proofs.Frames.{measured_waits, measured_whole}

-- the start line of a SPEAK of 4,000 bytes, and whatever follows it up to 200
pub two_hundred : List ℕ
two_hundred = bytes "MRCP/2.0 4000 SPEAK 543257\r\n" ++ replicate 172 97

pub counted : length two_hundred ≡ 200
unfolding two_hundred
counted = refl

-- computed on the definition
pub asks_for_more : framing two_hundred ≡ Err More
unfolding framing opening two_hundred
asks_for_more = refl

abbrev says : Opening
says = record { major = 2; minor = 0; stated = 4000 }

-- whatever comes behind the 200
module _ (t : List ℕ) where
  opened : opening (two_hundred ++ t) ≡ got says 14
  unfolding opening two_hundred
  opened = refl

  as_opened : framing (two_hundred ++ t) ≡ framed (got says 14) (length (two_hundred ++ t))
  unfolding framing
  as_opened = ap (λ r. framed r (length (two_hundred ++ t))) opened

  -- fewer than 4,000 in all: refusal 1 again
  pub still_asks : length (two_hundred ++ t) < 4000 → framing (two_hundred ++ t) ≡ Err More
  still_asks h = as_opened ∙ measured_waits says 14 (length (two_hundred ++ t)) (lit≤ tt) (lit≤ tt) h

  -- 4,000 or more: the first 4,000 are the message
  pub handed_out : 4000 ≤ length (two_hundred ++ t) → framing (two_hundred ++ t) ≡ Frame 2 0 14 4000
  handed_out h = as_opened ∙ measured_whole says 14 (length (two_hundred ++ t)) (lit≤ tt) (lit≤ tt) h
