-- Framing depends on the first 31 bytes and on how many bytes are lent, and on nothing else. Assumes nothing.
use mathlib.Core.Path.{◌≡◌, sym, ap, ◌∙◌}
use mathlib.Core.List.{List}
use Prim.Native.Nat.{ℕ}
use lib.ListN.{length, take}
use Rattle.framing.specs.Framing.{opening, framed, framing}
use Rattle.framing.proofs.Openings.{first_bytes}

pub by_first_bytes : (s : List ℕ) → framing s ≡ framed (opening (take 31 s)) (length s)
unfolding framing
by_first_bytes s = ap (λ r. framed r (length s)) (sym (first_bytes s))

-- inputs that agree on their first 31 bytes and on their lengths are framed alike
pub framed_alike : (s t : List ℕ) → take 31 s ≡ take 31 t → length s ≡ length t → framing s ≡ framing t
framed_alike s t e n =
    by_first_bytes s ∙ (λ i. framed (opening (e i)) (n i)) ∙ sym (by_first_bytes t)
