-- The part of a text at a place inside it.
-- Assumes nothing.
use mathlib.Core.Path.{◌≡◌, ap}
use mathlib.Core.List.{List}
use Prim.Native.Nat.{ℕ, ◌+◌, ◌-◌}
use native.Mathlib.Omega.{arith}
use lib.ListN.{take, drop}
use Rattle.message.specs.Message.{part}
use Rattle.message.specs.declared.Span.{Span}

module _ (s : List ℕ) (p : Span) where
  pub part_in : take (p.start + p.len - p.start) (drop p.start s) ≡ part s p
  part_in = let e : p.start + p.len - p.start ≡ p.len = omega arith in ap (λ n. take n (drop p.start s)) e
