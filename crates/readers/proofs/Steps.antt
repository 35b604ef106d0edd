-- How `byte`, of which all readers are made, goes at a byte, and at a position of the bytes.
-- Assumes nothing.
use mathlib.Core.Path.{◌≡◌}
use mathlib.Core.Bool.{Bool, true, false}
use mathlib.Core.List.{List, ◌∷◌}
use Prim.Native.Nat.{ℕ, ◌+◌, ◌<◌}
use lib.ListN.{length, get_or, drop}
use Rattle.readers.specs.Readers.{Read, Reader, after, byte}
use Rattle.readers.proofs.Positions.{here}

module _ {A : Type 0} (test : ℕ → Bool) (f : ℕ → Reader A) (other : Read A) (x : ℕ) (s : List ℕ) where
  pub byte_yes : test x ≡ true → byte test f other (x ∷ s) ≡ after 1 (f x s)
  byte_yes e = rw (e, byte)

  pub byte_no : test x ≡ false → byte test f other (x ∷ s) ≡ other
  byte_no e = rw (e, byte)

module _ {A : Type 0} (test : ℕ → Bool) (f : ℕ → Reader A) (other : Read A) (s : List ℕ) (i : ℕ) where
  pub yes_at : i < length s → test (get_or s i 0) ≡ true
      → byte test f other (drop i s) ≡ after 1 (f (get_or s i 0) (drop (i + 1) s))
  yes_at l e = rw (here s i l) (byte_yes test f other (get_or s i 0) (drop (i + 1) s) e)

  pub no_at : i < length s → test (get_or s i 0) ≡ false → byte test f other (drop i s) ≡ other
  no_at l e = rw (here s i l) (byte_no test f other (get_or s i 0) (drop (i + 1) s) e)
