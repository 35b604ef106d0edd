-- The answer where a test has been made, one law for each way.
-- Assumes nothing.
use Prim.Native.Nat.{ℕ}
use mathlib.Core.Path.{◌≡◌}
use mathlib.Core.Bool.{true, false, ◌&&◌}
use mathlib.Core.Option.{none}
use mathlib.Core.List.{List}
use lib.Dec.{ltb}
use lib.ListN.{length, drop}
use Rattle.readers.specs.Readers.{got}
use Rattle.readers.specs.Words.{line}
use Rattle.framing.specs.declared.Opening.{Opening}
use Rattle.whose.specs.Whose.{of_line, window, of_opening}
use Rattle.std.specs.Prelude.{Err}
use Rattle.whose.specs.declared.NoId.TheVariants.{More, TooShort, Malformed}

module _ (k stated lent : ℕ) where
  pub no_more : ltb lent 128 && ltb lent stated ≡ false → of_line k stated lent none ≡ Err Malformed
  no_more e = rw (e, of_line)

  pub want_more : ltb lent 128 && ltb lent stated ≡ true → of_line k stated lent none ≡ Err More
  want_more e = rw (e, of_line)

module _ (s : List ℕ) (o : Opening) (k : ℕ) where
  pub too_short : ltb o.stated k ≡ true → of_opening s (got o k) ≡ Err TooShort
  too_short e = rw (e, of_opening)

  pub by_line_lem : ltb o.stated k ≡ false
      → of_opening s (got o k) ≡ of_line k o.stated (length s) (line (drop k (window o.stated s)))
  by_line_lem e = rw (e, of_opening)
