-- `channelnames::kind_by` looks at the last byte, where there is one in the array. Assumes nothing.
use Prim.Native.Nat.{◌-◌, ◌≤◌}
use mathlib.Core.Path.{◌≡◌, sym, ◌∙◌}
use native.Mathlib.Omega.{arith}
use lib.ListN.{length, get_or}
use lib.Seq.{get_or-take}
use borrow.Author.Tests.{eq-eqb, ne_eqb}
use Rattle.channelnames.specs.Names.{name_of, kind_by}
use Rattle.channelnames.proofs.Names.{bytes_44, size_is, within}
use Rattle.channelnames.proofs.Tails.{empty_by, long_by}
use Rattle.channelnames.proofs.kind_by.Goals as goal
use Rattle.channelnames.proofs.kind_by.Goals.{Start, then-size-eq0-via-then-size-eq0, then-size-eq0-via-else-size-eq0+then-size-gt-LONGEST}

-- the last byte of the name is that of the array at the size
last_is : (c : Start) → let n = c.args.n in (n.size ≡ 0 → ⊥) → n.size ≤ 44
    → get_or (name_of n) (length (name_of n) - 1) 0 ≡ get_or n.bytes (n.size - 1) 0
last_is c some few =
    let n = c.args.n in
    rw (size_is n _ c.well_formed.0, within n few) (get_or-take n.size n.bytes (n.size - 1) 0 (omega (arith, some)))

pub returns-then-size-eq0 : goal.returns-then-size-eq0
returns-then-size-eq0 c =
    let n = c.args.n in
    let good = c.well_formed.0 in
    elim c.then-size-eq0.branch [
      | then-size-eq0-via-then-size-eq0 w ↦ sym (empty_by (name_of n) (size_is n _ good ∙ w.if-size-eq0.true))
      | then-size-eq0-via-else-size-eq0+then-size-gt-LONGEST w ↦ sym (long_by n (bytes_44 n _ good) w.if-size-gt-LONGEST.true (size_is n _ good))
    ]

pub returns-then-bytes-size-eq103 : goal.returns-then-bytes-size-eq103
returns-then-bytes-size-eq103 c =
    rw (last_is (goal.at.returns-then-bytes-size-eq103 c).Start c.if-size-eq0.false c.if-size-gt-LONGEST.false, eq-eqb _ 103 c.if-bytes-size-eq103.true, kind_by)

pub returns-else-bytes-size-eq103 : goal.returns-else-bytes-size-eq103
returns-else-bytes-size-eq103 c =
    rw (last_is (goal.at.returns-else-bytes-size-eq103 c).Start c.if-size-eq0.false c.if-size-gt-LONGEST.false, ne_eqb _ 103 c.if-bytes-size-eq103.false, kind_by)
