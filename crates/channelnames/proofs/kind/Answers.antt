-- `channelnames::kind` looks at the last byte, then at the last twelve. Assumes nothing.
use Prim.Native.Nat.{◌-◌, ◌≤◌}
use mathlib.Core.Path.{◌≡◌, sym, ◌∙◌}
use native.Mathlib.Omega.{arith}
use lib.ListN.{length, get_or}
use lib.Seq.{get_or-take}
use Rattle.channelnames.specs.Names.{name_of}
use Rattle.channelnames.proofs.Names.{bytes_44, size_is, within}
use Rattle.channelnames.proofs.Tails.{recognizes, synthesizes, short_kind, other_end, long_kind, end_at}
use Rattle.channelnames.proofs.kind.Goals as goal
use Rattle.channelnames.proofs.kind.Goals.{then-size-lt-RESOURCE-via-then-size-lt-RESOURCE, then-size-lt-RESOURCE-via-else-size-lt-RESOURCE+then-size-gt-LONGEST}

pub returns-then-size-lt-RESOURCE : goal.returns-then-size-lt-RESOURCE
returns-then-size-lt-RESOURCE c =
    let n = c.args.n in
    let size = size_is n _ c.well_formed.0 in
    elim c.then-size-lt-RESOURCE.branch [
      | then-size-lt-RESOURCE-via-then-size-lt-RESOURCE w ↦ sym (short_kind (name_of n) (omega (arith, size, w.if-size-lt-RESOURCE.true)))
      | then-size-lt-RESOURCE-via-else-size-lt-RESOURCE+then-size-gt-LONGEST w ↦ sym (long_kind n (bytes_44 n _ c.well_formed.0) w.if-size-gt-LONGEST.true size)
    ]

pub returns-then-bytes-size-ne103 : goal.returns-then-bytes-size-ne103
returns-then-bytes-size-ne103 c =
    let n = c.args.n in
    let size = size_is n _ c.well_formed.0 in
    let left : n.size ≤ 44 = c.if-size-gt-LONGEST.false in
    let some : 12 ≤ n.size = c.if-size-lt-RESOURCE.false in
    let last : get_or (name_of n) (length (name_of n) - 1) 0 ≡ get_or n.bytes (n.size - 1) 0 =
    rw (size, within n left) (get_or-take n.size n.bytes (n.size - 1) 0 (omega (arith, some))) in
    sym (other_end (name_of n) (omega (arith, size, some)) (λ e. c.if-bytes-size-ne103.true (sym last ∙ e)))

pub returns-then-equal : goal.returns-then-equal
returns-then-equal c =
    let n = c.args.n in
    sym (recognizes (name_of n) (end_at n (size_is n _ c.well_formed.0) c.if-size-lt-RESOURCE.false c.if-size-gt-LONGEST.false ∙ sym c.equal.ensures ∙ c.if-equal.true))

pub returns-else-equal : goal.returns-else-equal
returns-else-equal c =
    let n = c.args.n in
    sym (synthesizes (name_of n) (end_at n (size_is n _ c.well_formed.0) c.if-size-lt-RESOURCE.false c.if-size-gt-LONGEST.false ∙ sym c.equal.ensures ∙ c.if-equal.false))
