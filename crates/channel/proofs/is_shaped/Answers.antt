-- `channel::is_shaped` takes the conjuncts of soundness in the paper's order. Assumes nothing.
use Prim.Native.Nat.{◌≤◌}
use mathlib.Core.Path.{◌≡◌, refl, sym, ◌∙◌}
use mathlib.Core.Bool.{Bool, true, false, not, ◌&&◌, beq}
use lib.Dec.{leb}
use lib.ListN.{length}
use borrow.Author.Tests.{le-leb}
use Rattle.lists.specs.Lists.{is_empty, ascends}
use Rattle.answer.specs.declared.Kind.{Kind}
use Rattle.synth.specs.Kinds.{kind_of, most, is_state_of}
use Rattle.synth.specs.Channel.{well_named, is_busy, idle_unseen, first_above, ids, shaped}
use Rattle.queue.specs.Queue.{list_of}
use Rattle.channelnames.specs.Names.{name_of}
use Rattle.channelnames.proofs.Tails.{named_kind}
use Rattle.channel.proofs.is_shaped.Goals as goal
use Rattle.channel.proofs.is_shaped.Goals.{After-fits, Joined-fits, then-fits, else-fits}

-- a conjunct that holds
and_last : (a b : Bool) {d : Bool} → d ≡ true → (a && b && d) ≡ (a && b)
and_last true true e = e
and_last true false e = refl
and_last false b e = refl

module _ (c : After-fits) where
  named : well_named (name_of c.args.c.name) ≡ true
  named = sym c.is_well_named.ensures ∙ c.if-not-is_well_named.false

  kind_is : kind_of (name_of c.args.c.name) ≡ c.kind_by-kind.result
  kind_is = named_kind _ named ∙ sym c.kind_by-kind.ensures

  -- the tests of the state
  fitted : let ch = c.args.c in
      is_state_of (kind_of (name_of ch.name)) ch.state && beq (is_busy ch.state) (not (is_empty (list_of ch.queue))) ≡ c.fits.result
  fitted = rw (kind_is, ← c.is_empty.ensures) (sym c.fits.ensures)

-- and that none was seen on an idle channel alone
tested : (c : Joined-fits) → c.if-fits.value ≡ (c.fits.result && idle_unseen c.args.last c.args.c.state)
tested c =
    elim c.if-fits.branch [
      | then-fits w ↦ rw w.if-fits.true (w.value-is ∙ w.idle_unseen.ensures)
      | else-fits w ↦ rw w.if-fits.false (w.value-is ∙ w.if-fits.false)
    ]

pub returns-then-not-is_well_named : goal.returns-then-not-is_well_named
unfolding shaped
returns-then-not-is_well_named c es = rw (sym c.is_well_named.ensures ∙ c.if-not-is_well_named.true)

pub returns-else-idle_unseen : goal.returns-else-idle_unseen
unfolding shaped
returns-else-idle_unseen c es =
    let at = goal.at.returns-else-idle_unseen c in
    c.if-idle_unseen.false ∙ rw (named at.After-fits, fitted at.After-fits, sym (tested at.Joined-fits) ∙ c.if-idle_unseen.false)

pub returns-then-idle_unseen : goal.returns-then-idle_unseen
unfolding shaped
returns-then-idle_unseen c es =
    let at = goal.at.returns-then-idle_unseen c in
    let above = c.first_above.ensures in
    let in_range_lem : first_above c.args.last ≤ 4294967296 = rw (← above.0) above.1 in
    let q = c.args.c.queue in
    let last = c.args.last in
    let kind : Kind = kind_of (name_of c.args.c.name) in
    rw (named at.After-fits, fitted at.After-fits, sym (tested at.Joined-fits) ∙ c.if-idle_unseen.true)
    (c.is_rising.ensures ∙ rw (above.0, ← kind_is at.After-fits) (sym (and_last (leb (length (list_of q)) (most kind)) (ascends 0 (ids (list_of q)) (first_above last)) (le-leb (first_above last) 4294967296 in_range_lem))))
