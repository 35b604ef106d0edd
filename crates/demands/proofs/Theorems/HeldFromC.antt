-- Whatever calls came on a channel that was opened, `klarvesimo_held` gives the ids that were accepted and not closed,
-- in order of acceptance: the ledger balances, the channel stays sound, and a sound one holds at most 16. Assumes
-- nothing.
use Prim.Native.Nat.{ℕ, ◌≤◌}
use mathlib.Core.Path.{◌≡◌, sym, ap, ◌∙◌}
use mathlib.Core.Bool.{true}
use mathlib.Core.Option.{none}
use mathlib.Core.List.{List, [], ◌∷◌}
use native.Mathlib.Omega.{arith}
use lib.ListN.{length, length-map}
use borrow.Author.Tests.{le-ltb}
use Rattle.synth.specs.Channel.{held, sound}
use Rattle.calls.proofs.Leaving.{queue_short}
use Rattle.klarvesimo.specs.Face.{HeldCall}
use Rattle.demands.specs.Demands.{first_due}
use Rattle.demands.specs.FromC.{lists, on, refusals, channel_in, at_front, HeldOfTheFace}
use Rattle.demands.proofs.Theorems.Soundness.{stays}
use Rattle.demands.proofs.Theorems.Demand1FromC.{where_due}
use Rattle.demands.proofs.Theorems.Demand3FromC.{each_meets, demand3_of_the_face}
use Rattle.demands.proofs.Theorems.SoundnessFromC.{opened_face}

-- these ids at the front of the lent numbers, and how many they are
abbrev listing : List ℕ → List ℕ → HeldCall
listing ids out = record { number = 0; count = length ids ∷ []; ids = at_front ids out }

-- no line is due on the numbers of a sound channel, where 16 numbers are lent
none_due : (ws out count : List ℕ) → sound (channel_in ws) ≡ true → 16 ≤ length out
    → first_due (refusals (on ws (lists out count))) ≡ none
unfolding refusals
none_due ws out count s room =
    let v = channel_in ws in
    let fits : length (held v) ≤ length out = rw length-map (omega (arith, queue_short v s)) in
    rw (s, le-ltb (length out) (length (held v)) fits, refusals)

pub held_of_the_face : HeldOfTheFace
held_of_the_face name calls last out count opened run room place =
    let s = (stays channel_in (each_meets run) (opened_face name opened)).0 in
    where_due (on last (lists out count)) place none (none_due last out count s room)
    ∙ ap (λ (ids : List ℕ). listing ids out) (sym (demand3_of_the_face name calls last run).open_held)
