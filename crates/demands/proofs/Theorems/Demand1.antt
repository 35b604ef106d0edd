-- DEMAND 1 OF THE CODE. Every call of `handle`, `report` and `go_back` that keeps its contract's promise, on any channel,
-- with any editions, input, cause or edition's number and any output, is answered as the table of refusals says. Where a
-- line is due, the first such line's number and count come back with the very channel, and no byte is written; where
-- none is, 0, the stated length, and the exact answer at the front of the output, its rest as it was. A sound channel
-- stays sound. Assumes nothing.
use Prim.Native.Nat.{ℕ}
use mathlib.Core.Path.{◌≡◌, sym, ap, ◌∙◌}
use mathlib.Core.Bool.{false≢true}
use mathlib.Core.Option.{Option, none, some}
use lib.Dec.{eqb}
use lib.ListN.{length}
use Rattle.ledger.specs.Ledger.{Turn}
use Rattle.synth.specs.Channel.{View}
use Rattle.synth.specs.Calls.{Reply, call}
use Rattle.synth.proofs.Theorems.Soundness.{call_sound}
use Rattle.channel.specs.Channel.{view}
use Rattle.calls.specs.Promise.{Left, left_by, returned}
use Rattle.demands.specs.Demands.{Line, outcome, stated, table, first_due, ByTable, Demand1OfTheCode}
use Rattle.demands.proofs.Lines.{Gives, tabled}

pub demand1_of_the_code : Demand1OfTheCode
demand1_of_the_code last c es lent out r after p =
    let v = view last c es in (
      by_line_lem (first_due (table v lent (length out))) (tabled v lent (length out)),
      λ s. rw (ap (λ (l : Left). l.channel) p.same) (call_sound v (record { lent = lent; room = length out }) s),
    )
  where
    t : Turn View Reply
    t = call (view last c es) (record { lent = lent; room = length out })

    by_line_lem : (o : Option Line) → Gives (view last c es) (stated lent) (outcome (view last c es) lent) o t → ByTable o last c es lent out r after
    by_line_lem none e = p.same ∙ ap (λ (t : Turn View Reply). left_by t out) e
    by_line_lem (some l) (e, not_0, x) =
        let same = p.same ∙ ap (λ (t : Turn View Reply). left_by t out) e in
        let number : (returned last c r).number ≡ l.number = ap (λ (x : Left). x.number) same in
        let kept = p.kept (λ z. false≢true (sym not_0 ∙ ap (λ (n : ℕ). eqb n 0) (sym number ∙ z))) in (
          λ i. record {
            number = number i;
            consumed = (same i).consumed;
            written = (same i).written;
            last = kept.0 i;
            channel = kept.1 i;
            further = kept.2 i;
          },
          λ i. (same i).out,
        )
