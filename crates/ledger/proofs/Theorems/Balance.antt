-- The ledger stays in balance over every run whose calls each have an effect: some of those held are closed, and what is accepted joins the
-- rest with ids above all that came before. Assumes nothing.
use Prim.Native.Nat.{ℕ}
use mathlib.Core.Path.{◌≡◌}
use mathlib.Core.List.{List, []}
use Rattle.lists.proofs.Rising.{ascends_distinct}
use Rattle.ledger.specs.Ledger.{Exchange, accepted, Balanced, Run}
use Rattle.ledger.proofs.Effects.{Effect, at_first}
use Rattle.ledger.proofs.Runs.{prior_cut, holds_run}

module _ {S C R : Type 0} (accepts closes : C → R → List ℕ) (Gives : S → C → R → S → Type 0) (held : S → List ℕ) (bound : S → ℕ)
    (effect : (s : S) (c : C) (r : R) (s' : S) → Gives s c r s' → Effect (held s) (bound s) (accepts c r) (closes c r) (held s') (bound s')) where
  pub balance : {s s' : S} {xs : List (Exchange C R)} → held s ≡ [] → Run Gives s xs s' → Balanced accepts closes xs (held s')
  balance {s} {s'} {xs} e u =
      let h = holds_run accepts closes Gives held bound effect u [] [] (rw e (at_first (bound s))) in
      record {
        accepted_once = ascends_distinct 0 (accepted accepts closes xs) (bound s') h.1.rising;
        closed_once = h.1.once;
        accepted_before = λ before x rest q id m. prior_cut accepts closes [] before x rest (rw q at h.0) id m;
        open_held = h.1.rest;
      }
