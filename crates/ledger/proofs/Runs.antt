-- A run kept by its effects: what the invariant is at its end, and that each call closes only what was accepted before it. Assumes nothing.
use Prim.Native.Nat.{ℕ}
use mathlib.Core.Path.{◌≡◌}
use mathlib.Core.Bool.{true}
use mathlib.Core.List.{List, [], ◌∷◌, ◌++◌, append-nil, append_assoc}
use Rattle.lists.specs.Lists.{elem}
use Rattle.lists.proofs.Dealing.{split_elem}
use Rattle.ledger.specs.Ledger.{Exchange, accepted, closed, Run, ended, called, Turn, after, trace}
use Rattle.ledger.proofs.Effects.{Effect, Holds, held_open, holds_step}

module _ {C R : Type 0} (accepts closes : C → R → List ℕ) where
  -- each call closes only ids of acc and of those that the calls before it accepted
  abbrev pub Prior : List ℕ → List (Exchange C R) → Type 0
  Prior acc [] = Unit {0}
  Prior acc (x ∷ xs) =
      ((id : ℕ) → elem id (closes x.call x.reply) ≡ true → elem id acc ≡ true) × Prior (acc ++ accepts x.call x.reply) xs

  pub prior_cut : (acc : List ℕ) (before : List (Exchange C R)) (x : Exchange C R) (rest : List (Exchange C R)) → Prior acc (before ++ x ∷ rest)
      → (id : ℕ) → elem id (closes x.call x.reply) ≡ true → elem id (acc ++ accepted accepts closes before) ≡ true
  prior_cut acc [] x rest p id m = rw append-nil (p.0 id m)
  prior_cut acc (y ∷ before) x rest p id m = rw append_assoc at (prior_cut (acc ++ accepts y.call y.reply) before x rest p.1 id m)

  module _ {S : Type 0} (Gives : S → C → R → S → Type 0) (held : S → List ℕ) (bound : S → ℕ)
      (effect : (s : S) (c : C) (r : R) (s' : S) → Gives s c r s' → Effect (held s) (bound s) (accepts c r) (closes c r) (held s') (bound s')) where
    pub holds_run : {s s' : S} {xs : List (Exchange C R)} → Run Gives s xs s' → (acc clo : List ℕ) → Holds acc clo (held s) (bound s)
        → Prior acc xs × Holds (acc ++ accepted accepts closes xs) (clo ++ closed accepts closes xs) (held s') (bound s')
    holds_run ended acc clo h = (tt, rw (append-nil acc, append-nil clo) h)
    holds_run (called {s = s} {s' = t} {c = c} {r = r} g u) acc clo h =
        let e = effect s c r t g in
        let ih = holds_run u (acc ++ accepts c r) (clo ++ closes c r) (holds_step h e) in
        (((λ id m. (held_open h id (split_elem e.split id m)).0), ih.0), rw (append_assoc, append_assoc) at ih.1)

-- the calls of a function are a run
module _ {S C R : Type 0} (step : S → C → Turn S R) (Gives : S → C → R → S → Type 0) (gives : (s : S) (c : C) → Gives s c (step s c).reply (step s c).next) where
  pub trace_run : (s : S) (cs : List C) → Run Gives s (trace step s cs) (after step s cs)
  trace_run s [] = ended
  trace_run s (c ∷ cs) = called (gives s c) (trace_run (step s c).next cs)
