-- The ledger of demand 3 over a list of calls that were seen, what is claimed of it, and what a run of calls is: document 01, "How
-- tight the promises are".
use Rattle.std.specs.Prelude.{ℕ, ◌≡◌, true, List, [], ◌∷◌, ◌++◌}
use Rattle.lists.specs.Lists.{elem, minus, Distinct}

-- a call as it is seen from outside: what was handed in, and what came back
pub record Exchange (C R : Type 0) : Type 0 where
  pub call : C
  pub reply : R

-- `accepts` and `closes` are the ids that one call puts at the end of the two lists, read from what is seen of it
module _ {C R : Type 0} (accepts closes : C → R → List ℕ) where
  abbrev pub accepted : List (Exchange C R) → List ℕ
  accepted [] = []
  accepted (x ∷ xs) = accepts x.call x.reply ++ accepted xs

  abbrev pub closed : List (Exchange C R) → List ℕ
  closed [] = []
  closed (x ∷ xs) = closes x.call x.reply ++ closed xs

  -- No id is accepted twice, none closed twice, none closed before it was accepted; and those accepted and not closed are, in order of
  -- acceptance, exactly the ones held.
  pub record Balanced (xs : List (Exchange C R)) (held : List ℕ) : Type 0 where
    pub accepted_once : Distinct (accepted xs)
    pub closed_once : Distinct (closed xs)
    pub accepted_before : (before : List (Exchange C R)) (x : Exchange C R) (rest : List (Exchange C R)) → xs ≡ before ++ x ∷ rest
        → (id : ℕ) → elem id (closes x.call x.reply) ≡ true → elem id (accepted before) ≡ true
    pub open_held : minus (accepted xs) (closed xs) ≡ held

-- A run: each call gets the state that the last one left. `Gives s c r s'` says that the call c in state s may reply r and leave s'.
pub data Run {S C R : Type 0} (Gives : S → C → R → S → Type 0) : S → List (Exchange C R) → S → Type 0 where
  ended : {s : S} → Run Gives s [] s
  called : {s s' s'' : S} {c : C} {r : R} {xs : List (Exchange C R)} → Gives s c r s' → Run Gives s' xs s''
      → Run Gives s (record { call = c; reply = r } ∷ xs) s''

-- what a call gives where it is a function
pub record Turn (S R : Type 0) : Type 0 where
  pub reply : R
  pub next : S

module _ {S C R : Type 0} (step : S → C → Turn S R) where
  -- the state after all calls
  abbrev pub after : S → List C → S
  after s [] = s
  after s (c ∷ cs) = after (step s c).next cs

  -- the calls with their replies
  abbrev pub trace : S → List C → List (Exchange C R)
  trace s [] = []
  trace s (c ∷ cs) = record { call = c; reply = (step s c).reply } ∷ trace (step s c).next cs
