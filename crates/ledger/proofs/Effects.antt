-- What one call may do to the ids held, and the invariant of accepted, closed and held ids that every such effect keeps. Assumes nothing.
use Prim.Native.Nat.{ℕ, ◌≤◌, ◌<◌}
use mathlib.Core.Path.{◌≡◌, refl, sym, ap, ◌∙◌}
use mathlib.Core.Bool.{true, false, not, false≢true}
use mathlib.Core.List.{List, [], ◌∷◌, ◌++◌, append-nil}
use mathlib.Core.Logic.{⊎_elim}
use native.Mathlib.Omega.{arith}
use Rattle.lists.specs.Lists.{elem, minus, Distinct, Ascends, Split}
use Rattle.lists.proofs.Tests.{refuted, both}
use Rattle.lists.proofs.Membership.{keep_append, elem_append, elem_keep, elem_either, keep_all, minus_append, distinct_keep, distinct_append}
use Rattle.lists.proofs.Rising.{ascends_append, ascends_within, ascends_distinct}
use Rattle.lists.proofs.Dealing.{split_elem, split_distinct, split_minus, split_none}

-- Some of those held are closed, and the ids accepted join the rest. They rise from a bound that every id accepted before is below.
pub record Effect (held : List ℕ) (bound : ℕ) (accepted closed held' : List ℕ) (bound' : ℕ) : Type 0 where
  pub kept : List ℕ
  pub split : Split held closed kept
  pub joins : held' ≡ kept ++ accepted
  pub rises : Ascends bound accepted bound'

pub nothing : (held : List ℕ) (b b' : ℕ) → b ≤ b' → Effect held b [] [] held b'
nothing held b b' h = record { kept = held; split = split_none held; joins = sym (append-nil held); rises = h }

pub one_joins : (held : List ℕ) (b x b' : ℕ) → b ≤ x → x < b' → Effect held b (x ∷ []) [] (held ++ x ∷ []) b'
one_joins held b x b' h k = record { kept = held; split = split_none held; joins = refl; rises = (h, k) }

pub some_end : {held closed kept : List ℕ} (b b' : ℕ) → Split held closed kept → b ≤ b' → Effect held b [] closed kept b'
some_end {kept = kept} b b' s h = record { kept = kept; split = s; joins = sym (append-nil kept); rises = h }

pub record Holds (accepted closed held : List ℕ) (bound : ℕ) : Type 0 where
  pub rising : Ascends 0 accepted bound
  pub once : Distinct closed
  pub known : (x : ℕ) → elem x closed ≡ true → elem x accepted ≡ true
  pub rest : minus accepted closed ≡ held

pub at_first : (bound : ℕ) → Holds [] [] [] bound
at_first bound = record { rising = omega arith; once = tt; known = λ x e. e; rest = refl }

module _ {acc clo held : List ℕ} {b : ℕ} (h : Holds acc clo held b) where
  -- an id that is held was accepted, and is not closed
  pub held_open : (x : ℕ) → elem x held ≡ true → (elem x acc ≡ true) × (elem x clo ≡ false)
  held_open x e =
      let t = both (elem x acc) (not (elem x clo)) (sym (elem_keep (λ y. not (elem y clo)) x acc) ∙ ap (elem x) h.rest ∙ e) in
      (t.0, refuted (elem x clo) (λ c. false≢true (ap not (sym c) ∙ t.1)))

  pub held_distinct : Distinct held
  held_distinct = rw h.rest at (distinct_keep (λ y. not (elem y clo)) acc (ascends_distinct 0 acc b h.rising))

module _ {acc clo held : List ℕ} {b : ℕ} {a c held' : List ℕ} {b' : ℕ} (h : Holds acc clo held b) (e : Effect held b a c held' b') where
  was_accepted : (x : ℕ) → elem x (clo ++ c) ≡ true → elem x acc ≡ true
  was_accepted x m = ⊎_elim (h.known x) (λ n. (held_open h x (split_elem e.split x n)).0) (elem_either x clo c m)

  closed_once : Distinct (clo ++ c)
  closed_once =
      distinct_append clo c h.once (split_distinct e.split (held_distinct h))
      (λ x m. refuted (elem x c) (λ n. false≢true (sym (held_open h x (split_elem e.split x n)).1 ∙ m)))

  old_rest : minus acc (clo ++ c) ≡ e.kept
  old_rest = rw (minus_append acc clo c, h.rest) (split_minus e.split (held_distinct h))

  -- an id accepted now is at the bound or above, and so none of those accepted before
  new_rest : minus a (clo ++ c) ≡ a
  new_rest =
      keep_all (λ x. not (elem x (clo ++ c))) a
      (λ x m. ap not (refuted (elem x (clo ++ c)) λ n.
      let t : (b ≤ x) × (x < b') = ascends_within b a b' e.rises x m in
      let u : (0 ≤ x) × (x < b) = ascends_within 0 acc b h.rising x (was_accepted x n) in
      omega arith))

  pub holds_step : Holds (acc ++ a) (clo ++ c) held' b'
  holds_step = record {
    rising = ascends_append 0 acc b a b' h.rising e.rises;
    once = closed_once;
    known = λ x m. rw (elem_append x acc a, was_accepted x m);
    rest = rw (keep_append (λ x. not (elem x (clo ++ c))) acc a, old_rest, new_rest) (sym e.joins);
  }
