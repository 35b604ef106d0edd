-- The messages of a batch, one after the other: what each turn does, what holds as long as it goes on, and that it
-- makes one call for each. Assumes nothing.
use Prim.Native.Nat.{ℕ, zero, suc, ◌+◌, ◌≤◌, zero-le}
use mathlib.Core.Path.{◌≡◌, refl, sym, ap, ◌∙◌}
use mathlib.Core.Bool.{Bool, true, false}
use mathlib.Core.List.{List, [], ◌∷◌, ◌++◌, append-nil, append_assoc}
use mathlib.Core.Logic.{◌⊎◌, inl, inr, ⊎_elim}
use native.Mathlib.Omega.{arith}
use lib.Dec.{eqb}
use lib.ListN.{length}
use borrow.Author.Tests.{eqb-true}
use Rattle.lists.specs.Lists.{All}
use Rattle.ledger.specs.Ledger.{Exchange, after, trace}
use Rattle.synth.specs.Calls.{Call, Reply, call}
use Rattle.batches.specs.Batches.{Stand, next_call, tried, onward, walk, calls_from}

-- what calls wrote, end to end, and how much they consumed
abbrev pub written_by : List (Exchange Call Reply) → List ℕ
written_by [] = []
written_by (x ∷ xs) = x.reply.written ++ written_by xs

abbrev pub consumed_by : List (Exchange Call Reply) → ℕ
consumed_by [] = 0
consumed_by (x ∷ xs) = x.reply.consumed + consumed_by xs

-- whether the next message is handled
abbrev pub goes_on_lem : List ℕ → ℕ → Stand → Bool
goes_on_lem s room b = eqb (tried s room b).reply.number 0

module _ (s : List ℕ) (room n : ℕ) (b : Stand) where
  pub walk_on : goes_on_lem s room b ≡ true → walk (suc n) s room b ≡ walk n s room (onward b (tried s room b))
  unfolding walk
  walk_on e = rw (e, walk)

  pub walk_off : goes_on_lem s room b ≡ false → walk (suc n) s room b ≡ b
  unfolding walk
  walk_off e = rw (e, walk)

  pub calls_on : goes_on_lem s room b ≡ true
      → calls_from (suc n) s room b ≡ next_call s room b ∷ calls_from n s room (onward b (tried s room b))
  unfolding calls_from
  calls_on e = rw (e, calls_from)

  pub calls_off : goes_on_lem s room b ≡ false → calls_from (suc n) s room b ≡ []
  unfolding calls_from
  calls_off e = rw (e, calls_from)

-- what one message more keeps, all of them keep
module _ (s : List ℕ) (room : ℕ) (P : Stand → Type 0)
    (keeps : (b : Stand) → (tried s room b).reply.number ≡ 0 → P b → P (onward b (tried s room b))) where
  keeps_step : (n : ℕ) (b : Stand) → ((c : Stand) → P c → P (walk n s room c)) → (test : Bool)
      → goes_on_lem s room b ≡ test → P b → P (walk (suc n) s room b)
  keeps_step n b ih true e h = rw (walk_on s room n b e) (ih (onward b (tried s room b)) (keeps b (eqb-true _ 0 e) h))
  keeps_step n b ih false e h = rw (walk_off s room n b e) h

  pub walk_keeps : (n : ℕ) (b : Stand) → P b → P (walk n s room b)
  unfolding walk
  walk_keeps zero b h = h
  walk_keeps (suc n) b h = keeps_step n b (walk_keeps n) (goes_on_lem s room b) refl h

-- from b on to e by these calls, at most n of them; fewer only where the next is refused
pub record Walked (n : ℕ) (s : List ℕ) (room : ℕ) (b e : Stand) (cs : List Call) : Type 0 where
  pub leaves : e.channel ≡ after call b.channel cs
  pub writes : e.written ≡ b.written ++ written_by (trace call b.channel cs)
  pub consumes : e.consumed ≡ b.consumed + consumed_by (trace call b.channel cs)
  pub counts : e.handled ≡ b.handled + length cs
  pub few : length cs ≤ n
  pub handles : All (λ (x : Exchange Call Reply). x.reply.number ≡ 0) (trace call b.channel cs)
  pub stops : (length cs ≡ n) ⊎ (goes_on_lem s room e ≡ false)

stays : (n : ℕ) (s : List ℕ) (room : ℕ) (b : Stand) → (0 ≡ n) ⊎ (goes_on_lem s room b ≡ false) → Walked n s room b b []
stays n s room b h = record {
  leaves = refl;
  writes = sym (append-nil b.written);
  consumes = omega arith;
  counts = omega arith;
  few = zero-le;
  handles = tt;
  stops = h;
}

module _ (n : ℕ) (s : List ℕ) (room : ℕ) (b : Stand) where
  goes_on : (tried s room b).reply.number ≡ 0
      → (e : Stand) (cs : List Call) → Walked n s room (onward b (tried s room b)) e cs
      → Walked (suc n) s room b e (next_call s room b ∷ cs)
  goes_on z e cs h =
      let xs = trace call (tried s room b).next cs in
      record {
        leaves = h.leaves;
        writes = h.writes ∙ append_assoc b.written (tried s room b).reply.written (written_by xs);
        consumes = h.consumes ∙ omega arith;
        counts = h.counts ∙ omega arith;
        few = omega (arith, h.few);
        handles = (z, h.handles);
        stops =
            ⊎_elim {C = (suc (length cs) ≡ suc n) ⊎ (goes_on_lem s room e ≡ false)} (λ f. inl (ap suc f)) inr h.stops;
      }

  walked_step : ((c : Stand) → Walked n s room c (walk n s room c) (calls_from n s room c))
      → (test : Bool) → goes_on_lem s room b ≡ test
      → Walked (suc n) s room b (walk (suc n) s room b) (calls_from (suc n) s room b)
  walked_step ih true e =
      rw (walk_on s room n b e, calls_on s room n b e) (goes_on (eqb-true _ 0 e) _ _ (ih (onward b (tried s room b))))
  walked_step ih false e = rw (walk_off s room n b e, calls_off s room n b e) (stays (suc n) s room b (inr e))

pub walked : (n : ℕ) (s : List ℕ) (room : ℕ) (b : Stand) → Walked n s room b (walk n s room b) (calls_from n s room b)
unfolding walk calls_from
walked zero s room b = stays zero s room b (inl refl)
walked (suc n) s room b = walked_step n s room b (walked n s room) (goes_on_lem s room b) refl
