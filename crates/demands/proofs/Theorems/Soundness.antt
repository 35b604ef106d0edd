-- A channel opened with number 0 stays sound through every list of calls of `handle`, `report` and `go_back`, and none
-- of them is refused with 21. Every beginning of such a list is one itself, so each channel on the way is sound too.
-- Assumes nothing.
use Prim.Native.Nat.{ℕ}
use mathlib.Core.Path.{◌≡◌, sym, ap, ◌∙◌}
use mathlib.Core.Bool.{true, false≢true}
use mathlib.Core.Option.{Option, none, some}
use mathlib.Core.List.{List}
use native.Mathlib.Omega.{arith}
use lib.Dec.{eqb}
use Rattle.lists.specs.Lists.{All}
use Rattle.ledger.specs.Ledger.{Exchange, Run, ended, called, Turn}
use Rattle.synth.specs.Channel.{View, sound}
use Rattle.synth.specs.Calls.{Call, Reply, call, Opened}
use Rattle.synth.specs.Demand3.{Meets}
use Rattle.synth.proofs.Theorems.Soundness.{opened_sound, call_sound}
use Rattle.demands.specs.Demands.{Line, table, first_due, stated, outcome, viewed, SoundOfTheCode}
use Rattle.demands.proofs.Lines.{Gives, tabled}
use Rattle.demands.proofs.Theorems.Demand3.{runs}

-- a sound channel is not refused with 21
pub not_21 : (v : View) (k : Call) → sound v ≡ true → (call v k).reply.number ≡ 21 → ⊥
not_21 v k s n = go (first_due (table v k.lent k.room)) (tabled v k.lent k.room)
  where
    go : (o : Option Line) → Gives v (stated k.lent) (outcome v k.lent) o (call v k) → ⊥
    go none e = let z : ◌≡◌ {A = ℕ} 0 21 = sym (ap (λ (t : Turn View Reply). t.reply.number) e) ∙ n in omega arith
    go (some l) (e, x, y) = false≢true (sym (y s) ∙ ap (λ (i : ℕ). eqb i 21) (sym (ap (λ (t : Turn View Reply). t.reply.number) e) ∙ n))

-- every call that meets its contract leaves a sound channel sound, and is not refused with 21
pub stays : {S : Type 0} (view : S → View) {s last : S} {calls : List (Exchange Call Reply)} → Run (Meets view) s calls last → sound (view s) ≡ true
    → (sound (view last) ≡ true) × All (λ (x : Exchange Call Reply). x.reply.number ≡ 21 → ⊥) calls
stays view ended e = (e, tt)
stays view (called {s = s} {c = k} m u) e =
    let rest = stays view u (ap sound m.leaves ∙ call_sound (view s) k e) in
    (rest.0, (λ n. not_21 (view s) k e (sym (ap (λ (r : Reply). r.number) m.replies) ∙ n), rest.1))

pub sound_of_the_code : SoundOfTheCode
sound_of_the_code name o calls end e n run =
    stays viewed (runs o run) (ap (λ (x : Opened). sound x.channel) e ∙ opened_sound name ∙ ap (λ (x : Opened). eqb x.number 0) (sym e) ∙ ap (λ (i : ℕ). eqb i 0) n)
