-- What each number that framing gives says of the bytes, by the opening's grammar.
-- Assumes nothing.
use mathlib.Core.Path.{◌≡◌, refl, sym, subst, ap, ◌∙◌}
use mathlib.Core.Logic.{◌↔◌, ◌⊎◌, inl, inr}
use mathlib.Core.List.{List}
use Prim.Native.Nat.{ℕ, zero, suc, ◌≤◌, ◌<◌}
use lib.ListN.{length}
use Rattle.readers.specs.Readers.{Read, short, wrong, got}
use Rattle.framing.specs.Framing.{opening, measured, framed, framing, refusal}
use Rattle.framing.specs.Grammar.{Begins, Never, States}
use Rattle.framing.specs.declared.Opening.{Opening}
use Rattle.framing.proofs.Openings.{begins, never, got_states, states_got}
use Rattle.framing.proofs.Frames.{measured_ways, measured_long, measured_little, measured_waits, measured_whole}

-- 0 is no refusal
abbrev pub Means : List ℕ → ℕ → Type 0
Means s zero = (k : ℕ) × (n : ℕ) × States s k n × (n ≤ 16384) × (k ≤ n) × (n ≤ length s)
Means s (suc zero) = Begins s ⊎ ((k : ℕ) × (n : ℕ) × States s k n × (n ≤ 16384) × (k ≤ n) × (length s < n))
Means s (suc (suc zero)) = Never s
Means s (suc (suc (suc zero))) = (k : ℕ) × (n : ℕ) × States s k n × (16384 < n)
Means s (suc (suc (suc (suc zero)))) = (k : ℕ) × (n : ℕ) × States s k n × (n ≤ 16384) × (n < k)
Means s (suc (suc (suc (suc (suc j))))) = ⊥

module _ (s : List ℕ) where
  tells : (r : Read Opening) → opening s ≡ r → Means s (refusal (framed r (length s)))
  tells short e = inl ((begins s).0 e)
  tells wrong e = (never s).0 e
  tells (got o k) e = let h = got_states s o k e in
      measured_ways o k (length s) (λ x. Means s (refusal x))
      (λ p. (k, o.stated, h, p)) (λ p q. (k, o.stated, h, p, q)) (λ p q r. inr (k, o.stated, h, p, q, r)) (λ p q r. (k, o.stated, h, p, q, r))

  refusal_of : (r : Read Opening) → opening s ≡ r → refusal (framing s) ≡ refusal (framed r (length s))
  unfolding framing
  refusal_of r e = ap (λ r. refusal (framed r (length s))) e

  stating : (k n j : ℕ) → States s k n → ((o : Opening) → o.stated ≡ n → refusal (measured o k (length s)) ≡ j) → refusal (framing s) ≡ j
  stating k n j h f = let (o, e, en) = states_got s k n h in refusal_of (got o k) e ∙ f o en

  given : (j : ℕ) → Means s j → refusal (framing s) ≡ j
  given zero (k, n, h, p, q, r) = stating k n 0 h (λ o e. ap refusal (measured_whole o k (length s) (rw e p) (rw e q) (rw e r)))
  given (suc zero) (inl b) = refusal_of short ((begins s).1 b)
  given (suc zero) (inr (k, n, h, p, q, r)) = stating k n 1 h (λ o e. ap refusal (measured_waits o k (length s) (rw e p) (rw e q) (rw e r)))
  given (suc (suc zero)) n = refusal_of wrong ((never s).1 n)
  given (suc (suc (suc zero))) (k, n, h, p) = stating k n 3 h (λ o e. ap refusal (measured_long o k (length s) (rw e p)))
  given (suc (suc (suc (suc zero)))) (k, n, h, p, q) = stating k n 4 h (λ o e. ap refusal (measured_little o k (length s) (rw e p) (rw e q)))
  given (suc (suc (suc (suc (suc j))))) h = absurd h

  pub means : (j : ℕ) → (refusal (framing s) ≡ j) ↔ Means s j
  means j = ((λ e. subst (Means s) (sym (refusal_of (opening s) refl) ∙ e) (tells (opening s) refl)), given j)
