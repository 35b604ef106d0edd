-- How a run, a byte and CRLF stand at a place of a list, one law for each way that a loop's turn can go. Assumes nothing.
use mathlib.Core.Path.{◌≡◌, sym, ap, ◌∙◌}
use mathlib.Core.Bool.{Bool, true, false, ◌&&◌, false≢true}
use mathlib.Core.List.{List, [], ◌∷◌}
use Prim.Native.Nat.{ℕ, zero, suc, ◌+◌, ◌<◌, ◌≤◌}
use native.Mathlib.Nat.{add-zero}
use native.Mathlib.Numerals.{add-one}
use native.Mathlib.Omega.{arith}
use lib.Dec.{eqb}
use lib.ListN.{length, get_or, drop, drop_of_length-le}
use lib.Seq.{drop-cons}
use borrow.Author.Tests.{ne_eqb}
use Rattle.lists.specs.Lists.{run}
use Rattle.lists.proofs.Tests.{both}
use Rattle.readers.specs.Words.{starts, is_crlf}

-- a byte that passes a test is none that fails it
pub apart : (test : ℕ → Bool) (b x : ℕ) → test b ≡ false → test x ≡ true → eqb x b ≡ false
apart test b x n y = ne_eqb x b (λ e. false≢true (sym n ∙ ap test (sym e) ∙ y))

-- what is left where there is a byte
pub here : (s : List ℕ) (i : ℕ) → i < length s → drop i s ≡ get_or s i 0 ∷ drop (i + 1) s
here s i h = rw (add-one, drop-cons s i 0)

module _ (test : ℕ → Bool) where
  pub run_yes : (x : ℕ) (l : List ℕ) → test x ≡ true → run test (x ∷ l) ≡ suc (run test l)
  run_yes x l e = rw (e, run)

  pub run_no : (x : ℕ) (l : List ℕ) → test x ≡ false → run test (x ∷ l) ≡ 0
  run_no x l e = rw (e, run)

module _ (test : ℕ → Bool) (s : List ℕ) (i : ℕ) where
  pub run_end : length s ≤ i → i + run test (drop i s) ≡ i
  run_end h = rw (drop_of_length-le s h) (add-zero i)

  pub run_stop : i < length s → test (get_or s i 0) ≡ false → i + run test (drop i s) ≡ i
  run_stop h e = rw (here s i h) (ap (λ n. i + n) (run_no test (get_or s i 0) (drop (i + 1) s) e) ∙ add-zero i)

  pub run_step : i < length s → test (get_or s i 0) ≡ true → i + run test (drop i s) ≡ i + 1 + run test (drop (i + 1) s)
  run_step h e = rw (here s i h) (omega (arith, run_yes test (get_or s i 0) (drop (i + 1) s) e))

module _ (s : List ℕ) (i : ℕ) where
  pub starts_here : (b : ℕ) → i < length s → starts b (drop i s) ≡ eqb (get_or s i 0) b
  starts_here b h = rw (here s i h)

  pub crlf_no : i < length s → eqb (get_or s i 0) 13 ≡ false → is_crlf (drop i s) ≡ false
  crlf_no h e = rw (here s i h) (ap (λ b. b && starts 10 (drop (i + 1) s)) e)

  pub crlf_next : i < length s → eqb (get_or s i 0) 13 ≡ true → is_crlf (drop i s) ≡ starts 10 (drop (i + 1) s)
  crlf_next h e = rw (here s i h) (ap (λ b. b && starts 10 (drop (i + 1) s)) e)

-- where a byte or CRLF stands there is room for it
pub starts_in : (b : ℕ) (s : List ℕ) (i : ℕ) → starts b (drop i s) ≡ true → i < length s
starts_in b [] zero e = absurd (false≢true e)
starts_in b [] (suc i) e = absurd (false≢true e)
starts_in b (x ∷ s) zero e = omega arith
starts_in b (x ∷ s) (suc i) e = omega (arith, starts_in b s i e)

-- CRLF, where the CR is known to stand
pub crlf_from : (s : List ℕ) (i : ℕ) → starts 13 (drop i s) ≡ true → is_crlf (drop i s) ≡ starts 10 (drop (i + 1) s)
crlf_from s i e = let h = starts_in 13 s i e in crlf_next s i h (sym (starts_here s i 13 h) ∙ e)

pub crlf_in : (s : List ℕ) (i : ℕ) → is_crlf (drop i s) ≡ true → i + 1 < length s
crlf_in [] zero e = absurd (false≢true e)
crlf_in [] (suc i) e = absurd (false≢true e)
crlf_in (x ∷ s) zero e = omega (arith, starts_in 10 s 0 (both (eqb x 13) (starts 10 s) e).1)
crlf_in (x ∷ s) (suc i) e = omega (arith, crlf_in s i e)
