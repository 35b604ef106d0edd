-- The number that a text writes, by the digits at its front.
-- Assumes nothing.
use mathlib.Core.Path.{◌≡◌, refl, sym, ap, ◌∙◌}
use mathlib.Core.Bool.{Bool, true, false, ◌&&◌, false≢true}
use mathlib.Core.List.{List, [], ◌∷◌}
use Prim.Native.Nat.{ℕ, zero, suc, ◌≤◌, min}
use native.Mathlib.Omega.{arith}
use lib.Dec.{eqb, leb}
use lib.ListN.{length, take, get_or}
use lib.Seq.{take_all}
use borrow.Author.Tests.{leb-true, eqb-true, eqb-false}
use Rattle.lists.specs.Lists.{all, run}
use Rattle.lists.proofs.Tests.{both, choose, refuted}
use Rattle.lists.proofs.Scans.{run_all, run_in}
use Rattle.octets.specs.Octets.{is_digit}
use Rattle.readers.specs.Words.{is_number, number_of}
use Rattle.readers.proofs.Positions.{run_yes}
use Rattle.readers.proofs.Words.{number_fits}
use Rattle.digits.specs.Steps.{digits_at}
use Rattle.digits.specs.declared.Digits.{Digits}

run_whole : (v : List ℕ) → all is_digit v ≡ true → run is_digit v ≡ length v
run_whole [] a = refl
run_whole (x ∷ v) a =
    let h = both (is_digit x) (all is_digit v) a in
    run_yes is_digit x v h.0 ∙ ap suc (run_whole v h.1)

-- no digit stands behind a run; nor does one where the bytes end
behind_run : (v : List ℕ) → is_digit (get_or v (run is_digit v) 0) ≡ false
behind_run [] = refl
behind_run (x ∷ v) =
    choose (λ k. is_digit (get_or (x ∷ v) k 0) ≡ false) (is_digit x) (λ e. behind_run v) (λ e. e)

-- the digits at the front of v, at most so many of them
module _ (most : ℕ) (fits : most ≤ 19) (v : List ℕ) (d : Digits) (e : d ≡ digits_at most v) where
  pub counts : d.count ≡ min (run is_digit v) most
  unfolding digits_at
  counts = let c : d.count ≡ min (run is_digit v) (min most 19) = ap (λ d. d.count) e in omega arith

  pub room : d.count ≤ length v
  room = omega (arith, counts, run_in is_digit v)

  -- a digit behind them is one too many
  pub one_too_many : is_digit (get_or v d.count 0) ≡ true → d.count ≡ most
  one_too_many h = by_eqb (eqb d.count most) refl
    where
      by_eqb : (b : Bool) → eqb d.count most ≡ b → d.count ≡ most
      by_eqb true e = eqb-true d.count most e
      by_eqb false e =
          let n = eqb-false d.count most e in
          let all : d.count ≡ run is_digit v = omega (arith, counts, n) in
          absurd (false≢true (sym (behind_run v) ∙ ap (λ k. is_digit (get_or v k 0)) (sym all) ∙ h))

  pub writes : d.value ≡ number_of (take d.count v)
  unfolding digits_at
  writes = ap (λ d. d.value) e ∙ ap (λ n. number_of (take n v)) (sym (ap (λ d. d.count) e))

  -- digits are all of a number
  all_of_it : is_number most v ≡ true → (1 ≤ length v) × (d.count ≡ length v)
  all_of_it a =
      let (l, ds) = both (leb 1 (length v) && leb (length v) most) (all is_digit v) a in
      let (least, last) = both (leb 1 (length v)) (leb (length v) most) l in
      (leb-true 1 (length v) least, omega (arith, counts, run_whole v ds, leb-true (length v) most last))

  pub without : d.count ≡ 0 → is_number most v ≡ false
  without z = refuted (is_number most v) (λ a. omega (arith, (all_of_it a).0, (all_of_it a).1))

  pub in_part : (d.count ≡ length v → ⊥) → is_number most v ≡ false
  in_part z = refuted (is_number most v) (λ a. z (all_of_it a).1)

  module _ (came : d.count ≡ 0 → ⊥) (whole : d.count ≡ length v) where
    pub digits_alone : all is_digit v ≡ true
    digits_alone = let r : length v ≤ run is_digit v = omega (arith, counts) in
        sym (ap (all is_digit) (take_all (run is_digit v) v r)) ∙ run_all is_digit v

    pub number_whole : is_number most v ≡ true
    number_whole = number_fits most v (least (length v) (λ z. came (whole ∙ z))) (omega (arith, counts)) digits_alone
      where
        least : (n : ℕ) → (n ≡ 0 → ⊥) → 1 ≤ n
        least zero h = absurd (h refl)
        least (suc n) h = omega arith

    pub value_whole : d.value ≡ number_of v
    value_whole = writes ∙ ap number_of (take_all d.count v (omega arith))
