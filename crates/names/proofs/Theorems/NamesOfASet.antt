-- Whether one of a set of names came is one test of the mask: the set is a number with the bits of its names.
-- Assumes nothing.
use mathlib.Core.Path.{◌≡◌, refl, ap, ◌∙◌}
use mathlib.Core.Bool.{Bool, true, false, not, ◌&&◌}
use mathlib.Core.List.{List, [], ◌∷◌}
use Prim.Native.Nat.{ℕ}
use lib.Bits.{bit_and, bit_or, and_comm, and_zero_l}
use lib.Dec.{eqb}
use Rattle.lists.specs.Lists.{all, bit}
use Rattle.message.specs.Known.{index_of}
use Rattle.message.specs.declared.Known.{Known}
use Rattle.names.specs.Names.{bit_of, mask_with}
use Rattle.lists.proofs.Masks.{test_any}
use Rattle.names.proofs.Sets.{and_over_or, or_none_lem}

module _ (set : ℕ) where
  regroup : (a b c : Bool) → ((a && b) && c) ≡ (a && (b && c))
  regroup true b c = refl
  regroup false b c = refl

  outside : (m : ℕ) (ks : List Known) → eqb (bit_and (mask_with m ks) set) 0 ≡ (eqb (bit_and m set) 0 && all (λ k. not (bit set (index_of k))) ks)
  outside m [] = go (eqb (bit_and m set) 0)
    where
      go : (b : Bool) → b ≡ (b && true)
      go true = refl
      go false = refl
  outside m (k ∷ ks) =
      let one : eqb (bit_and (bit_of k) set) 0 ≡ not (bit set (index_of k)) = ap (λ n. eqb n 0) (and_comm (bit_of k) set) ∙ test_any set (index_of k) in
      outside (bit_or m (bit_of k)) ks
      ∙ ap (λ b. b && all (λ k. not (bit set (index_of k))) ks)
      (ap (λ n. eqb n 0) (and_over_or set m (bit_of k)) ∙ or_none_lem (bit_and m set) (bit_and (bit_of k) set) ∙ ap (λ b. eqb (bit_and m set) 0 && b) one)
      ∙ regroup (eqb (bit_and m set) 0) (not (bit set (index_of k))) (all (λ k. not (bit set (index_of k))) ks)

  pub none_of_set : (ks : List Known) → eqb (bit_and (mask_with 0 ks) set) 0 ≡ all (λ k. not (bit set (index_of k))) ks
  none_of_set ks = outside 0 ks ∙ ap (λ n. eqb n 0 && all (λ k. not (bit set (index_of k))) ks) (and_zero_l set)
