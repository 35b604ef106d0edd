-- Which method a name is, by its length: only names that are as long can be it.
-- Assumes nothing.
use mathlib.Core.Path.{◌≡◌, refl, sym, ap, ◌∙◌}
use mathlib.Core.Bool.{Bool, true, false}
use mathlib.Core.List.{List, [], ◌∷◌}
use Prim.Native.Nat.{ℕ}
use lib.Dec.{eqb}
use lib.ListN.{length}
use borrow.Author.Tests.{eqb-false}
use Rattle.lists.specs.Lists.{same, put, keep}
use Rattle.octets.proofs.Texts.{same_lengths}
use Rattle.synth.specs.Request.{method_text, or_else, method_of}
use Rattle.synth.specs.declared.Method.{Method}
use Rattle.synth.specs.declared.Method.TheVariants.{Speak, Stop, Pause, Resume, Control, BargeInOccurred, Unknown}
use Rattle.synth.specs.declared.Method.TheVariants.{Recognize, StartInputTimers, SetParams, GetParams}

-- all methods with a name, in the order of the definition
abbrev all_methods : List Method
all_methods = Speak ∷ Stop ∷ Pause ∷ Resume ∷ Control ∷ BargeInOccurred ∷ Recognize ∷ StartInputTimers ∷ SetParams ∷ GetParams ∷ []

module _ (n : List ℕ) where
  -- the first of these whose name n is
  abbrev first_of : List Method → Method
  first_of [] = Unknown
  first_of (m ∷ ms) = or_else (same n (method_text m)) m (first_of ms)

  -- those of these whose names are k bytes long
  abbrev of_length : ℕ → List Method → List Method
  of_length k ms = keep (λ m. eqb k (length (method_text m))) ms

  as_long : (k : ℕ) → length n ≡ k → (ms : List Method) → first_of ms ≡ first_of (of_length k ms)
  as_long k e [] = refl
  as_long k e (m ∷ ms) = go (eqb k (length (method_text m))) refl (as_long k e ms)
    where
      go : (b : Bool) → eqb k (length (method_text m)) ≡ b → first_of ms ≡ first_of (of_length k ms)
          → first_of (m ∷ ms) ≡ first_of (put b m (of_length k ms))
      go true d ih = ap (or_else (same n (method_text m)) m) ih
      go false d ih =
          ap (λ b. or_else b m (first_of ms))
          (same_lengths n (method_text m) (λ q. eqb-false k (length (method_text m)) d (sym e ∙ q)))
          ∙ ih

  pub method_by : (k : ℕ) → length n ≡ k → method_of n ≡ first_of (of_length k all_methods)
  unfolding method_of
  method_by k e = as_long k e all_methods

  pub method_none : (length n ≡ 4 → ⊥) → (length n ≡ 5 → ⊥) → (length n ≡ 6 → ⊥) → (length n ≡ 7 → ⊥)
      → (length n ≡ 9 → ⊥) → (length n ≡ 10 → ⊥) → (length n ≡ 17 → ⊥) → (length n ≡ 18 → ⊥) → method_of n ≡ Unknown
  unfolding method_of
  method_none h4 h5 h6 h7 h9 h10 h17 h18 =
      simp (
        same_lengths n (method_text Speak) h5,
        same_lengths n (method_text Stop) h4,
        same_lengths n (method_text Pause) h5,
        same_lengths n (method_text Resume) h6,
        same_lengths n (method_text Control) h7,
        same_lengths n (method_text BargeInOccurred) h17,
        same_lengths n (method_text Recognize) h9,
        same_lengths n (method_text StartInputTimers) h18,
        same_lengths n (method_text SetParams) h10,
        same_lengths n (method_text GetParams) h10,
      )
