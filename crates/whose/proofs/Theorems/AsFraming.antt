-- 2 and 4 are given exactly where framing gives them: before anything is said of a line, and whatever length is stated.
-- Assumes nothing.
use Prim.Native.Nat.{ℕ, ◌<◌}
use mathlib.Core.Path.{◌≡◌, refl, ap, ◌∙◌}
use mathlib.Core.Logic.{◌↔◌}
use mathlib.Core.Bool.{◌&&◌}
use mathlib.Core.Option.{Option, none, some}
use mathlib.Core.List.{List}
use native.Mathlib.Omega.{arith}
use lib.Dec.{ltb}
use lib.ListN.{length, drop}
use borrow.Author.Tests.{ltb-true, lt-ltb}
use Rattle.lists.proofs.Tests.{choose}
use Rattle.readers.specs.Readers.{Read, short, wrong, got}
use Rattle.readers.specs.Words.{line, words}
use Rattle.framing.specs.Framing as F
use Rattle.framing.specs.Framing.{opening, measured, framed, framing}
use Rattle.framing.specs.declared.Opening.{Opening}
use Rattle.framing.proofs.Frames.{measured_ways, measured_little}
use Rattle.framing.proofs.Openings.{got_size}
use Rattle.message.specs.Message.{Start}
use Rattle.message.specs.StartLines.{start_of}
use Rattle.message.specs.declared.Span.{Span}
use Rattle.std.specs.Prelude.{Ok, Err}
use Rattle.whose.specs.Whose.{Whose, id_in, of_start, of_line, window, of_opening, whose, refusal}
use Rattle.whose.specs.declared.NoId.TheVariants.{More, TooShort, Malformed}
use Rattle.whose.proofs.Ways.{too_short}

-- the answers that there are behind an opening
module _ (P : Whose → Type 0) (waits : P (Err More)) (malformed : P (Err Malformed)) (told : (i : ℕ) → P (Ok i)) where
  start_ways : (r : Option (Start Span)) → P (of_start r)
  start_ways none = malformed
  start_ways (some st) = told (id_in st)

  line_ways : (k stated lent : ℕ) (r : Option (List ℕ)) → P (of_line k stated lent r)
  line_ways k stated lent none = choose P (ltb lent 128 && ltb lent stated) (λ _. waits) (λ _. malformed)
  line_ways k stated lent (some l) = start_ways (start_of k (words 32 l))

  opened_ways : (s : List ℕ) (o : Opening) (k : ℕ) → (o.stated < k → P (Err TooShort)) → P (of_opening s (got o k))
  opened_ways s o k little =
      choose P (ltb o.stated k) (λ b. little (ltb-true o.stated k b))
      (λ _. line_ways k o.stated (length s) (line (drop k (window o.stated s))))

module _ (s : List ℕ) where
  -- a number that no line is the cause of, and that is not 3
  module _ (n : ℕ) (other : (n ≡ 0 → ⊥) × (n ≡ 1 → ⊥) × (n ≡ 3 → ⊥) × (n ≡ 5 → ⊥)) where
    by : (r : Read Opening) → opening s ≡ r → (refusal (of_opening s r) ≡ n) ↔ (F.refusal (framed r (length s)) ≡ n)
    by short q = ((λ e. e), λ e. e)
    by wrong q = ((λ e. e), λ e. e)
    by (got o k) q = (
      opened_ways (λ w. refusal w ≡ n → F.refusal (measured o k (length s)) ≡ n)
          (λ e. absurd (omega arith)) (λ e. absurd (omega arith)) (λ i e. absurd (omega arith)) s o k
          (λ h e. ap F.refusal (measured_little o k (length s) (omega (arith, got_size s o k q)) h) ∙ e),
      measured_ways o k (length s) (λ x. F.refusal x ≡ n → refusal (of_opening s (got o k)) ≡ n)
          (λ _ e. absurd (omega arith))
          (λ _ h e. ap refusal (too_short s o k (lt-ltb o.stated k h)) ∙ e)
          (λ _ _ _ e. absurd (omega arith)) (λ _ _ _ e. absurd (omega arith)),
    )

    as_framing : (refusal (whose s) ≡ n) ↔ (F.refusal (framing s) ≡ n)
    unfolding whose framing
    as_framing = by (opening s) refl

  pub two : (refusal (whose s) ≡ 2) ↔ (F.refusal (framing s) ≡ 2)
  two = as_framing 2 (omega arith)

  pub four : (refusal (whose s) ≡ 4) ↔ (F.refusal (framing s) ≡ 4)
  four = as_framing 4 (omega arith)
