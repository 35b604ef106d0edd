-- The answer depends on the first 128 bytes, and on nothing else.
-- Assumes nothing.
use Prim.Native.Nat.{ℕ, ◌≤◌, min}
use mathlib.Core.Path.{◌≡◌, refl, sym, ap, ◌∙◌}
use mathlib.Core.Bool.{Bool, true, false, ◌&&◌}
use mathlib.Core.Option.{Option, none, some}
use mathlib.Core.List.{List}
use native.Mathlib.Omega.{arith}
use lib.Dec.{ltb, lit≤}
use lib.ListN.{length, take, drop}
use lib.Seq.{take_all, take-take, length-take-le}
use borrow.Author.Tests.{ltb-true, ltb-false, le-ltb}
use Rattle.readers.specs.Readers.{Read, short, wrong, got}
use Rattle.readers.specs.Words.{line}
use Rattle.framing.specs.Framing.{opening}
use Rattle.framing.specs.declared.Opening.{Opening}
use Rattle.framing.proofs.Openings as O
use Rattle.whose.specs.Whose.{of_line, window, of_opening, whose}
use Rattle.std.specs.Prelude.{Err}
use Rattle.whose.specs.declared.NoId.TheVariants.{More, Malformed}
use Rattle.whose.proofs.Ways.{too_short, by_line_lem}

module _ (s : List ℕ) where
  abbrev front : List ℕ
  front = take 128 s

  -- an opening has 31 at most
  same_opening : opening front ≡ opening s
  same_opening = sym (O.first_bytes front) ∙ ap opening (take-take 31 128 s (lit≤ tt)) ∙ O.first_bytes s

  -- with 128 and with more the line cannot come any more
  module _ (stated : ℕ) where
    abbrev waits : List ℕ → Bool
    waits u = ltb (length u) 128 && ltb (length u) stated

    same_waiting : (b : Bool) → ltb (length s) 128 ≡ b → waits front ≡ waits s
    same_waiting true b = ap waits (take_all 128 s (omega (arith, ltb-true (length s) 128 b)))
    same_waiting false b =
        let l : 128 ≤ length front = omega (arith, length-take-le 128 s (ltb-false (length s) 128 b)) in
        ap (λ x. x && ltb (length front) stated) (le-ltb (length front) 128 l)
        ∙ sym (ap (λ x. x && ltb (length s) stated) b)

  same_line : (k stated : ℕ) (r : Option (List ℕ)) → of_line k stated (length front) r ≡ of_line k stated (length s) r
  same_line k stated none =
      ap (λ b. elim b [ true ↦ Err More | false ↦ Err Malformed ]) (same_waiting stated (ltb (length s) 128) refl)
  same_line k stated (some l) = refl

  same_answer : (r : Read Opening) → of_opening front r ≡ of_opening s r
  same_answer short = refl
  same_answer wrong = refl
  same_answer (got o k) = go (ltb o.stated k) refl
    where
      same_window : window o.stated front ≡ window o.stated s
      same_window = take-take (min 128 o.stated) 128 s (omega arith)

      go : (b : Bool) → ltb o.stated k ≡ b → of_opening front (got o k) ≡ of_opening s (got o k)
      go true b = too_short front o k b ∙ sym (too_short s o k b)
      go false b =
          by_line_lem front o k b ∙ ap (λ u. of_line k o.stated (length front) (line (drop k u))) same_window
          ∙ same_line k o.stated (line (drop k (window o.stated s))) ∙ sym (by_line_lem s o k b)

  pub by_first_bytes : whose (take 128 s) ≡ whose s
  unfolding whose
  by_first_bytes = ap (of_opening front) same_opening ∙ same_answer (opening s)

-- inputs that agree on their first 128 bytes are answered alike, however many bytes are lent
pub first_bytes : (s t : List ℕ) → take 128 s ≡ take 128 t → whose s ≡ whose t
first_bytes s t e = sym (by_first_bytes s) ∙ ap whose e ∙ by_first_bytes t
