-- The level that a text writes, one law for each way that the code goes.
-- Assumes nothing.
use mathlib.Core.Path.{◌≡◌, refl, sym, ap, ap₂, ◌∙◌}
use mathlib.Core.Bool.{Bool, true, false, ◌&&◌, and-false}
use mathlib.Core.Logic.{⊎_elim}
use mathlib.Core.Option.{none, some}
use mathlib.Core.Option as Spec
use Rattle.std.proofs.Common.{Option, None}
use mathlib.Core.List.{List, [], ◌∷◌}
use Prim.Native.Nat.{ℕ, ◌+◌, ◌-◌, ◌*◌, ◌^◌, ◌≤◌, ◌<◌}
use native.Mathlib.Nat.{mul_assoc, mul_comm, pow-suc}
use native.Mathlib.Omega.{arith}
use lib.Dec.{eqb, lit≤}
use lib.ListN.{length, get_or, drop, length-drop}
use borrow.Author.Tests.{ne_eqb, eq-eqb, eqb-true}
use Rattle.lists.proofs.Tests.{either}
use Rattle.readers.specs.Words.{decimal, number_of, is_number}
use Rattle.readers.proofs.Decimals.{number_below}
use Rattle.digits.specs.Steps.{digits_at}
use Rattle.digits.specs.declared.Digits.{Digits}
use Rattle.digits.proofs.Numerals.{counts, without, in_part, digits_alone, number_whole, value_whole}
use Rattle.synth.specs.Levels.{places, at_most_one, level_in}
use Rattle.levels.specs.Reading.{kept, level_found}
use Rattle.levels.specs.Steps.{is_first, level_by}
use Rattle.synth.specs.declared.Level.{Level}

pub first_bounds : (b : ℕ) → is_first b ≡ true → (48 ≤ b) × (b ≤ 49)
first_bounds b e =
    ⊎_elim {C = (48 ≤ b) × (b ≤ 49)}
    (λ h. let q : b ≡ 48 = eqb-true b 48 h in (omega arith, omega arith))
    (λ h. let q : b ≡ 49 = eqb-true b 49 h in (omega arith, omega arith))
    (either (eqb b 48) (eqb b 49) e)

-- digits behind a number
decimal_add : (a b : ℕ) (ds : List ℕ) → decimal (a + b) ds ≡ a * 10 ^ length ds + decimal b ds
decimal_add a b [] = omega arith
decimal_add a b (x ∷ ds) =
    ap (λ n. decimal n ds) (let e : (a + b) * 10 + (x - 48) ≡ a * 10 + (b * 10 + (x - 48)) = omega arith in e)
    ∙ decimal_add (a * 10) (b * 10 + (x - 48)) ds
    ∙ ap (λ n. n + decimal (b * 10 + (x - 48)) ds)
    (shifted a (10 ^ length ds) ∙ ap (λ n. a * n) (sym (pow-suc 10 (length ds))))
  where
    shifted : (a t : ℕ) → a * 10 * t ≡ a * (t * 10)
    shifted a t = mul_assoc a 10 t ∙ ap (λ n. a * n) (mul_comm 10 t)

first_digit : (x : ℕ) (ds : List ℕ) → (x - 48) * 10 ^ length ds + number_of ds ≡ number_of (x ∷ ds)
first_digit x ds =
    sym (ap (λ n. decimal n ds) (let e : 0 * 10 + (x - 48) ≡ (x - 48) + 0 = omega arith in e)
    ∙ decimal_add (x - 48) 0 ds)

-- a text that begins with x, by the digits behind the point
module _ (x : ℕ) where
  abbrev behind : Spec.Option (List ℕ) → Option Level
  behind ds = kept (at_most_one x ds)

  abbrev starting : List ℕ → Bool → Option Level
  starting l b = kept (elim b [ true ↦ at_most_one x (places l) | false ↦ none ])

  begun : (l : List ℕ) → is_first x ≡ true → behind (places l) ≡ level_found (x ∷ l)
  unfolding level_in
  begun l e = sym (ap (starting l) e)

  written : (ds : List ℕ) (n k : ℕ) → n ≡ (x - 48) * 10 ^ k + number_of ds → k ≡ length ds
      → kept (level_by n k) ≡ behind (some ds)
  written ds n k e h =
      ap₂ (λ (n k : ℕ). kept (level_by n k))
      (e ∙ ap (λ k. (x - 48) * 10 ^ k + number_of ds) h ∙ first_digit x ds) h

pub no_first : (v : List ℕ) → is_first (get_or v 0 0) ≡ false → level_found v ≡ None
unfolding level_in
no_first [] e = refl
no_first (x ∷ l) e = ap (starting x l) e

pub first_alone : (v : List ℕ) → length v ≡ 1 → is_first (get_or v 0 0) ≡ true
    → (n : ℕ) → n ≡ (get_or v 0 0 - 48) * 10 ^ 0 + 0 → kept (level_by n 0) ≡ level_found v
first_alone [] l e n h = absurd (omega arith)
first_alone (x ∷ []) l e n h = written x [] n 0 h refl ∙ begun x [] e
first_alone (x ∷ y ∷ ds) l e n h = absurd (omega arith)

-- a first digit with something behind it
pub record Begun (v : List ℕ) : Type 0 where
  pub some : length v ≡ 0 → ⊥
  pub more : length v ≡ 1 → ⊥
  pub first : is_first (get_or v 0 0) ≡ true

parts : (v : List ℕ) → Begun v → get_or v 0 0 ∷ get_or v 1 0 ∷ drop 2 v ≡ v
parts [] b = absurd (b.some refl)
parts (x ∷ []) b = absurd (b.more refl)
parts (x ∷ y ∷ ds) b = refl

module _ (v : List ℕ) (b : Begun v) where
  abbrev x : ℕ
  x = get_or v 0 0

  abbrev y : ℕ
  y = get_or v 1 0

  abbrev ds : List ℕ
  ds = drop 2 v

  -- ds behind a point, where the test holds
  abbrev pointed : Bool → Option Level
  pointed t = behind x (elim t [ true ↦ some ds | false ↦ none ])

  judged : level_found v ≡ pointed (eqb y 46 && is_number 6 ds)
  judged = sym (begun x (y ∷ ds) b.first ∙ ap (λ v. level_found v) (parts v b))

  pub no_point : (y ≡ 46 → ⊥) → level_found v ≡ None
  no_point p = judged ∙ ap (λ t. pointed (t && is_number 6 ds)) (ne_eqb y 46 p)

  -- the digits d behind the point
  module _ (d : Digits) (found : d ≡ digits_at 6 ds) where
    pub few : d.count ≤ 6
    few = omega (arith, counts 6 (lit≤ tt) ds d found)

    no_number : is_number 6 ds ≡ false → level_found v ≡ None
    no_number e = judged ∙ ap pointed (ap (λ t. eqb y 46 && t) e ∙ and-false (eqb y 46))

    pub no_digits : d.count ≡ 0 → level_found v ≡ None
    no_digits z = no_number (without 6 (lit≤ tt) ds d found z)

    pub more_behind : (length v - 2 ≡ d.count → ⊥) → level_found v ≡ None
    more_behind z = no_number (in_part 6 (lit≤ tt) ds d found (λ q. z (sym (q ∙ length-drop 2 v))))

    module _ (came : d.count ≡ 0 → ⊥) (whole : length v - 2 ≡ d.count) where
      all_read : d.count ≡ length ds
      all_read = sym (length-drop 2 v ∙ whole)

      pub value_below : d.value < 10 ^ d.count
      value_below =
          rw (value_whole 6 (lit≤ tt) ds d found came all_read, all_read)
          (number_below ds (digits_alone 6 (lit≤ tt) ds d found came all_read))

      pub with_places : y ≡ 46 → (n : ℕ) → n ≡ (x - 48) * 10 ^ d.count + d.value
          → kept (level_by n d.count) ≡ level_found v
      with_places p n h =
          written x ds n d.count
          (h ∙ ap (λ m. (x - 48) * 10 ^ d.count + m) (value_whole 6 (lit≤ tt) ds d found came all_read)) all_read
          ∙ sym (ap pointed (ap₂ ◌&&◌ (eq-eqb y 46 p) (number_whole 6 (lit≤ tt) ds d found came all_read)))
          ∙ sym judged
