-- Levels: which texts are one, that each is the single-precision number of its digits divided once, and that the
-- millionths kept are as good as that number. Assumes nothing.
use Prim.Native.Nat.{ℕ, ◌^◌, ◌≤◌}
use Prim.Native.String.{String}
use mathlib.Core.Path.{◌≡◌, refl, sym, ap, subst, ◌∙◌}
use mathlib.Core.Bool.{true, ◌&&◌, ◌||◌}
use mathlib.Core.Option.{Option, none, some}
use mathlib.Core.List.{List, [], ◌∷◌, ◌++◌, map}
use native.Mathlib.Nat.{mul-one}
use lib.Dec.{eqb, leb, lit≤}
use lib.Ieee.{binary32, of_int, div, round, units, odd, size, climb, span, to_bits}
use lib.ListN.{length, take, drop}
use Rattle.lists.proofs.Tests.{choose}
use Rattle.octets.specs.Octets.{bytes}
use Rattle.readers.specs.Words.{is_number, number_of}
use Rattle.message.specs.Message.{Field}
use Rattle.message.specs.declared.RequestState.TheVariants.{InProgress, Complete}
use Rattle.synth.specs.Levels.{quotient, single, places, at_most_one, level_in, is_some, is_level}
use Rattle.synth.specs.Settings.{level_text}
use Rattle.synth.specs.States.{or_zero, threshold_in}
use Rattle.synth.specs.declared.State.TheVariants.{Idle, Recognizing}
use Rattle.synth.specs.declared.Level.{Level}
use Rattle.synth.specs.declared.Setting.{Setting}
use Rattle.synth.proofs.Computed.{killed, beyond, field, judges}
use Rattle.synth.proofs.Levels.{read_exact, level_back}
use Rattle.synth.proofs.Theorems.Transitions.{row, on, gives}
use Rattle.synth.proofs.Theorems.Recognitions.{idle, recognizes}

-- ---- for all digits and places

-- the digits of a level's text, the point left out, and how many stand behind it
abbrev pub digits_in_lem : List ℕ → List ℕ
digits_in_lem v = take 1 v ++ drop 2 v

abbrev pub places_in : List ℕ → ℕ
places_in v = length (drop 2 v)

abbrev Divided : List ℕ → Option Level → Type 0
Divided v none = Unit {0}
Divided v (some l) = l.single ≡ quotient (number_of (digits_in_lem v)) (10 ^ places_in v)

one_divided : (x : ℕ) (v : List ℕ) → Divided (x ∷ v) (at_most_one x (places v))
one_divided x [] =
    choose (Divided (x ∷ [])) (leb (number_of (x ∷ [])) (10 ^ length {A = ℕ} [])) (λ e. refl) (λ e. tt)
one_divided x (y ∷ ds) =
    choose (λ (p : Option (List ℕ)). Divided (x ∷ y ∷ ds) (at_most_one x p)) (eqb y 46 && is_number 6 ds)
    (λ e. choose (Divided (x ∷ y ∷ ds)) (leb (number_of (x ∷ ds)) (10 ^ length ds)) (λ e. refl) (λ e. tt)) (λ e. tt)

all_divided : (v : List ℕ) → Divided v (level_in v)
unfolding level_in
all_divided [] = tt
all_divided (x ∷ v) = choose (Divided (x ∷ v)) (eqb x 48 || eqb x 49) (λ e. one_divided x v) (λ e. tt)

-- a level's number: its digits as a whole number, divided once by the power of ten
pub divided_once : (v : List ℕ) (l : Level) → level_in v ≡ some l
    → l.single ≡ quotient (number_of (digits_in_lem v)) (10 ^ places_in v)
divided_once v l e = subst (Divided v) e (all_divided v)

-- the number of the millionths is that number
pub by_millionths : (v : List ℕ) (l : Level) → level_in v ≡ some l → single l.millionths ≡ l.single
by_millionths v l e = sym (read_exact v l e).number

-- so the threshold of a request, with which a score is compared, is its own field's quotient
pub threshold_divided : (x : Setting) (v : List ℕ) (l : Level) → level_in v ≡ some l
    → single (threshold_in x (some v)) ≡ quotient (number_of (digits_in_lem v)) (10 ^ places_in v)
threshold_divided x v l e = ap (λ o. single (or_zero o)) e ∙ by_millionths v l e ∙ divided_once v l e

-- ---- the thresholds that reading can give

-- at most one
pub read_threshold : (x : Setting) (v : List ℕ) → threshold_in x (some v) ≤ 1000000
read_threshold x v = go (level_in v) refl
  where
    go : (o : Option Level) → level_in v ≡ o → or_zero o ≤ 1000000
    go none e = lit≤ tt
    go (some l) e = (read_exact v l e).most

-- and each of these
pub readable_threshold : (x : Setting) (m : ℕ) → m ≤ 1000000
    → (v : List ℕ) × (is_level v ≡ true) × (threshold_in x (some v) ≡ m)
readable_threshold x m h =
    let l : Level = record { millionths = m; single = single m } in
    let reads = level_back l h in
    (level_text l, ap is_some reads, ap or_zero reads ∙ mul-one m)

-- ---- by table

-- millionths and bits
pub record Row : Type 0 where
  pub millionths : ℕ
  pub bits : ℕ

abbrev pub row_of : Option Level → Option Row
row_of none = none
row_of (some l) = some (record { millionths = l.millionths; bits = to_bits binary32 l.single })

abbrev pub is : ℕ → ℕ → Option Row
is millionths bits = some (record { millionths = millionths; bits = bits })

pub read : List String → List (Option Row)
unfolding level_in quotient div of_int round units odd size climb span to_bits
read texts = map (λ (text : String). row_of (level_in (bytes text))) texts

pub levels :
    read ("0" ∷ "1" ∷ "0.0" ∷ "0.5" ∷ "0.500000" ∷ "0.1" ∷ "0.000001" ∷ "0.999999" ∷ "1.0" ∷ "1.000000" ∷ [])
    ≡ is 0 0
    ∷ is 1000000 1065353216
    ∷ is 0 0
    ∷ is 500000 1056964608
    ∷ is 500000 1056964608
    ∷ is 100000 1036831949
    ∷ is 1 897988541
    ∷ is 999999 1065353199
    ∷ is 1000000 1065353216
    ∷ is 1000000 1065353216
    ∷ []
unfolding read
levels = refl

-- above one; no digit in front, or behind; two in front; seven places; none; another digit; a sign; something else
pub no_levels :
    read ("1.000001" ∷ "1.1" ∷ ".5" ∷ "0." ∷ "00.5" ∷ "0.5000000" ∷ "" ∷ "2" ∷ "-0" ∷ "+1" ∷ "0,5" ∷ "0.5a" ∷ "0.5.5" ∷ "0 " ∷ [])
    ≡ none ∷ none ∷ none ∷ none ∷ none ∷ none ∷ none ∷ none ∷ none ∷ none ∷ none ∷ none ∷ none ∷ none ∷ []
unfolding read
no_levels = refl

abbrev pub at_least : String → Field (List ℕ)
at_least text = field "Confidence-Threshold" text

-- what a RECOGNIZE keeps of it: 0 where it did not come
pub kept :
    on idle (recognizes [])
    ∷ on idle (recognizes (at_least "0.5" ∷ []))
    ∷ on idle (recognizes (at_least "0.500000" ∷ []))
    ∷ on idle (recognizes (at_least "1" ∷ []))
    ∷ on idle (recognizes (at_least "1.000001" ∷ []))
    ∷ on idle (recognizes (at_least "" ∷ []))
    ∷ []
    ≡ gives 200 InProgress none Recognizing (killed 9 ∷ [])
    ∷ gives 200 InProgress none Recognizing (beyond 500000 9 ∷ [])
    ∷ gives 200 InProgress none Recognizing (beyond 500000 9 ∷ [])
    ∷ gives 200 InProgress none Recognizing (beyond 1000000 9 ∷ [])
    ∷ gives 404 Complete none Idle []
    ∷ gives 404 Complete none Idle []
    ∷ []
unfolding idle recognizes row on gives judges
kept = refl
