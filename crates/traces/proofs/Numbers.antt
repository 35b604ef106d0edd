-- Numbers as four bytes, and back; and texts that are the same. Assumes nothing.
use Prim.Native.Nat.{ℕ, zero, suc, ◌+◌, ◌*◌, ◌/◌, ◌%◌, ◌^◌, ◌≤◌, ◌<◌}
use mathlib.Core.Path.{◌≡◌, refl, sym, ap, ap₂, ◌∙◌}
use mathlib.Core.Bool.{true, false, ◌&&◌, and_assoc}
use mathlib.Core.List.{List, [], ◌∷◌, ◌++◌}
use native.Mathlib.Nat.{pow-suc, mul_comm}
use native.Mathlib.Omega.{arith}
use lib.Dec.{eqb}
use lib.ListN.{length, take, drop, get_or, length-drop}
use lib.Seq.{length-take-le}
use Rattle.lists.specs.Lists.{same, All}
use Rattle.lists.proofs.Tests.{refuted}
use Rattle.lists.proofs.Scans.{same_so}
use Rattle.octets.proofs.Texts.{same_self}
use Rattle.readers.proofs.Positions.{here}
use Rattle.traces.specs.Traces.{in_bytes, four, little, number_at}

abbrev pub Octets : List ℕ → Type 0
Octets l = All (λ x. x < 256) l

pub all_bytes : (l : List ℕ) → ((k : ℕ) → get_or l k 0 < 256) → Octets l
all_bytes [] h = tt
all_bytes (x ∷ l) h = (h 0, all_bytes l (λ k. h (suc k)))

octets_drop : (k : ℕ) (l : List ℕ) → Octets l → Octets (drop k l)
octets_drop zero l h = h
octets_drop (suc k) [] h = tt
octets_drop (suc k) (x ∷ l) h = octets_drop k l h.1

octets_take : (k : ℕ) (l : List ℕ) → Octets l → Octets (take k l)
octets_take zero l h = tt
octets_take (suc k) [] h = tt
octets_take (suc k) (x ∷ l) h = (h.0, octets_take k l h.1)

in_bytes_lem : (k n : ℕ) → n < 256 ^ k → little (in_bytes k n) ≡ n
in_bytes_lem zero n h = omega arith
in_bytes_lem (suc k) n h =
    let p : n < 256 * 256 ^ k = rw (pow-suc, mul_comm (256 ^ k) 256) at h in
    let q : n / 256 < 256 ^ k = omega arith in
    let r = in_bytes_lem k (n / 256) q in
    rw r (omega arith)

pub four_back : (n : ℕ) → n < 4294967296 → little (four n) ≡ n
unfolding four
four_back n h = in_bytes_lem 4 n h

bytes_in : (l : List ℕ) → Octets l → in_bytes (length l) (little l) ≡ l
bytes_in [] h = refl
bytes_in (x ∷ l) (p, h) =
    let a : (x + 256 * little l) % 256 ≡ x = omega arith in
    let b : (x + 256 * little l) / 256 ≡ little l = omega arith in
    ap₂ (λ y m. y ∷ in_bytes (length l) m) a b ∙ ap (λ m. x ∷ m) (bytes_in l h)

pub back_four : (l : List ℕ) → Octets l → length l ≡ 4 → four (little l) ≡ l
unfolding four
back_four l h e = ap (λ k. in_bytes k (little l)) (sym e) ∙ bytes_in l h

pub four_length : (n : ℕ) → length (four n) ≡ 4
unfolding four
four_length n = refl

four_bytes : (f : List ℕ) (at : ℕ) → at + 4 ≤ length f
    → drop at f ≡ get_or f at 0 ∷ get_or f (at + 1) 0 ∷ get_or f (at + 2) 0 ∷ get_or f (at + 3) 0 ∷ drop (at + 4) f
four_bytes f at h =
    let one = here f at (omega arith) in
    let two = here f (at + 1) (omega arith) ∙ next (at + 1) (at + 2) (omega arith) in
    let three = here f (at + 2) (omega arith) ∙ next (at + 2) (at + 3) (omega arith) in
    let last = here f (at + 3) (omega arith) ∙ next (at + 3) (at + 4) (omega arith) in
    one
    ∙ ap (λ l. get_or f at 0 ∷ l) (two
    ∙ ap (λ l. get_or f (at + 1) 0 ∷ l) (three ∙ ap (λ l. get_or f (at + 2) 0 ∷ l) last))
  where
    next : (i j : ℕ) → i + 1 ≡ j → get_or f i 0 ∷ drop (i + 1) f ≡ get_or f i 0 ∷ drop j f
    next i j e = ap (λ (k : ℕ). get_or f i 0 ∷ drop k f) e

pub number_is : (f : List ℕ) (at : ℕ) → at + 4 ≤ length f
    → get_or f at 0 + 256 * (get_or f (at + 1) 0 + 256 * (get_or f (at + 2) 0 + 256 * get_or f (at + 3) 0))
    ≡ number_at f at
unfolding number_at
number_is f at h = rw (four_bytes f at h) (omega arith)

pub same_append : (a b c d : List ℕ) → length a ≡ length c → same (a ++ b) (c ++ d) ≡ same a c && same b d
same_append [] b [] d e = refl
same_append [] b (y ∷ c) d e = absurd (omega arith)
same_append (x ∷ a) b [] d e = absurd (omega arith)
same_append (x ∷ a) b (y ∷ c) d e =
    rw (same_append a b c d (omega arith)) (sym (and_assoc (eqb x y) (same a c) (same b d)))

-- four bytes at p
module _ (f : List ℕ) (o : Octets f) (p : ℕ) (there : p + 4 ≤ length f) where
  pub taken_length : length (take 4 (drop p f)) ≡ 4
  taken_length = length-take-le 4 (drop p f) (omega (arith, length-drop p f))

  pub four_at : four (number_at f p) ≡ take 4 (drop p f)
  unfolding number_at
  four_at = back_four (take 4 (drop p f)) (octets_take 4 (drop p f) (octets_drop p f o)) taken_length

  pub entry_yes : (i : ℕ) → number_at f p ≡ i → same (take 4 (drop p f)) (four i) ≡ true
  entry_yes i e =
      let q : four i ≡ take 4 (drop p f) = ap four (sym e) ∙ four_at in
      rw q (same_self (take 4 (drop p f)))

  pub entry_no : (i : ℕ) → i < 4294967296 → (number_at f p ≡ i → ⊥) → same (take 4 (drop p f)) (four i) ≡ false
  unfolding number_at
  entry_no i l h = refuted (same (take 4 (drop p f)) (four i))
      (λ e. h (ap little (same_so (take 4 (drop p f)) (four i) e) ∙ four_back i l))
