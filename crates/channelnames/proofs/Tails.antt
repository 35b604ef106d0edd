-- The kind that a name tells, by its end and by its last byte. Assumes nothing.
use Prim.Native.Nat.{ℕ, zero, suc, ◌+◌, ◌-◌, ◌≤◌, ◌<◌}
use mathlib.Core.Path.{◌≡◌, refl, sym, ap, ◌∙◌}
use mathlib.Core.Bool.{true, false, ◌&&◌, ◌||◌}
use mathlib.Core.List.{List, [], ◌∷◌}
use native.Mathlib.Nat.{sub-zero}
use native.Mathlib.Omega.{arith}
use lib.Dec.{leb}
use lib.ListN.{length, take, drop, get_or, replicate, length-drop}
use lib.Seq.{get_or-append-add, get_or-drop, take_all, take-nil}
use Rattle.lists.specs.Lists.{run, same}
use Rattle.lists.proofs.Tests.{refuted, both}
use Rattle.lists.proofs.Scans.{same_so}
use Rattle.octets.specs.Octets.{bytes, is_letter, is_digit}
use Rattle.answer.specs.declared.Kind.{Kind}
use Rattle.synth.specs.Kinds.{resource, ends_in, kind_of}
use Rattle.synth.specs.Channel.{well_named}
use Rattle.channelnames.specs.Names.{name_of, kind_by}
use Rattle.channelnames.specs.declared.Name.{Name}
use Rattle.channelnames.proofs.Names.{within}

pub resource_length : (kind : Kind) → length (resource kind) ≡ 12
resource_length Kind.Synthesizer = refl
resource_length Kind.Recognizer = refl

-- the last twelve bytes tell the kind
module _ (name : List ℕ) where
  pub recognizes : ends_in name (bytes "@speechrecog") ≡ true → kind_of name ≡ Kind.Recognizer
  unfolding kind_of
  recognizes e = rw (e, kind_of)

  pub synthesizes : ends_in name (bytes "@speechrecog") ≡ false → kind_of name ≡ Kind.Synthesizer
  unfolding kind_of
  synthesizes e = rw (e, kind_of)

  -- one that is too short, or ends in another byte, is no recognizer's
  pub short_kind : length name < 12 → kind_of name ≡ Kind.Synthesizer
  short_kind h = synthesizes (refuted _ (λ e.
      let tail : length (drop (length name - 12) name) ≡ 12 = ap length (same_so (drop (length name - 12) name) (bytes "@speechrecog") e) in
      omega (arith, h, tail, length-drop (length name - 12) name)))

  pub other_end : 12 ≤ length name → (get_or name (length name - 1) 0 ≡ 103 → ⊥) → kind_of name ≡ Kind.Synthesizer
  other_end h f = synthesizes (refuted _ (λ e.
      let k : ℕ = length name - 12 in
      let last : k + 11 ≡ length name - 1 = omega (arith, h) in
      f (ap (λ (n : ℕ). get_or name n 0) (sym last) ∙ sym (get_or-drop k name 11 0) ∙ ap (λ (l : List ℕ). get_or l 11 0) (same_so (drop k name) (bytes "@speechrecog") e))))

-- a name that ends in a resource has its kind by the last byte
by_end : (name : List ℕ) (kind : Kind) → drop (length name - 12) name ≡ resource kind → kind_by name ≡ kind
by_end name kind e = go kind e
  where
    last : (kind : Kind) → drop (length name - 12) name ≡ resource kind → get_or name (length name - 1) 0 ≡ get_or (resource kind) 11 0
    last kind e =
        let size : length (drop (length name - 12) name) ≡ 12 = ap length e ∙ resource_length kind in
        let place : length name - 1 ≡ length name - 12 + 11 = omega (arith, size, length-drop (length name - 12) name) in
        ap (λ (n : ℕ). get_or name n 0) place ∙ sym (get_or-drop (length name - 12) name 11 0) ∙ ap (λ (l : List ℕ). get_or l 11 0) e

    go : (kind : Kind) → drop (length name - 12) name ≡ resource kind → kind_by name ≡ kind
    go Kind.Synthesizer e = rw (last Kind.Synthesizer e, kind_by)
    go Kind.Recognizer e = rw (last Kind.Recognizer e, kind_by)

ends : (name : List ℕ) (k : ℕ) (kind : Kind) → same (drop k name) (resource kind) ≡ true → drop (length name - 12) name ≡ resource kind
ends name k kind e =
    let tail = same_so (drop k name) (resource kind) e in
    let from : length name - 12 ≡ k = omega (arith, ap length tail, length-drop k name, resource_length kind) in
    ap (λ (n : ℕ). drop n name) from ∙ tail

-- what follows the letters and digits of a well-formed name tells it too
module _ (name : List ℕ) (k : ℕ) where
  pub tail_kind : (kind : Kind) → same (drop k name) (resource kind) ≡ true → kind_of name ≡ kind
  tail_kind kind e = go kind (ends name k kind e)
    where
      go : (kind : Kind) → drop (length name - 12) name ≡ resource kind → kind_of name ≡ kind
      go Kind.Synthesizer e = synthesizes name (rw e)
      go Kind.Recognizer e = recognizes name (rw e)

zero_at : (n i : ℕ) → get_or (replicate {A = ℕ} n 0) i 0 ≡ 0
zero_at zero i = refl
zero_at (suc n) zero = refl
zero_at (suc n) (suc i) = zero_at n i

pub empty_by : (name : List ℕ) → length name ≡ 0 → kind_by name ≡ Kind.Synthesizer
empty_by [] h = refl
empty_by (x ∷ name) h = absurd (let z : suc (length name) ≡ 0 = h in omega arith)

-- a name past its array ends in a zero
long_end : (n : Name) → length n.bytes ≡ 44 → 44 < n.size → length (name_of n) ≡ n.size → get_or (name_of n) (length (name_of n) - 1) 0 ≡ 0
unfolding name_of
long_end n l h s =
    ap (λ (i : ℕ). get_or (name_of n) i 0) place
    ∙ get_or-append-add (take n.size n.bytes) (replicate (n.size - 44) 0) (n.size - 45) 0
    ∙ zero_at (n.size - 44) (n.size - 45)
  where
    front : length (take n.size n.bytes) ≡ 44
    front = ap length (take_all n.size n.bytes (omega (arith, l, h))) ∙ l

    place : length (name_of n) - 1 ≡ length (take n.size n.bytes) + (n.size - 45)
    place = omega (arith, s, front, h)

pub long_by : (n : Name) → length n.bytes ≡ 44 → 44 < n.size → length (name_of n) ≡ n.size → kind_by (name_of n) ≡ Kind.Synthesizer
long_by n l h s = rw (long_end n l h s, kind_by)

pub long_kind : (n : Name) → length n.bytes ≡ 44 → 44 < n.size → length (name_of n) ≡ n.size → kind_of (name_of n) ≡ Kind.Synthesizer
long_kind n l h s = other_end (name_of n) (omega (arith, h, s)) (λ e. let z : 0 ≡ 103 = sym (long_end n l h s) ∙ e in omega (arith, z))

drop_take : (k n : ℕ) (l : List ℕ) → k ≤ n → drop k (take n l) ≡ take (n - k) (drop k l)
drop_take zero n l h = rw (sub-zero n)
drop_take (suc k) zero l h = absurd (omega arith)
drop_take (suc k) (suc n) [] h = sym (take-nil (suc n - suc k))
drop_take (suc k) (suc n) (x ∷ l) h = let e : suc n - suc k ≡ n - k = omega arith in rw e (drop_take k n l (omega arith))

-- the end of a name within its array
pub end_at : (n : Name) → length (name_of n) ≡ n.size → 12 ≤ n.size → n.size ≤ 44
    → ends_in (name_of n) (bytes "@speechrecog") ≡ same (take (n.size - (n.size - 12)) (drop (n.size - 12) n.bytes)) (bytes "@speechrecog")
end_at n s some few = rw (s, within n few, drop_take (n.size - 12) n.size n.bytes (omega arith))

-- a well-formed name has the kind that its last byte tells
pub named_kind : (name : List ℕ) → well_named name ≡ true → kind_of name ≡ kind_by name
unfolding well_named
named_kind name e =
    let k : ℕ = run (λ b. is_letter b || is_digit b) name in
    let tail = (both (leb 1 k && leb k 32) (same (drop k name) (resource (kind_of name))) e).1 in
    sym (by_end name (kind_of name) (ends name k (kind_of name) tail))
