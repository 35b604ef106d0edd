-- A name that is well formed is a word and a resource, counted from behind. Assumes nothing.
use Prim.Native.Nat.{ℕ, suc, ◌+◌, ◌≤◌, ◌<◌}
use mathlib.Core.Path.{◌≡◌, refl, sym, ap, subst, ◌∙◌}
use mathlib.Core.Bool.{Bool, true, false, ◌&&◌, false≢true}
use mathlib.Core.List.{List, [], ◌∷◌, ◌++◌}
use native.Mathlib.Omega.{arith}
use lib.Dec.{leb}
use lib.ListN.{length, take, drop, length-drop, take-append-drop}
use lib.Seq.{take_all, length-take-le}
use borrow.Author.Tests.{leb-true, le-leb}
use Rattle.lists.specs.Lists.{all, run, same}
use Rattle.lists.proofs.Tests.{both, refuted}
use Rattle.lists.proofs.Scans.{run_to, run_all, run_length, same_so}
use Rattle.octets.specs.Octets.{bytes}
use Rattle.answer.specs.declared.Kind.{Kind}
use Rattle.synth.specs.Kinds.{resource, kind_of}
use Rattle.synth.specs.Channel.{well_named}
use Rattle.synth.proofs.Names.{is_alnum}
use Rattle.channelnames.proofs.Tails.{resource_length, tail_kind}

-- the parts of a well-formed name
record Parted (name : List ℕ) : Type 0 where
  pub some : 1 ≤ run is_alnum name
  pub most : run is_alnum name ≤ 32
  pub size : length name ≡ run is_alnum name + 12
  pub tail : same (drop (run is_alnum name) name) (resource (kind_of name)) ≡ true

parted : (name : List ℕ) → well_named name ≡ true → Parted name
unfolding well_named
parted name e =
    let k : ℕ = run is_alnum name in
    let t = both (leb 1 k && leb k 32) (same (drop k name) (resource (kind_of name))) e in
    let u = both (leb 1 k) (leb k 32) t.0 in
    let end = ap length (same_so (drop k name) (resource (kind_of name)) t.1) ∙ resource_length (kind_of name) in
    let word = run_length is_alnum name in
    record {
      some = leb-true 1 k u.0;
      most = leb-true k 32 u.1;
      size = omega (arith, end, length-drop k name);
      tail = t.1;
    }

run_self : (l : List ℕ) → all is_alnum l ≡ true → run is_alnum l ≡ length l
run_self [] e = refl
run_self (x ∷ l) e = let h = both (is_alnum x) (all is_alnum l) e in rw (h.0, run) (ap suc (run_self l h.1))

module _ (name : List ℕ) where
  pub too_short : length name ≤ 12 → false ≡ well_named name
  too_short h = sym (refuted (well_named name) (λ e. let p = parted name e in omega (arith, h, p.some, p.size)))

  pub too_long : 44 < length name → false ≡ well_named name
  too_long h = sym (refuted (well_named name) (λ e. let p = parted name e in omega (arith, h, p.most, p.size)))

  -- with so many bytes in front of the last twelve
  module _ (k : ℕ) (place : length name ≡ k + 12) where
    at_run : well_named name ≡ true → run is_alnum name ≡ k
    at_run e = let p = parted name e in omega (arith, place, p.size)

    pub run_front : run is_alnum name ≡ k → run is_alnum (take k name) ≡ k
    run_front e = subst (λ (n : ℕ). run is_alnum (take n name) ≡ n) e (run_self (take (run is_alnum name) name) (run_all is_alnum name) ∙ run_length is_alnum name)

    pub no_word : (run is_alnum (take k name) ≡ k → ⊥) → well_named name ≡ false
    no_word h = refuted (well_named name) (λ e. h (run_front (at_run e)))

    -- the same, looked for in all of the name
    pub no_run : (run is_alnum name ≡ k → ⊥) → well_named name ≡ false
    no_run h = refuted (well_named name) (λ e. h (at_run e))

    module _ (word : run is_alnum (take k name) ≡ k) (some : 1 ≤ k) (most : k ≤ 32) where
      word_all : all is_alnum (take k name) ≡ true
      word_all =
          let size : length (take k name) ≡ k = length-take-le k name (omega (arith, place)) in
          ap (all is_alnum) (sym (ap (λ (n : ℕ). take n (take k name)) word ∙ take_all k (take k name) (omega (arith, size)))) ∙ run_all is_alnum (take k name)

      run_is : (x : ℕ) (v : List ℕ) → is_alnum x ≡ false → drop k name ≡ x ∷ v → run is_alnum name ≡ k
      run_is x v mark tail =
          ap (run is_alnum) (sym (take-append-drop k name) ∙ ap (λ (l : List ℕ). take k name ++ l) tail)
          ∙ run_to is_alnum (take k name) x v word_all mark
          ∙ length-take-le k name (omega (arith, place))

      at_word : (kind : Kind) → drop k name ≡ resource kind → run is_alnum name ≡ k
      at_word Kind.Synthesizer tail = run_is 64 (bytes "speechsynth") refl tail
      at_word Kind.Recognizer tail = run_is 64 (bytes "speechrecog") refl tail

      pub ends_in_lem : (kind : Kind) → same (drop k name) (resource kind) ≡ true → true ≡ well_named name
      unfolding well_named
      ends_in_lem kind e =
          sym (ap (λ (n : ℕ). leb 1 n && leb n 32 && same (drop n name) (resource (kind_of name))) (at_word kind (same_so (drop k name) (resource kind) e))
          ∙ rw (le-leb 1 k some, le-leb k 32 most, tail_kind name k kind e) e)

      pub ends_otherwise : (b : Bool) → same (drop k name) (bytes "@speechsynth") ≡ false → b ≡ same (drop k name) (bytes "@speechrecog") → b ≡ well_named name
      ends_otherwise b e f = go (same (drop k name) (bytes "@speechrecog")) refl
        where
          neither : (kind : Kind) → same (drop k name) (bytes "@speechrecog") ≡ false → same (drop k name) (resource kind) ≡ true → ⊥
          neither Kind.Synthesizer g t = false≢true (sym e ∙ t)
          neither Kind.Recognizer g t = false≢true (sym g ∙ t)

          go : (c : Bool) → same (drop k name) (bytes "@speechrecog") ≡ c → b ≡ well_named name
          go true g = f ∙ g ∙ ends_in_lem Kind.Recognizer g
          go false g =
              f ∙ g ∙ sym (refuted (well_named name) (λ w. neither (kind_of name) g (subst (λ (n : ℕ). same (drop n name) (resource (kind_of name)) ≡ true) (at_run w) (parted name w).tail)))
