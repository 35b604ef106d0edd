-- An opening is read step by step, each from the position that the one before it gave: this gives what the reader
-- gives. Assumes nothing.
use mathlib.Core.Path.{◌≡◌, refl, sym, ap, ◌∙◌}
use mathlib.Core.List.{List}
use Prim.Native.Nat.{ℕ, ◌+◌}
use native.Mathlib.Nat.{add_assoc, add-zero, zero-add}
use lib.ListN.{drop}
use lib.Seq.{drop-drop}
use Rattle.std.specs.Prelude.{Result, Ok, Err}
use Rattle.octets.specs.Octets.{bytes}
use Rattle.readers.specs.Readers.{Read, short, wrong, got, after, next, Reader, ◌>>=◌, ◌>>◌, done, text, number}
use Rattle.readers.specs.Steps.{placed}
use Rattle.readers.specs.declared.Misread.{Misread}
use Rattle.digits.specs.Steps.{scanned, one_to19}
use Rattle.digits.specs.declared.Numeral.{Numeral}
use Rattle.framing.specs.Framing.{opening}
use Rattle.framing.specs.Steps.{front_of}
use Rattle.framing.specs.declared.Opening.{Opening}
use Rattle.framing.specs.declared.Front.{Front}

module _ {A : Type 0} where
  after_after : (a b : ℕ) (r : Read A) → after a (after b r) ≡ after (a + b) r
  after_after a b short = refl
  after_after a b wrong = refl
  after_after a b (got v k) = ap (got v) (sym (add_assoc a b k))

  after_zero : (r : Read A) → after 0 r ≡ r
  after_zero short = refl
  after_zero wrong = refl
  after_zero (got v k) = ap (got v) (zero-add k)

-- a step that goes on where the one before it did not fail
abbrev pub onward : {A : Type 0} → Result A Misread → (A → Result Front Misread) → Result Front Misread
onward (Ok x) f = f x
onward (Err why) f = Err why

onward_alike : {A : Type 0} (r : Result A Misread) {f g : A → Result Front Misread}
    → ((x : A) → f x ≡ g x) → onward r f ≡ onward r g
onward_alike (Ok x) h = h x
onward_alike (Err why) h = refl

module _ (s : List ℕ) where
  -- the text, or the number, that stands at a position
  abbrev pub text_here : ℕ → List ℕ → Result ℕ Misread
  text_here at t = placed at (text t (drop at s))

  abbrev pub number_here : ℕ → ℕ → Result Numeral Misread
  number_here at max = scanned at (number (one_to19 max) (drop at s))

  -- a reader on the bytes behind a position
  abbrev from : ℕ → Reader Opening → Result Front Misread
  from at q = front_of (after at (q (drop at s)))

  pub by_text : (at : ℕ) (t : List ℕ) (q : Reader Opening) → from at (text t >> q) ≡ onward (text_here at t) (λ k. from k q)
  by_text at t q = go (text t (drop at s))
    where
      go : (r : Read (Unit {0}))
          → front_of (after at (next r (λ _. q) (drop at s))) ≡ onward (placed at r) (λ k. from k q)
      go short = refl
      go wrong = refl
      go (got u n) =
          ap front_of (after_after at n (q (drop n (drop at s))) ∙ ap (λ l. after (at + n) (q l)) (drop-drop n at s))

  pub by_number : (at max : ℕ) (q : ℕ → Reader Opening)
      → from at (number (one_to19 max) >>= q) ≡ onward (number_here at max) (λ n. from n.next (q n.value))
  by_number at max q = go (number (one_to19 max) (drop at s))
    where
      go : (r : Read ℕ)
          → front_of (after at (next r q (drop at s))) ≡ onward (scanned at r) (λ n. from n.next (q n.value))
      go short = refl
      go wrong = refl
      go (got v n) =
          ap front_of
          (after_after at n (q v (drop n (drop at s))) ∙ ap (λ l. after (at + n) (q v l)) (drop-drop n at s))

  by_end : (at : ℕ) (o : Opening) → from at (done o) ≡ Ok (record { opening = o; length = at })
  by_end at o = ap (λ k. Ok (record { opening = o; length = k })) (add-zero at)

  -- the opening, step by step
  abbrev pub stepped : Result Front Misread
  stepped =
      onward (text_here 0 (bytes "MRCP/")) λ k₁.
      onward (number_here k₁ 2) λ major.
      onward (text_here major.next (bytes ".")) λ k₂.
      onward (number_here k₂ 2) λ minor.
      onward (text_here minor.next (bytes " ")) λ k₃.
      onward (number_here k₃ 19) λ stated.
      onward (text_here stated.next (bytes " ")) λ k.
      Ok (record {
        opening = record { major = major.value; minor = minor.value; stated = stated.value };
        length = k;
      })

  pub by_steps : front_of (opening s) ≡ stepped
  unfolding opening
  by_steps =
      ap front_of (sym (after_zero (opening s)))
      ∙ by_text 0 (bytes "MRCP/") _ ∙ onward_alike _ λ k₁.
      by_number k₁ 2 _ ∙ onward_alike _ λ (major : Numeral).
      by_text major.next (bytes ".") _ ∙ onward_alike _ λ k₂.
      by_number k₂ 2 _ ∙ onward_alike _ λ (minor : Numeral).
      by_text minor.next (bytes " ") _ ∙ onward_alike _ λ k₃.
      by_number k₃ 19 _ ∙ onward_alike _ λ (stated : Numeral).
      by_text stated.next (bytes " ") _ ∙ onward_alike _ λ k.
      by_end k _
