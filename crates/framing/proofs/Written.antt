-- The bytes of an opening, as the grammar has them and as they are read.
-- Assumes nothing.
use mathlib.Core.Path.{◌≡◌, refl, sym, ap, ◌∙◌, ap₂}
use mathlib.Core.Bool.{false}
use mathlib.Core.List.{List, [], ◌∷◌, ◌++◌, append_assoc}
use Prim.Native.Nat.{ℕ, suc, ◌+◌}
use native.Mathlib.Omega.{arith}
use lib.ListN.{length, take, length-append}
use lib.Seq.{take-append_seam}
use Rattle.octets.specs.Octets.{bytes, is_digit}
use Rattle.readers.specs.Readers.{Reader, got, number, ◌>>=◌}
use Rattle.readers.specs.Words.{number_of}
use Rattle.readers.proofs.Spelled.{done_got, text_then, number_then, Goes, done_goes, text_goes, number_goes}
use Rattle.framing.specs.Framing.{opening}
use Rattle.framing.specs.Grammar.{Digits, IsVersion, IsOpening, States}
use Rattle.framing.specs.declared.Opening.{Opening}

-- the bytes of an opening, and what follows
abbrev pub written : List ℕ → List ℕ → List ℕ → List ℕ → List ℕ
written a b d rest = bytes "MRCP/" ++ (a ++ (bytes "." ++ (b ++ (bytes " " ++ (d ++ (bytes " " ++ rest))))))

written_length : (a b d rest : List ℕ) → length (written a b d rest) ≡ length a + length b + length d + 8 + length rest
written_length a b d rest =
    omega (arith, length-append a (46 ∷ (b ++ 32 ∷ (d ++ 32 ∷ rest))), length-append b (32 ∷ (d ++ 32 ∷ rest)), length-append d (32 ∷ rest))

-- what it says
abbrev pub saying : List ℕ → List ℕ → List ℕ → Opening
saying a b d = record { major = number_of a; minor = number_of b; stated = number_of d }

-- an opening of k bytes stands at the front and says o
pub record Written (s : List ℕ) (o : Opening) (k : ℕ) : Type 0 where
  pub major : List ℕ
  pub minor : List ℕ
  pub stated : List ℕ
  pub rest : List ℕ
  pub is_major : Digits 2 major
  pub is_minor : Digits 2 minor
  pub is_stated : Digits 19 stated
  pub front : s ≡ written major minor stated rest
  pub size : k ≡ length major + length minor + length stated + 8
  pub says : o ≡ saying major minor stated

pub read_written : (s : List ℕ) (o : Opening) (k : ℕ) → opening s ≡ got o k → Written s o k
unfolding opening
read_written s o k e =
    text_then s o k (bytes "MRCP/") _ e λ r₁ k₁ e₁ f₁ l₁.
    number_then r₁ o k₁ 1 _ e₁ λ a r₂ k₂ a1 a2 a3 e₂ f₂ l₂.
    text_then r₂ o k₂ (bytes ".") _ e₂ λ r₃ k₃ e₃ f₃ l₃.
    number_then r₃ o k₃ 1 _ e₃ λ b r₄ k₄ b1 b2 b3 e₄ f₄ l₄.
    text_then r₄ o k₄ (bytes " ") _ e₄ λ r₅ k₅ e₅ f₅ l₅.
    number_then r₅ o k₅ 18 _ e₅ λ d r₆ k₆ d1 d2 d3 e₆ f₆ l₆.
    text_then r₆ o k₆ (bytes " ") _ e₆ λ r₇ k₇ e₇ f₇ l₇.
    record {
      major = a;
      minor = b;
      stated = d;
      rest = r₇;
      is_major = record { some = a1; most = a2; digits = a3 };
      is_minor = record { some = b1; most = b2; digits = b3 };
      is_stated = record { some = d1; most = d2; digits = d3 };
      front =
          f₁ ∙ ap (λ r. bytes "MRCP/" ++ r) (f₂ ∙ ap (λ r. a ++ r) (f₃ ∙ ap (λ r. bytes "." ++ r) (f₄ ∙ ap (λ r. b ++ r)
          (f₅ ∙ ap (λ r. bytes " " ++ r) (f₆ ∙ ap (λ r. d ++ r) f₇)))));
      size = omega (arith, (done_got _ o k₇ e₇).1);
      says = (done_got _ o k₇ e₇).0;
    }

-- a number of the opening, and the byte x after it
number_here : {B : Type 0} {w : B} {m : ℕ} (max x : ℕ) {d v : List ℕ} {q : ℕ → Reader B} → is_digit x ≡ false → Digits (suc max) d
    → Goes (q (number_of d)) (x ∷ v) w m → Goes (number (suc max) >>= q) (d ++ x ∷ v) w (length d + m)
number_here max x {d = d} other D h = number_goes max x d D.some D.most D.digits other h

pub written_read : (s : List ℕ) (o : Opening) (k : ℕ) → Written s o k → opening s ≡ got o k
unfolding opening
written_read s o k w = ap opening w.front ∙ go.goes ∙ ap₂ got (sym w.says) (omega (arith, w.size))
  where
    go : Goes opening (written w.major w.minor w.stated w.rest) (saying w.major w.minor w.stated)
        (5 + (length w.major + (1 + (length w.minor + (1 + (length w.stated + (1 + 0)))))))
    go = text_goes (bytes "MRCP/") (number_here 1 46 refl w.is_major (text_goes (bytes ".") (number_here 1 32 refl w.is_minor
        (text_goes (bytes " ") (number_here 18 32 refl w.is_stated (text_goes (bytes " ") (done_goes _ w.rest)))))))

-- The grammar's words are these bytes.
abbrev versioned : List ℕ → List ℕ → List ℕ
versioned a b = bytes "MRCP/" ++ (a ++ (bytes "." ++ (b ++ bytes " ")))

versioned_length : (a b : List ℕ) → length (versioned a b) ≡ length a + length b + 7
versioned_length a b = omega (arith, length-append a (46 ∷ (b ++ 32 ∷ [])), length-append b (32 ∷ []))

of_version : (v : List ℕ) → IsVersion v → (a : List ℕ) × (b : List ℕ) × Digits 2 a × Digits 2 b × (v ≡ versioned a b)
of_version v (m, v₁, em, (a, v₂, A, (p, v₃, ep, (b, q, B, eq, f₄), f₃), f₂), f₁) =
    (a, b, A, B, f₁ ∙ ap₂ ◌++◌ em (f₂ ∙ ap (λ r. a ++ r) (f₃ ∙ ap₂ ◌++◌ ep (f₄ ∙ ap (λ r. b ++ r) eq))))

pub of_opening_lem : (u : List ℕ) → IsOpening u → (o : Opening) × Written u o (length u)
of_opening_lem u (m, u₁, em, (a, u₂, A, (p, u₃, ep, (b, u₄, B, (q, u₅, eq, (d, r, D, er, f₆), f₅), f₄), f₃), f₂), f₁) = (
  saying a b d,
  record {
    major = a;
    minor = b;
    stated = d;
    rest = [];
    is_major = A;
    is_minor = B;
    is_stated = D;
    front = f;
    size = omega (arith, ap length f, written_length a b d []);
    says = refl;
  },
)
  where
    f : u ≡ written a b d []
    f = f₁ ∙ ap₂ ◌++◌ em (f₂ ∙ ap (λ r. a ++ r) (f₃ ∙ ap₂ ◌++◌ ep (f₄ ∙ ap (λ r. b ++ r) (f₅ ∙ ap₂ ◌++◌ eq (f₆ ∙ ap (λ r. d ++ r) er)))))

regrouped : (m a p b q d r t : List ℕ) → m ++ (a ++ (p ++ (b ++ (q ++ (d ++ (r ++ t)))))) ≡ m ++ (a ++ (p ++ (b ++ q))) ++ d ++ r ++ t
regrouped m a p b q d r t = simp append_assoc

pub written_states : (s : List ℕ) (o : Opening) (k : ℕ) → Written s o k → States s k o.stated
written_states s o k w = record {
  version = versioned w.major w.minor;
  digits = w.stated;
  rest = w.rest;
  is_version = (_, _, refl, (_, _, w.is_major, (_, _, refl, (_, _, w.is_minor, refl, refl), refl), refl), refl);
  is_digits = w.is_stated;
  front = w.front ∙ regrouped (bytes "MRCP/") w.major (bytes ".") w.minor (bytes " ") w.stated (bytes " ") w.rest;
  size = omega (arith, w.size, versioned_length w.major w.minor);
  value = ap (λ (p : Opening). p.stated) w.says;
}

pub states_written : (s : List ℕ) (k n : ℕ) → States s k n → (o : Opening) × Written s o k × (o.stated ≡ n)
states_written s k n h = go (of_version h.version h.is_version)
  where
    go : (a : List ℕ) × (b : List ℕ) × Digits 2 a × Digits 2 b × (h.version ≡ versioned a b) → (o : Opening) × Written s o k × (o.stated ≡ n)
    go (a, b, A, B, e) = (
      saying a b h.digits,
      record {
        major = a;
        minor = b;
        stated = h.digits;
        rest = h.rest;
        is_major = A;
        is_minor = B;
        is_stated = h.is_digits;
        front =
            h.front ∙ ap (λ v. v ++ h.digits ++ bytes " " ++ h.rest) e
            ∙ sym (regrouped (bytes "MRCP/") a (bytes ".") b (bytes " ") h.digits (bytes " ") h.rest);
        size = omega (arith, h.size, ap length e, versioned_length a b);
        says = refl;
      },
      sym h.value,
    )

split : (m a p b q d r t : List ℕ) → m ++ (a ++ (p ++ (b ++ (q ++ (d ++ (r ++ t)))))) ≡ m ++ (a ++ (p ++ (b ++ (q ++ (d ++ r))))) ++ t
split m a p b q d r t = simp append_assoc

-- the opening by itself
module _ (s : List ℕ) (o : Opening) (k : ℕ) (w : Written s o k) where
  itself : take k s ≡ written w.major w.minor w.stated []
  itself =
      let u = written w.major w.minor w.stated [] in
      let k-is : k ≡ length u = omega (arith, w.size, written_length w.major w.minor w.stated []) in
      ap₂ take k-is (w.front ∙ split (bytes "MRCP/") w.major (bytes ".") w.minor (bytes " ") w.stated (bytes " ") w.rest)
      ∙ take-append_seam u w.rest

  pub is_opening : IsOpening (take k s)
  is_opening = (
    _,
    _,
    refl,
    (_, _, w.is_major, (_, _, refl, (_, _, w.is_minor, (_, _, refl, (_, _, w.is_stated, refl, refl), refl), refl), refl), refl),
    itself,
  )

  pub alone : Written (take k s) o k
  alone = record {
    major = w.major;
    minor = w.minor;
    stated = w.stated;
    rest = [];
    is_major = w.is_major;
    is_minor = w.is_minor;
    is_stated = w.is_stated;
    front = itself;
    size = w.size;
    says = w.says;
  }
