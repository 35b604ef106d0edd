-- Fair readers: more bytes change neither what was read nor that it was wrong, and a beginning that is too short can be completed.
-- Assumes nothing.
use mathlib.Core.Path.{◌≡◌, refl, sym, ap, subst, ◌∙◌}
use mathlib.Core.Bool.{Bool, true, false}
use mathlib.Core.List.{List, [], ◌∷◌, ◌++◌, append_assoc}
use Prim.Native.Nat.{ℕ, zero, suc, ◌+◌, ◌-◌, ◌*◌, ◌≤◌, zero-le}
use native.Mathlib.Omega.{arith}
use native.Mathlib.Numerals.{one-add}
use lib.Dec.{eqb}
use lib.ListN.{length, drop, length-append, length-drop}
use lib.Seq.{drop-append-le, drop-append_seam, drop-length, drop-nil}
use borrow.Author.Tests.{eq-eqb}
use Rattle.octets.specs.Octets.{is_digit}
use Rattle.readers.proofs.Steps.{byte_yes, byte_no}
use Rattle.readers.specs.Readers.{Read, short, wrong, got, after, next, Reader, ◌>>=◌, done, byte, text, digits, number}

module _ {A : Type 0} where
  -- what is read of some bytes, and of more bytes
  abbrev pub Grows : Read A → Read A → Type 0
  Grows short r = Unit {0}
  Grows wrong r = r ≡ wrong
  Grows (got v k) r = r ≡ got v k

  abbrev pub Within : ℕ → Read A → Type 0
  Within n short = Unit {0}
  Within n wrong = Unit {0}
  Within n (got v k) = k ≤ n

  -- a completion, where the bytes are too short
  abbrev pub Fills : Reader A → List ℕ → Read A → Type 0
  Fills p s short = (t : List ℕ) × (v : A) × (p (s ++ t) ≡ got v (length (s ++ t)))
  Fills p s wrong = Unit {0}
  Fills p s (got v k) = Unit {0}

  abbrev pub Right : Read A → Type 0
  Right short = Unit {0}
  Right wrong = ⊥
  Right (got v k) = Unit {0}

  pub record Fair (p : Reader A) : Type 0 where
    pub within : (s : List ℕ) → Within (length s) (p s)
    pub grows : (s t : List ℕ) → Grows (p s) (p (s ++ t))
    pub fills : (s : List ℕ) → Fills p s (p s)
    pub starts : Right (p [])

  grows_after : (n : ℕ) (r r' : Read A) → Grows r r' → Grows (after n r) (after n r')
  grows_after n short r' h = tt
  grows_after n wrong r' h = ap (after n) h
  grows_after n (got v k) r' h = ap (after n) h

  within_after : (n m : ℕ) (r : Read A) → Within m r → Within (n + m) (after n r)
  within_after n m short h = tt
  within_after n m wrong h = tt
  within_after n m (got v k) h = omega arith

  within_le : (n m : ℕ) (r : Read A) → n ≤ m → Within n r → Within m r
  within_le n m short l h = tt
  within_le n m wrong l h = tt
  within_le n m (got v k) l h = omega arith

  right_after : (n : ℕ) (r : Read A) → Right r → Right (after n r)
  right_after n short h = tt
  right_after n wrong h = h
  right_after n (got v k) h = tt

  -- an answer that reads nothing, and is not for want of bytes
  abbrev pub Ends : Read A → Type 0
  Ends short = ⊥
  Ends wrong = Unit {0}
  Ends (got v k) = k ≡ 0

  ends_within : (n : ℕ) (r : Read A) → Ends r → Within n r
  ends_within n short h = tt
  ends_within n wrong h = tt
  ends_within n (got v k) h = omega arith

  ends_grows : (r : Read A) → Ends r → Grows r r
  ends_grows short h = tt
  ends_grows wrong h = refl
  ends_grows (got v k) h = refl

  ends_fills : (p : Reader A) (s : List ℕ) (r : Read A) → Ends r → Fills p s r
  ends_fills p s short h = absurd h
  ends_fills p s wrong h = tt
  ends_fills p s (got v k) h = tt

  pub done_fair : (v : A) → Fair (done v)
  done_fair v = record { within = λ s. zero-le; grows = λ s t. refl; fills = λ s. tt; starts = tt }

module _ {A B : Type 0} (p : Reader A) (f : A → Reader B) (P : Fair p) (F : (v : A) → Fair (f v)) where
  within_bind : (s : List ℕ) (r : Read A) → Within (length s) r → Within (length s) (next r f s)
  within_bind s short w = tt
  within_bind s wrong w = tt
  within_bind s (got v k) w =
      within_le (k + length (drop k s)) (length s) (after k (f v (drop k s))) (rw length-drop (omega arith))
      (within_after k (length (drop k s)) (f v (drop k s)) ((F v).within (drop k s)))

  grows_bind : (s t : List ℕ) (r r' : Read A) → Grows r r' → Within (length s) r → Grows (next r f s) (next r' f (s ++ t))
  grows_bind s t short r' h w = tt
  grows_bind s t wrong r' h w = ap (λ r. next r f (s ++ t)) h
  grows_bind s t (got v k) r' h w =
      rw (h, drop-append-le k s t w) (grows_after k (f v (drop k s)) (f v (drop k s ++ t)) ((F v).grows (drop k s) t))

  -- the second reader completes what it is left
  fills_second : (s : List ℕ) (v : A) (k : ℕ) → p s ≡ got v k → k ≤ length s → (r : Read B) → Fills (f v) (drop k s) r → Fills (p >>= f) s (after k r)
  fills_second s v k e w short (t, u, h) =
      let g : p (s ++ t) ≡ got v k = subst (λ r. Grows r (p (s ++ t))) e (P.grows s t) in
      (t, u, rw (g, drop-append-le k s t w, h) (ap (got u) (simp (length-append, length-drop) (omega arith))))
  fills_second s v k e w wrong h = tt
  fills_second s v k e w (got u m) h = tt

  -- the first is completed, and then the second from nothing
  fills_first : (s t : List ℕ) (v : A) → p (s ++ t) ≡ got v (length (s ++ t)) → (r : Read B) → f v [] ≡ r → Right r → Within 0 r → Fills (f v) [] r
      → (t : List ℕ) × (u : B) × ((p >>= f) (s ++ t) ≡ got u (length (s ++ t)))
  fills_first s t v h short e n w (t₂, u, h₂) =
      let g : p ((s ++ t) ++ t₂) ≡ got v (length (s ++ t)) = subst (λ r. Grows r (p ((s ++ t) ++ t₂))) h (P.grows (s ++ t) t₂) in
      (t ++ t₂, u, rw (← append_assoc s t t₂, g, drop-append_seam (s ++ t) t₂, h₂) (ap (got u) (sym (length-append (s ++ t) t₂))))
  fills_first s t v h wrong e n w g = absurd n
  fills_first s t v h (got u k) e n w g = (t, u, rw (h, drop-length (s ++ t), e) (ap (got u) (omega arith)))

  fills_bind : (s : List ℕ) (r : Read A) → p s ≡ r → Fills p s r → Within (length s) r → Fills (p >>= f) s (next r f s)
  fills_bind s short e (t, v, h) w = fills_first s t v h (f v []) refl (F v).starts ((F v).within []) ((F v).fills [])
  fills_bind s wrong e g w = tt
  fills_bind s (got v k) e g w = fills_second s v k e w (f v (drop k s)) ((F v).fills (drop k s))

  pub bind_fair : Fair (p >>= f)
  bind_fair = record {
    within = λ s. within_bind s (p s) (P.within s);
    grows = λ s t. grows_bind s t (p s) (p (s ++ t)) (P.grows s t) (P.within s);
    fills = λ s. fills_bind s (p s) refl (P.fills s) (P.within s);
    starts = starts_bind (p []) P.starts (P.within []);
  }
    where
      starts_bind : (r : Read A) → Right r → Within 0 r → Right (next r f [])
      starts_bind short h w = tt
      starts_bind wrong h w = h
      starts_bind (got v k) h w = rw drop-nil (right_after k (f v []) (F v).starts)

module _
    {A : Type 0} (test : ℕ → Bool) (f : ℕ → Reader A) (other : Read A) (F : (x : ℕ) → Fair (f x)) (a : ℕ) (passes : test a ≡ true)
    (ends : Ends other)
  where
    one : (x : ℕ) (s : List ℕ) → test x ≡ true → byte test f other (x ∷ s) ≡ after 1 (f x s)
    one = byte_yes test f other

    none : (x : ℕ) (s : List ℕ) → test x ≡ false → byte test f other (x ∷ s) ≡ other
    none = byte_no test f other

    within_one : (x : ℕ) (s : List ℕ) (b : Bool) → test x ≡ b → Within (suc (length s)) (byte test f other (x ∷ s))
    within_one x s true e = rw (one x s e, ← one-add (length s)) (within_after 1 (length s) (f x s) ((F x).within s))
    within_one x s false e = rw (none x s e) (ends_within (suc (length s)) other ends)

    grows_one : (x : ℕ) (s t : List ℕ) (b : Bool) → test x ≡ b → Grows (byte test f other (x ∷ s)) (byte test f other (x ∷ s ++ t))
    grows_one x s t true e = rw (one x s e, one x (s ++ t) e) (grows_after 1 (f x s) (f x (s ++ t)) ((F x).grows s t))
    grows_one x s t false e = rw (none x s e, none x (s ++ t) e) (ends_grows other ends)

    fills_after : (x : ℕ) (s : List ℕ) → test x ≡ true → (r : Read A) → Fills (f x) s r → Fills (byte test f other) (x ∷ s) (after 1 r)
    fills_after x s e short (t, v, h) = (t, v, one x (s ++ t) e ∙ ap (after 1) h ∙ ap (got v) (one-add (length (s ++ t))))
    fills_after x s e wrong h = tt
    fills_after x s e (got v k) h = tt

    fills_one : (x : ℕ) (s : List ℕ) (b : Bool) → test x ≡ b → Fills (byte test f other) (x ∷ s) (byte test f other (x ∷ s))
    fills_one x s true e = rw (one x s e) (fills_after x s e (f x s) ((F x).fills s))
    fills_one x s false e = rw (none x s e) (ends_fills (byte test f other) (x ∷ s) other ends)

    -- from nothing: the byte a, and what completes f a
    fills_none : (r : Read A) → f a [] ≡ r → Right r → Within 0 r → Fills (f a) [] r → Fills (byte test f other) [] short
    fills_none short e n w (t, v, h) = (a ∷ t, v, one a t passes ∙ ap (after 1) h ∙ ap (got v) (one-add (length t)))
    fills_none wrong e n w h = absurd n
    fills_none (got v k) e n w h = (a ∷ [], v, one a [] passes ∙ ap (after 1) e ∙ ap (got v) (omega arith))

    pub byte_fair : Fair (byte test f other)
    byte_fair = record {
      within = elim [ [] ↦ tt | x ∷ s ↦ within_one x s (test x) refl ];
      grows = elim [ [] ↦ λ t. tt | x ∷ s ↦ λ t. grows_one x s t (test x) refl ];
      fills = elim [ [] ↦ fills_none (f a []) refl (F a).starts ((F a).within []) ((F a).fills []) | x ∷ s ↦ fills_one x s (test x) refl ];
      starts = tt;
    }

pub text_fair : (t : List ℕ) → Fair (text t)
text_fair [] = done_fair tt
text_fair (b ∷ bs) = byte_fair (eqb b) (λ _. text bs) wrong (λ _. text_fair bs) b (eq-eqb b b refl) tt

pub digits_fair : (max v : ℕ) → Fair (digits max v)
digits_fair zero v = done_fair v
digits_fair (suc max) v = byte_fair is_digit (λ x. digits max (v * 10 + (x - 48))) (got v 0) (λ x. digits_fair max (v * 10 + (x - 48))) 48 refl refl

pub number_fair : (max : ℕ) → Fair (number max)
number_fair max = byte_fair is_digit (λ x. digits (max - 1) (x - 48)) wrong (λ x. digits_fair (max - 1) (x - 48)) 48 refl tt
