-- The ways in which framing can go, and what holds of each, for those who call it.
-- Assumes nothing.
use mathlib.Core.Path.{◌≡◌, refl, ap, ◌∙◌}
use mathlib.Core.Bool.{Bool, true, false}
use mathlib.Core.List.{List, ◌++◌}
use Prim.Native.Nat.{ℕ, ◌+◌, ◌-◌, ◌≤◌, ◌<◌, zero-le}
use native.Mathlib.Omega.{arith}
use lib.Dec.{ltb}
use lib.ListN.{length, take, drop, length-append}
use lib.Seq.{take-add}
use borrow.Author.Tests.{ltb-true, ltb-false, lt-ltb, le-ltb}
use Rattle.readers.specs.Readers.{Read, short, wrong, got}
use Rattle.readers.proofs.Fair.{Grows}
use Rattle.std.specs.Prelude.{Ok, Err}
use Rattle.framing.specs.Framing.{Framing, Frame, opening, measured, framed, framing, refusal, frame_length}
use Rattle.framing.specs.declared.Opening.{Opening}
use Rattle.framing.specs.declared.Framed.{Framed}
use Rattle.framing.specs.declared.NoFrame.TheVariants.{More, TooLong, TooShort}
use Rattle.framing.proofs.Openings.{more, got_alone, got_size}

module _ (o : Opening) (k lent : ℕ) where
  pub measured_ways : (P : Framing → Type 0) → (16384 < o.stated → P (Err TooLong))
      → (o.stated ≤ 16384 → o.stated < k → P (Err TooShort))
      → (o.stated ≤ 16384 → k ≤ o.stated → lent < o.stated → P (Err More))
      → (o.stated ≤ 16384 → k ≤ o.stated → o.stated ≤ lent → P (Frame o.major o.minor k o.stated))
      → P (measured o k lent)
  measured_ways P long little waits whole = go (ltb 16384 o.stated) (ltb o.stated k) (ltb lent o.stated) refl refl refl
    where
      go : (x y z : Bool) → ltb 16384 o.stated ≡ x → ltb o.stated k ≡ y → ltb lent o.stated ≡ z → P (measured o k lent)
      go true y z p q r = rw (p, measured) (long (ltb-true 16384 o.stated p))
      go false true z p q r = rw (p, q, measured) (little (ltb-false 16384 o.stated p) (ltb-true o.stated k q))
      go false false true p q r =
          rw (p, q, r, measured) (waits (ltb-false 16384 o.stated p) (ltb-false o.stated k q) (ltb-true lent o.stated r))
      go false false false p q r =
          rw (p, q, r, measured) (whole (ltb-false 16384 o.stated p) (ltb-false o.stated k q) (ltb-false lent o.stated r))

  pub measured_long : 16384 < o.stated → measured o k lent ≡ Err TooLong
  measured_long h = rw (lt-ltb 16384 o.stated h, measured)

  pub measured_little : o.stated ≤ 16384 → o.stated < k → measured o k lent ≡ Err TooShort
  measured_little h l = rw (le-ltb 16384 o.stated h, lt-ltb o.stated k l, measured)

  pub measured_waits : o.stated ≤ 16384 → k ≤ o.stated → lent < o.stated → measured o k lent ≡ Err More
  measured_waits h l m = rw (le-ltb 16384 o.stated h, le-ltb o.stated k l, lt-ltb lent o.stated m, measured)

  pub measured_whole : o.stated ≤ 16384 → k ≤ o.stated → o.stated ≤ lent → measured o k lent ≡ Frame o.major o.minor k o.stated
  measured_whole h l m = rw (le-ltb 16384 o.stated h, le-ltb o.stated k l, le-ltb lent o.stated m, measured)

-- a frame of n bytes with an opening of k, out of `lent`
pub record Fits (k n lent : ℕ) : Type 0 where
  pub opens : k ≤ n
  pub most : n ≤ 16384
  pub there : n ≤ lent
  pub least : 11 ≤ k
  pub longest : k ≤ 31

-- two frames that are the same, by their parts
pub frame_parts : {a b k n a' b' k' n' : ℕ} → Frame a b k n ≡ Frame a' b' k' n'
    → (a ≡ a') × (b ≡ b') × (k ≡ k') × (n ≡ n')
frame_parts {a} {b} {k} {n} {a'} {b'} {k'} {n'} e =
    let f : Framed = record { major = a; minor = b; opening = k; length = n } in
    let f' : Framed = record { major = a'; minor = b'; opening = k'; length = n' } in
    let h : f ≡ f' = cc in
    let part : (p : Framed → ℕ) → p f ≡ p f' = λ p. ap p h in
    (part (λ f. f.major), part (λ f. f.minor), part (λ f. f.opening), part (λ f. f.length))

-- what a frame's opening says, and that the frame fits
pub record Opened (s : List ℕ) (a b k n : ℕ) : Type 0 where
  pub opened : opening s ≡ got (record { major = a; minor = b; stated = n }) k
  pub fits : Fits k n (length s)

module _ (s : List ℕ) (a b k n : ℕ) where
  framed_frame : (r : Read Opening) → opening s ≡ r → framed r (length s) ≡ Frame a b k n → Opened s a b k n
  framed_frame short e f = let d : ◌≡◌ {A = ℕ} 0 1 = cc in absurd (omega arith)
  framed_frame wrong e f = let d : ◌≡◌ {A = ℕ} 0 1 = cc in absurd (omega arith)
  framed_frame (got o j) e f = measured_ways o j (length s) (λ x. x ≡ Frame a b k n → Opened s a b k n)
      (λ _ h. let d : ◌≡◌ {A = ℕ} 0 1 = cc in absurd (omega arith))
      (λ _ _ h. let d : ◌≡◌ {A = ℕ} 0 1 = cc in absurd (omega arith))
      (λ _ _ _ h. let d : ◌≡◌ {A = ℕ} 0 1 = cc in absurd (omega arith))
      (λ p q r h. whole p q r (frame_parts h)) f
    where
      whole : o.stated ≤ 16384 → j ≤ o.stated → o.stated ≤ length s
          → (o.major ≡ a) × (o.minor ≡ b) × (j ≡ k) × (o.stated ≡ n) → Opened s a b k n
      whole p q r (ea, eb, ek, en) = record {
        opened = rw (← ea, ← eb, ← ek, ← en) e;
        fits = omega (arith, got_size s o j e);
      }

  pub frame_opened : framing s ≡ Frame a b k n → Opened s a b k n
  unfolding framing
  frame_opened e = framed_frame (opening s) refl e

  pub frame_fits : framing s ≡ Frame a b k n → Fits k n (length s)
  frame_fits e = (frame_opened e).fits

  pub opened_frame : Opened s a b k n → framing s ≡ Frame a b k n
  unfolding framing
  opened_frame h =
      ap (λ r. framed r (length s)) h.opened
      ∙ measured_whole (record { major = a; minor = b; stated = n }) k (length s) h.fits.most h.fits.opens h.fits.there

-- the frame is there
pub length_there : (s : List ℕ) → frame_length (framing s) ≤ length s
length_there s = go (framing s) refl
  where
    go : (x : Framing) → framing s ≡ x → frame_length x ≤ length s
    go (Err why) e = zero-le
    go (Ok f) e = (frame_fits s f.major f.minor f.opening f.length e).there

-- an opening stands in all bytes that its own are the front of
pub still_opened : (s : List ℕ) (o : Opening) (k n : ℕ) → k ≤ n → opening s ≡ got o k → opening (take n s) ≡ got o k
still_opened s o k n h e =
    let cut : take n s ≡ take k s ++ take (n - k) (drop k s) = ap (λ m. take m s) {x = n} {y = k + (n - k)} (omega arith) ∙ take-add k (n - k) s in
    ap opening cut ∙ more (take k s) (take (n - k) (drop k s)) (got o k) (got_alone s o k e)

-- more bytes behind what needs none
module _ (s t : List ℕ) where
  measured_more : (o : Opening) (k : ℕ) → (refusal (measured o k (length s)) ≡ 1 → ⊥) → measured o k (length (s ++ t)) ≡ measured o k (length s)
  measured_more o k = measured_ways o k (length s) (λ x. (refusal x ≡ 1 → ⊥) → measured o k (length (s ++ t)) ≡ x)
      (λ p _. measured_long o k (length (s ++ t)) p) (λ p q _. measured_little o k (length (s ++ t)) p q) (λ _ _ _ h. absurd (h refl))
      (λ p q r _. measured_whole o k (length (s ++ t)) p q (rw length-append (omega arith)))

  framed_grows : (r : Read Opening) → Grows r (opening (s ++ t)) → (refusal (framed r (length s)) ≡ 1 → ⊥)
      → framed (opening (s ++ t)) (length (s ++ t)) ≡ framed r (length s)
  framed_grows short g h = absurd (h refl)
  framed_grows wrong g h = ap (λ r. framed r (length (s ++ t))) g
  framed_grows (got o k) g h = ap (λ r. framed r (length (s ++ t))) g ∙ measured_more o k h

  pub unchanged : (refusal (framing s) ≡ 1 → ⊥) → framing (s ++ t) ≡ framing s
  unfolding framing
  unchanged h = framed_grows (opening s) (more s t (opening s) refl) h
