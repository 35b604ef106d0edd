-- What `text` and `number` read, and that they read it: the bytes, how many they are, and the number that they write.
-- Assumes nothing.
use mathlib.Core.Path.{◌≡◌, refl, sym, ap, ◌∙◌}
use mathlib.Core.Bool.{Bool, true, false}
use mathlib.Core.List.{List, [], ◌∷◌, ◌++◌}
use Prim.Native.Nat.{ℕ, zero, suc, ◌+◌, ◌-◌, ◌*◌, ◌≤◌, zero-le, suc-le-suc}
use native.Mathlib.Nat.{zero-add, le_of_suc-le-suc, not-suc-le-zero}
use native.Mathlib.Numerals.{one-add, sub-one}
use native.Mathlib.Omega.{arith}
use lib.Dec.{eqb}
use lib.ListN.{length, drop}
use lib.Seq.{drop-append_seam}
use borrow.Author.Tests.{eq-eqb, eqb-true}
use Rattle.lists.specs.Lists.{all}
use Rattle.octets.specs.Octets.{is_digit}
use Rattle.readers.specs.Readers.{Read, short, wrong, got, after, next, Reader, done, byte, text, digits, number, ◌>>◌, ◌>>=◌}
use Rattle.readers.specs.Words.{decimal, number_of}
use Rattle.lists.proofs.Tests.{both}
use Rattle.readers.proofs.Steps.{byte_yes, byte_no}

-- a reader that goes on after another one: what each of them read
module _ {A B : Type 0} (f : A → Reader B) (s : List ℕ) (w : B) (k : ℕ) where
  pub record Joined (r : Read A) : Type 0 where
    pub first : A
    pub many : ℕ
    pub more : ℕ
    pub is_first : r ≡ got first many
    pub is_second : f first (drop many s) ≡ got w more
    pub size : k ≡ many + more

  after_got : (n : ℕ) (r : Read B) → after n r ≡ got w k → (m : ℕ) × (r ≡ got w m) × (k ≡ n + m)
  after_got n short e = let d : ◌≡◌ {A = ℕ} 0 1 = cc in absurd (omega arith)
  after_got n wrong e = let d : ◌≡◌ {A = ℕ} 0 1 = cc in absurd (omega arith)
  after_got n (got v m) e = (m, ap (λ u. got u m) cc, cc)

  pub joined : (r : Read A) → next r f s ≡ got w k → Joined r
  joined short e = let d : ◌≡◌ {A = ℕ} 0 1 = cc in absurd (omega arith)
  joined wrong e = let d : ◌≡◌ {A = ℕ} 0 1 = cc in absurd (omega arith)
  joined (got v n) e =
      let h = after_got n (f v (drop n s)) e in
      record { first = v; many = n; more = h.0; is_first = refl; is_second = h.1; size = h.2 }

module _ {A : Type 0} (test : ℕ → Bool) (f : ℕ → Reader A) (other : Read A) (x : ℕ) (s : List ℕ) (w : A) (k : ℕ) where
  -- the ways in which `byte` comes to an answer at a byte
  pub byte_got : {P : Type 0} → byte test f other (x ∷ s) ≡ got w k
      → (test x ≡ true → (m : ℕ) → f x s ≡ got w m → k ≡ suc m → P) → (test x ≡ false → other ≡ got w k → P) → P
  byte_got {P = P} e yes' no' = go (test x) refl
    where
      go : (b : Bool) → test x ≡ b → P
      go true t =
          let h = after_got (λ (_ : ℕ). f x) s w k 1 (f x s) (sym (byte_yes test f other x s t) ∙ e) in
          yes' t h.0 h.1 (h.2 ∙ one-add h.0)
      go false t = no' t (sym (byte_no test f other x s t) ∙ e)

-- exactly these bytes
pub text_got : (t s : List ℕ) (u : Unit {0}) (k : ℕ) → text t s ≡ got u k → (k ≡ length t) × (s ≡ t ++ drop k s)
text_got [] s u k e = let h : k ≡ 0 = cc in (h, rw h)
text_got (b ∷ t) [] u k e = let d : ◌≡◌ {A = ℕ} 0 1 = cc in absurd (omega arith)
text_got (b ∷ t) (x ∷ s) u k e =
    byte_got (eqb b) (λ _. text t) wrong x s u k e
    (λ h m g l. let ih = text_got t s u m g in (l ∙ ap suc ih.0, rw (l, ← eqb-true b x h) (ap (λ r. b ∷ r) ih.1)))
    (λ _ h. let d : ◌≡◌ {A = ℕ} 0 1 = cc in absurd (omega arith))

-- digits, at most max of them, that stand at the front of s and with v before them write w
pub record Spelled (max v : ℕ) (s : List ℕ) (w k : ℕ) : Type 0 where
  pub word : List ℕ
  pub most : length word ≤ max
  pub digits : all is_digit word ≡ true
  pub front : s ≡ word ++ drop k s
  pub size : k ≡ length word
  pub value : w ≡ decimal v word

one_more : (max v x : ℕ) (s : List ℕ) (w k m : ℕ) → is_digit x ≡ true → k ≡ suc m
    → Spelled max (v * 10 + (x - 48)) s w m → Spelled (suc max) v (x ∷ s) w k
one_more max v x s w k m d l h = record {
  word = x ∷ h.word;
  most = suc-le-suc h.most;
  digits = rw (d, h.digits);
  front = rw l (ap (λ r. x ∷ r) h.front);
  size = l ∙ ap suc h.size;
  value = h.value;
}

pub done_got : {A : Type 0} (v w : A) (k : ℕ) → got v 0 ≡ got w k → (w ≡ v) × (k ≡ 0)
done_got v w k e = (cc, cc)

none : (max v : ℕ) (s : List ℕ) (w k : ℕ) → got v 0 ≡ got w k → Spelled max v s w k
none max v s w k e =
    let (value, l) = done_got v w k e in
    record { word = []; most = zero-le; digits = refl; front = rw l; size = l; value = value }

pub digits_got : (max v : ℕ) (s : List ℕ) (w k : ℕ) → digits max v s ≡ got w k → Spelled max v s w k
digits_got zero v s w k e = none zero v s w k e
digits_got (suc max) v [] w k e = let d : ◌≡◌ {A = ℕ} 0 1 = cc in absurd (omega arith)
digits_got (suc max) v (x ∷ s) w k e =
    byte_got is_digit (λ y. digits max (v * 10 + (y - 48))) (got v 0) x s w k e
    (λ d m g l. one_more max v x s w k m d l (digits_got max (v * 10 + (x - 48)) s w m g))
    (λ _ h. none (suc max) v (x ∷ s) w k h)

pub number_got : (max : ℕ) (s : List ℕ) (w k : ℕ) → number (suc max) s ≡ got w k → Spelled (suc max) 0 s w k × (1 ≤ k)
number_got max [] w k e = let d : ◌≡◌ {A = ℕ} 0 1 = cc in absurd (omega arith)
number_got max (x ∷ s) w k e =
    byte_got is_digit (λ y. digits (suc max - 1) (y - 48)) wrong x s w k e
    (λ d m g l. let h : digits max (0 * 10 + (x - 48)) s ≡ got w m = rw zero-add (rw sub-one at g) in (
      one_more max 0 x s w k m d l (digits_got max (0 * 10 + (x - 48)) s w m h),
      omega arith,
    ))
    (λ _ h. let d : ◌≡◌ {A = ℕ} 0 1 = cc in absurd (omega arith))

pub text_reads : (t v : List ℕ) → text t (t ++ v) ≡ got tt (length t)
text_reads [] v = refl
text_reads (b ∷ t) v =
    byte_yes (eqb b) (λ _. text t) wrong b (t ++ v) (eq-eqb b b refl) ∙ ap (after 1) (text_reads t v) ∙ ap (got tt) (one-add (length t))

-- digits up to a byte that is none
module _ (x : ℕ) (other : is_digit x ≡ false) (s : List ℕ) where
  pub digits_reads : (max v : ℕ) (d : List ℕ) → length d ≤ max → all is_digit d ≡ true → digits max v (d ++ x ∷ s) ≡ got (decimal v d) (length d)
  digits_reads zero v [] l e = refl
  digits_reads (suc max) v [] l e = byte_no is_digit (λ y. digits max (v * 10 + (y - 48))) (got v 0) x s other
  digits_reads zero v (y ∷ d) l e = absurd (not-suc-le-zero l)
  digits_reads (suc max) v (y ∷ d) l e =
      let h = both (is_digit y) (all is_digit d) e in
      let r = digits_reads max (v * 10 + (y - 48)) d (le_of_suc-le-suc l) h.1 in
      byte_yes is_digit (λ z. digits max (v * 10 + (z - 48))) (got v 0) y (d ++ x ∷ s) h.0 ∙ ap (after 1) r
      ∙ ap (got (decimal v (y ∷ d))) (one-add (length d))

  pub number_reads : (max : ℕ) (d : List ℕ) → 1 ≤ length d → length d ≤ suc max → all is_digit d ≡ true
      → number (suc max) (d ++ x ∷ s) ≡ got (decimal 0 d) (length d)
  number_reads max [] n l e = absurd (not-suc-le-zero n)
  number_reads max (y ∷ d) n l e = let h = both (is_digit y) (all is_digit d) e in
      byte_yes is_digit (λ z. digits (suc max - 1) (z - 48)) wrong y (d ++ x ∷ s) h.0
      ∙ rw (sub-one, digits_reads max (y - 48) d (le_of_suc-le-suc l) h.1, zero-add) (ap (got (decimal (y - 48) d)) (one-add (length d)))

-- a text or a number, and another reader on the bytes after it
module _ {B P : Type 0} (s : List ℕ) (w : B) (k : ℕ) where
  pub text_then : (t : List ℕ) (q : Reader B) → (text t >> q) s ≡ got w k
      → ((rest : List ℕ) (m : ℕ) → q rest ≡ got w m → s ≡ t ++ rest → k ≡ length t + m → P) → P
  text_then t q e use' =
      let j = joined (λ _. q) s w k (text t s) e in
      let h = text_got t s j.first j.many j.is_first in
      use' (drop j.many s) j.more j.is_second h.1 (rw (← h.0) j.size)

  pub number_then : (max : ℕ) (q : ℕ → Reader B) → (number (suc max) >>= q) s ≡ got w k
      → ((d rest : List ℕ) (m : ℕ) → 1 ≤ length d → length d ≤ suc max → all is_digit d ≡ true
      → q (number_of d) rest ≡ got w m → s ≡ d ++ rest → k ≡ length d + m → P)
      → P
  number_then max q e use' =
      let j = joined q s w k (number (suc max) s) e in
      let (h, some) = number_got max s j.first j.many j.is_first in
      use' h.word (drop j.many s) j.more (rw (← h.size) some) h.most h.digits
      (rw (← h.value) j.is_second) h.front (rw (← h.size) j.size)

-- the same the other way: the text or the number stands there
pub record Goes {B : Type 0} (q : Reader B) (v : List ℕ) (w : B) (m : ℕ) : Type 0 where
  pub goes : q v ≡ got w m

pub done_goes : {B : Type 0} (w : B) (v : List ℕ) → Goes (done w) v w 0
done_goes w v = record { goes = refl }

module _ {B : Type 0} {w : B} {m : ℕ} where
  pub text_goes : (t : List ℕ) {v : List ℕ} {q : Reader B} → Goes q v w m → Goes (text t >> q) (t ++ v) w (length t + m)
  text_goes t {v = v} h = record { goes = rw (text_reads t v, drop-append_seam t v, h.goes) }

  pub number_goes : (max x : ℕ) (d : List ℕ) {v : List ℕ} {q : ℕ → Reader B} → 1 ≤ length d → length d ≤ suc max → all is_digit d ≡ true
      → is_digit x ≡ false
      → Goes (q (number_of d)) (x ∷ v) w m → Goes (number (suc max) >>= q) (d ++ x ∷ v) w (length d + m)
  number_goes max x d {v = v} n l e other h =
      record { goes = rw (number_reads x other v max d n l e, drop-append_seam d (x ∷ v), h.goes) }
