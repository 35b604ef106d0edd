-- The reader of openings meets the grammar: it reads an opening just where one stands at the front, asks for more just at a proper
-- beginning of one, and refuses just where there never can be one.
-- Assumes nothing.
use mathlib.Core.Path.{◌≡◌, refl, sym, ap, subst, ◌∙◌}
use mathlib.Core.Bool.{Bool, true, false}
use mathlib.Core.Logic.{◌↔◌}
use mathlib.Core.List.{List, [], ◌∷◌, ◌++◌, append-nil}
use Prim.Native.Nat.{ℕ, ◌≤◌, ◌<◌, zero-le, suc-le-suc}
use native.Mathlib.Omega.{arith}
use lib.Dec.{ltb}
use lib.ListN.{length, take, drop, length-append, take-append-drop}
use lib.Seq.{take-length, take_all, length-take-le}
use borrow.Author.Tests.{ltb-true, ltb-false}
use Rattle.octets.specs.Octets.{bytes}
use Rattle.readers.specs.Readers.{Read, short, wrong, got}
use Rattle.readers.proofs.Fair.{Fair, Grows, Within, Fills, done_fair, bind_fair, text_fair, number_fair}
use Rattle.framing.specs.Framing.{opening}
use Rattle.framing.specs.Grammar.{IsOpening, Begins, Never, States}
use Rattle.framing.specs.declared.Opening.{Opening}
use Rattle.framing.proofs.Written.{read_written, written_read, written_states, states_written, is_opening, alone, of_opening_lem}

opening_fair : Fair opening
unfolding opening
opening_fair =
    bind_fair _ _ (text_fair (bytes "MRCP/")) λ _.
    bind_fair _ _ (number_fair 2) λ a.
    bind_fair _ _ (text_fair (bytes ".")) λ _.
    bind_fair _ _ (number_fair 2) λ b.
    bind_fair _ _ (text_fair (bytes " ")) λ _.
    bind_fair _ _ (number_fair 19) λ n.
    bind_fair _ _ (text_fair (bytes " ")) λ _.
    done_fair (record { major = a; minor = b; stated = n })

apart : {A : Type 0} (r : Read A) (v : A) (k : ℕ) → r ≡ got v k → (r ≡ wrong → ⊥) × (r ≡ short → ⊥)
apart r v k p = ((λ q. let z : ◌≡◌ {A = ℕ} 0 1 = cc in omega arith), λ q. let z : ◌≡◌ {A = ℕ} 0 1 = cc in omega arith)

same_count : {A : Type 0} (r : Read A) (v w : A) (k n : ℕ) → r ≡ got v k → r ≡ got w n → k ≡ n
same_count r v w k n p q = cc

some_length : (t : List ℕ) → (t ≡ [] → ⊥) → 1 ≤ length t
some_length [] ne = absurd (ne refl)
some_length (x ∷ t) ne = suc-le-suc zero-le

-- an opening that is whole is read whole
whole : (u : List ℕ) → IsOpening u → (o : Opening) × (opening u ≡ got o (length u))
whole u L = let (o, w) = of_opening_lem u L in (o, written_read u o (length u) w)

-- what more bytes leave
pub more : (s t : List ℕ) (r : Read Opening) → opening s ≡ r → Grows r (opening (s ++ t))
more s t r e = subst (λ r. Grows r (opening (s ++ t))) e (opening_fair.grows s t)

module _ (s : List ℕ) where
  pub got_states : (o : Opening) (k : ℕ) → opening s ≡ got o k → States s k o.stated
  got_states o k e = written_states s o k (read_written s o k e)

  -- eight bytes that are always the same, and three numbers
  pub got_size : (o : Opening) (k : ℕ) → opening s ≡ got o k → (11 ≤ k) × (k ≤ 31)
  got_size o k e = let w = read_written s o k e in omega (arith, w.size, w.is_major, w.is_minor, w.is_stated)

  pub states_got : (k n : ℕ) → States s k n → (o : Opening) × (opening s ≡ got o k) × (o.stated ≡ n)
  states_got k n h = let (o, w, e) = states_written s k n h in (o, written_read s o k w, e)

  pub got_alone : (o : Opening) (k : ℕ) → opening s ≡ got o k → opening (take k s) ≡ got o k
  got_alone o k e = written_read (take k s) o k (alone s o k (read_written s o k e))

  short_begins : opening s ≡ short → Begins s
  short_begins e = go (subst (Fills opening s) e (opening_fair.fills s))
    where
      go : Fills opening s short → Begins s
      go (t, o, h) = (
        t,
        (λ z. (apart (opening s) o (length (s ++ t)) (ap opening (sym (append-nil s) ∙ ap (λ l. s ++ l) (sym z)) ∙ h)).1 e),
        rw take-length at (is_opening (s ++ t) o (length (s ++ t)) (read_written (s ++ t) o (length (s ++ t)) h)),
      )

  begins_short : Begins s → (r : Read Opening) → opening s ≡ r → opening s ≡ short
  begins_short b short e = e
  begins_short (t, ne, L) wrong e =
      let w = whole (s ++ t) L in absurd ((apart (opening (s ++ t)) w.0 (length (s ++ t)) w.1).0 (more s t wrong e))
  begins_short (t, ne, L) (got o k) e =
      let w = whole (s ++ t) L in
      let n : k ≤ length s = subst (Within (length s)) e (opening_fair.within s) in
      let m : k ≡ length (s ++ t) = same_count (opening (s ++ t)) o w.0 k (length (s ++ t)) (more s t (got o k) e) w.1 in
      absurd (omega (arith, length-append s t, some_length t ne))

  pub begins : (opening s ≡ short) ↔ Begins s
  begins = (short_begins, λ b. begins_short b (opening s) refl)

  never_wrong : Never s → (r : Read Opening) → opening s ≡ r → opening s ≡ wrong
  never_wrong n short e = let b = short_begins e in absurd (n b.0 (s ++ b.0, [], b.2, sym (append-nil (s ++ b.0))))
  never_wrong n wrong e = e
  never_wrong n (got o k) e = absurd (n [] (rw append-nil (take k s, drop k s, is_opening s o k (read_written s o k e), sym (take-append-drop k s))))

  wrong_never : opening s ≡ wrong → Never s
  wrong_never e t (u, v, L, f) =
      let (o, h) = whole u L in
      (apart (opening (s ++ t)) o (length u) (ap opening f ∙ more u v (got o (length u)) h)).0 (more s t wrong e)

  pub never : (opening s ≡ wrong) ↔ Never s
  never = (wrong_never, λ n. never_wrong n (opening s) refl)

-- a proper beginning of an opening is shorter than the longest one
short_length : (s : List ℕ) → opening s ≡ short → length s < 31
short_length s e =
    let (t, ne, L) = (begins s).0 e in
    let (o, h) = whole (s ++ t) L in
    omega (arith, got_size (s ++ t) o (length (s ++ t)) h, length-append s t, some_length t ne)

-- no opening is longer than 31 bytes, so those behind them change nothing
pub first_bytes : (s : List ℕ) → opening (take 31 s) ≡ opening s
first_bytes s = go (ltb (length s) 31) refl
  where
    all_there : 31 ≤ length s → (r : Read Opening) → opening (take 31 s) ≡ r → opening (take 31 s) ≡ opening s
    all_there h short e = absurd (omega (arith, short_length (take 31 s) e, length-take-le 31 s h))
    all_there h wrong e = e ∙ sym (ap opening (sym (take-append-drop 31 s)) ∙ more (take 31 s) (drop 31 s) wrong e)
    all_there h (got o k) e =
        e ∙ sym (ap opening (sym (take-append-drop 31 s)) ∙ more (take 31 s) (drop 31 s) (got o k) e)

    go : (b : Bool) → ltb (length s) 31 ≡ b → opening (take 31 s) ≡ opening s
    go true e = ap opening (take_all 31 s (omega (arith, ltb-true (length s) 31 e)))
    go false e = all_there (ltb-false (length s) 31 e) (opening (take 31 s)) refl
