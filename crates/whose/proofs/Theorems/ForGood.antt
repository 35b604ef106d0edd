-- An answer other than 1 is the answer for good: more bytes never change it.
-- Assumes nothing.
use Prim.Native.Nat.{ℕ, ◌+◌, ◌-◌, ◌≤◌, min}
use mathlib.Core.Path.{◌≡◌, refl, sym, ap, ◌∙◌}
use mathlib.Core.Bool.{Bool, true, false, ◌&&◌, false≢true}
use mathlib.Core.Option.{Option, none, some}
use mathlib.Core.List.{List, [], ◌++◌, append-nil}
use native.Mathlib.Omega.{arith}
use lib.Dec.{ltb}
use lib.ListN.{length, take, drop, length-append, length-take}
use lib.Seq.{take_all, take-append-le, take-append-add, drop-append-le}
use borrow.Author.Tests.{ltb-true, ltb-false}
use Rattle.readers.specs.Readers.{Read, short, wrong, got}
use Rattle.readers.specs.Words.{line}
use Rattle.framing.specs.Framing.{opening}
use Rattle.framing.specs.declared.Opening.{Opening}
use Rattle.framing.proofs.Openings.{got_size, more}
use Rattle.framing.proofs.Written.{read_written}
use Rattle.std.specs.Prelude.{Err}
use Rattle.whose.specs.Whose.{Whose, of_line, window, of_opening, whose}
use Rattle.whose.specs.declared.NoId.TheVariants.{More}
use Rattle.whose.proofs.Lines.{line_more}
use Rattle.whose.proofs.Ways.{no_more, want_more, too_short, by_line_lem}

-- an opening's bytes are there
got_within : (s : List ℕ) (o : Opening) (k : ℕ) → opening s ≡ got o k → k ≤ length s
got_within s o k e =
    let w = read_written s o k e in
    omega (arith, w.size, simp length-append at (ap length w.front))

-- the same bytes, and more behind them
front_more : (m : ℕ) (s t : List ℕ) → (v : List ℕ) × (take m (s ++ t) ≡ take m s ++ v)
front_more m s t = go (ltb (length s) m) refl
  where
    go : (b : Bool) → ltb (length s) m ≡ b → (v : List ℕ) × (take m (s ++ t) ≡ take m s ++ v)
    go true b =
        let h = ltb-true (length s) m b in (
          take (m - length s) t,
          ap (λ n. take n (s ++ t)) {x = m} {y = length s + (m - length s)} (omega arith)
              ∙ take-append-add s t (m - length s)
              ∙ ap (λ u. u ++ take (m - length s) t) (sym (take_all m s (omega arith))),
        )
    go false b = ([], take-append-le m s t (ltb-false (length s) m b) ∙ sym (append-nil (take m s)))

-- the bytes looked at are there
enough : (lent stated : ℕ) → ltb lent 128 && ltb lent stated ≡ false → min 128 stated ≤ lent
enough lent stated e = go (ltb lent 128) (ltb lent stated) refl refl e
  where
    go : (x y : Bool) → ltb lent 128 ≡ x → ltb lent stated ≡ y → x && y ≡ false → min 128 stated ≤ lent
    go true true p q e = absurd (false≢true (sym e))
    go true false p q e = omega (arith, ltb-false lent stated q)
    go false y p q e = omega (arith, ltb-false lent 128 p)

still : (lent stated : ℕ) → min 128 stated ≤ lent → ltb lent 128 && ltb lent stated ≡ false
still lent stated h = go (ltb lent 128) (ltb lent stated) refl refl
  where
    go : (x y : Bool) → ltb lent 128 ≡ x → ltb lent stated ≡ y → x && y ≡ false
    go true true p q = absurd (omega (arith, ltb-true lent 128 p, ltb-true lent stated q))
    go true false p q = refl
    go false y p q = refl

module _ (s t : List ℕ) where
  module _ (o : Opening) (k : ℕ) (e : opening s ≡ got o k) (big : k ≤ o.stated) where
    abbrev answer : List ℕ → Option (List ℕ) → Whose
    answer u r = of_line k o.stated (length u) r

    abbrev seen : List ℕ → Option (List ℕ)
    seen u = line (drop k (window o.stated u))

    none_stays : seen s ≡ none → (b : Bool) → ltb (length s) 128 && ltb (length s) o.stated ≡ b
        → (answer s none ≡ Err More → ⊥) → answer (s ++ t) (seen (s ++ t)) ≡ answer s none
    none_stays q true b h = absurd (h (want_more k o.stated (length s) b))
    none_stays q false b h =
        let m = enough (length s) o.stated b in
        let l : min 128 o.stated ≤ length (s ++ t) = omega (arith, length-append s t) in
        ap (λ u. answer (s ++ t) (line (drop k u))) (take-append-le (min 128 o.stated) s t m)
        ∙ ap (answer (s ++ t)) q
        ∙ no_more k o.stated (length (s ++ t)) (still (length (s ++ t)) o.stated l)
        ∙ sym (no_more k o.stated (length s) b)

    line_stays : (r : Option (List ℕ)) → seen s ≡ r → (answer s r ≡ Err More → ⊥)
        → answer (s ++ t) (seen (s ++ t)) ≡ answer s r
    line_stays none q h = none_stays q (ltb (length s) 128 && ltb (length s) o.stated) refl h
    line_stays (some l) q h =
        let m = min 128 o.stated in
        let (v, p) = front_more m s t in
        let w : k ≤ length (take m s) = rw (length-take m s) (omega (arith, got_size s o k e, got_within s o k e)) in
        ap (answer (s ++ t))
        (ap (λ u. line (drop k u)) p ∙ ap line (drop-append-le k (take m s) v w) ∙ line_more (drop k (take m s)) v l q)

    opened_stays : (of_opening s (got o k) ≡ Err More → ⊥) → ltb o.stated k ≡ false
        → of_opening (s ++ t) (got o k) ≡ of_opening s (got o k)
    opened_stays h b =
        by_line_lem (s ++ t) o k b ∙ line_stays (seen s) refl (λ z. h (by_line_lem s o k b ∙ z)) ∙ sym (by_line_lem s o k b)

  stays_by : (r : Read Opening) → opening s ≡ r → (of_opening s r ≡ Err More → ⊥)
      → of_opening (s ++ t) (opening (s ++ t)) ≡ of_opening s r
  stays_by short e h = absurd (h refl)
  stays_by wrong e h = ap (of_opening (s ++ t)) (more s t wrong e)
  stays_by (got o k) e h = ap (of_opening (s ++ t)) (more s t (got o k) e) ∙ go (ltb o.stated k) refl
    where
      go : (b : Bool) → ltb o.stated k ≡ b → of_opening (s ++ t) (got o k) ≡ of_opening s (got o k)
      go true b = too_short (s ++ t) o k b ∙ sym (too_short s o k b)
      go false b = opened_stays o k e (ltb-false o.stated k b) h b

  pub stays : (whose s ≡ Err More → ⊥) → whose (s ++ t) ≡ whose s
  unfolding whose
  stays h = stays_by (opening s) refl h
