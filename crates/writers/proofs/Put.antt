-- Laws of `put` and `Wrote`: nothing, one byte, a run behind another, a run before a byte. Assumes nothing.
use mathlib.Core.Path.{◌≡◌, refl, sym, ap, ◌∙◌}
use Prim.Native.Nat.{ℕ, suc, ◌+◌, ◌≤◌, ◌<◌}
use native.Mathlib.Nat.{add-zero, add_assoc, zero-add}
use native.Mathlib.Numerals.{add-one}
use native.Mathlib.Omega.{arith}
use mathlib.Core.List.{List, [], ◌∷◌, ◌++◌, append_assoc, append-nil}
use lib.ListN.{length, take, drop, set, length-append, length-drop, take-append-drop}
use lib.Seq.{length-take-le, set_split, take_at, drop-append-add, drop-drop, take-set-le, drop_at}
use Rattle.writers.specs.Buffer.{put, Wrote}

length_put : (out : List ℕ) (at : ℕ) (bs : List ℕ) → at + length bs ≤ length out → length (put out at bs) ≡ length out
unfolding put
length_put out at bs h = simp (length-append, length-drop) (omega (arith, length-take-le at out (omega arith)))

put_nil : (out : List ℕ) (at : ℕ) → put out at [] ≡ out
unfolding put
put_nil out at = rw (add-zero, append-nil) (take-append-drop at out)

pub put_one : (out : List ℕ) (at b : ℕ) → at < length out → set out at b ≡ put out at (b ∷ [])
unfolding put
put_one out at b h =
    set_split out at b h
    ∙ sym (append_assoc (take at out) (b ∷ []) (drop (suc at) out))
    ∙ ap (λ (k : ℕ). take at out ++ (b ∷ []) ++ drop k out) (sym (add-one at))

-- at the front of the buffer
pub put_front : (out bs : List ℕ) → put out 0 bs ≡ bs ++ drop (length bs) out
unfolding put
put_front out bs = rw zero-add

-- two runs, one behind the other, are one
put_put : (out : List ℕ) (at : ℕ) (xs ys : List ℕ) → at + length xs + length ys ≤ length out
    → put (put out at xs) (at + length xs) ys ≡ put out at (xs ++ ys)
unfolding put
put_put out at xs ys h =
    let p : List ℕ = take at out ++ xs in
    let lp : length p ≡ at + length xs =
    length-append (take at out) xs ∙ ap (λ (k : ℕ). k + length xs) (length-take-le at out (omega arith)) in
    ap (λ (l : List ℕ). l ++ ys ++ drop (at + length xs + length ys) (p ++ drop (at + length xs) out))
    (take_at p (drop (at + length xs) out) (at + length xs) lp)
    ∙ ap (λ (l : List ℕ). p ++ ys ++ l)
    (ap (λ (k : ℕ). drop (k + length ys) (p ++ drop (at + length xs) out)) (sym lp)
    ∙ drop-append-add p (drop (at + length xs) out) (length ys)
    ∙ drop-drop (length ys) (at + length xs) out)
    ∙ ap (λ (l : List ℕ). l ++ drop (at + length xs + length ys) out) (append_assoc (take at out) xs ys)
    ∙ ap (λ (k : ℕ). take at out ++ (xs ++ ys) ++ drop k out)
    (add_assoc at (length xs) (length ys) ∙ ap (λ (k : ℕ). at + k) (sym (length-append xs ys)))

regroup : (p xs : List ℕ) (b : ℕ) (q : List ℕ) → p ++ xs ++ b ∷ q ≡ p ++ (xs ++ b ∷ []) ++ q
regroup p xs b q = simp append_assoc

-- a byte, and then a run before it
pub put_before : (out : List ℕ) (at : ℕ) (xs : List ℕ) (b : ℕ) → at + length xs < length out
    → put (set out (at + length xs) b) at xs ≡ put out at (xs ++ b ∷ [])
unfolding put
put_before out at xs b h =
    let n : ℕ = at + length xs in
    let front : take at (set out n b) ≡ take at out = take-set-le at out n b (omega arith) in
    let behind : drop n (set out n b) ≡ b ∷ drop (suc n) out =
    ap (drop n) (set_split out n b h) ∙ drop_at (take n out) (b ∷ drop (suc n) out) n (length-take-le n out (omega arith)) in
    let next : at + length (xs ++ b ∷ []) ≡ suc n = simp length-append (omega arith) in
    rw (front, behind, next) (regroup (take at out) xs b (drop (suc n) out))

-- the buffer keeps its length
pub kept : {out after : List ℕ} {at n : ℕ} {bs : List ℕ} → Wrote out at bs after n → length after ≡ length out
kept {out} {after} {at} {n} {bs} w = ap length w.bytes ∙ length_put out at bs (omega arith)

-- what two calls wrote, the second behind the first
infixl 40 ◌▸◌
pub ◌▸◌ : {out mid after : List ℕ} {at n m : ℕ} {xs ys : List ℕ} → Wrote out at xs mid n → Wrote mid n ys after m → Wrote out at (xs ++ ys) after m
◌▸◌ {out} {mid} {after} {at} {n} {m} {xs} {ys} a b =
    let same : length mid ≡ length out = kept a in
    record {
      bytes =
          b.bytes
          ∙ ap (λ (l : List ℕ). put l n ys) a.bytes
          ∙ ap (λ (k : ℕ). put (put out at xs) k ys) a.moved
          ∙ put_put out at xs ys (omega arith);
      moved = simp length-append (omega arith);
      room = omega arith;
    }

-- what one store wrote
pub wrote_one : (out : List ℕ) (at b : ℕ) → at < length out → Wrote out at (b ∷ []) (set out at b) (at + 1)
wrote_one out at b h = record { bytes = put_one out at b h; moved = refl; room = omega arith }

-- nothing written
pub wrote_none : (out : List ℕ) (at : ℕ) → at ≤ length out → Wrote out at [] out at
wrote_none out at h = record { bytes = sym (put_nil out at); moved = sym (add-zero at); room = h }
