-- Walking from the start gives the messages exactly where the bytes are frames end to end; and the fuel is enough.
-- Assumes nothing.
use Prim.Native.Nat.{ℕ, zero, suc, ◌≤◌}
use mathlib.Core.Path.{◌≡◌, refl, sym, ap, ap₂, subst, ◌∙◌}
use mathlib.Core.Bool.{Bool, true, false, false≢true}
use mathlib.Core.Option.{Option, none, some}
use mathlib.Core.List.{List, [], ◌∷◌, ◌++◌}
use native.Mathlib.Omega.{arith}
use lib.ListN.{length, take, drop, length-append, length-drop, take-append-drop}
use lib.Seq.{take-append_seam, drop-append_seam, length-take-le}
use Rattle.lists.specs.Lists.{is_empty, All}
use Rattle.framing.specs.Framing.{Framing, Frame, framing, refusal}
use Rattle.framing.specs.declared.Framed.{Framed}
use Rattle.framing.specs.declared.NoFrame.TheVariants.{More, NoMessage, TooLong, TooShort}
use Rattle.std.specs.Prelude.{Ok, Err}
use Rattle.framing.proofs.Frames.{frame_fits}
use Rattle.framing.proofs.Theorems.FrameAlone.{frame_alone, more_bytes}
use Rattle.traces.specs.Traces.{flat, OneFrame, ahead, frames_on, walk, frames_in}

pub one_some : (m : List ℕ) → OneFrame m → 11 ≤ length m
one_some m w = let f = frame_fits m _ _ _ _ w.frame in omega arith

one_more : (m rest : List ℕ) (w : OneFrame m)
    → framing (m ++ rest) ≡ Frame w.major w.minor w.opens (length m)
one_more m rest w = more_bytes m rest not_short ∙ w.frame
  where
    not_short : refusal (framing m) ≡ 1 → ⊥
    not_short e = let q : ◌≡◌ {A = ℕ} 0 1 = sym (ap refusal w.frame) ∙ e in omega arith

not_empty : (m rest : List ℕ) → 1 ≤ length m → is_empty (m ++ rest) ≡ false
not_empty [] rest h = absurd (omega arith)
not_empty (x ∷ m) rest h = refl

-- frames end to end are walked as they are
walk_flat : (ms : List (List ℕ)) → All OneFrame ms → (fuel : ℕ) → length (flat ms) ≤ fuel
    → walk fuel (flat ms) ≡ some ms
unfolding walk
walk_flat [] h zero l = refl
walk_flat [] h (suc fuel) l = refl
walk_flat (m ∷ ms) (w, h) zero l = absurd (omega (arith, one_some m w, length-append m (flat ms)))
walk_flat (m ∷ ms) (w, h) (suc fuel) l =
    let few : length (flat ms) ≤ fuel = omega (arith, one_some m w, length-append m (flat ms)) in
    rw (not_empty m (flat ms) (omega (arith, one_some m w)), walk)
    (ap (λ x. frames_on (m ++ flat ms) x (walk fuel)) (one_more m (flat ms) w)
    ∙ ap₂ (λ a b. ahead a (walk fuel b)) (take-append_seam m (flat ms)) (drop-append_seam m (flat ms))
    ∙ ap (ahead m) (walk_flat ms h fuel few))

pub frames_flat : (ms : List (List ℕ)) → All OneFrame ms → frames_in (flat ms) ≡ some ms
frames_flat ms h = walk_flat ms h (length (flat ms)) (omega arith)

-- what is walked is frames end to end
pub record Walked (s : List ℕ) (ms : List (List ℕ)) : Type 0 where
  pub made : s ≡ flat ms
  pub whole : All OneFrame ms

frame_one : (s : List ℕ) (a b k n : ℕ) → framing s ≡ Frame a b k n → OneFrame (take n s)
frame_one s a b k n e = record {
  major = a;
  minor = b;
  opens = k;
  frame =
      frame_alone s a b k n e
      ∙ ap (Frame a b k) (sym (length-take-le n s (frame_fits s a b k n e).there));
}

none_some : {A : Type 0} {C : Type 0} {x : A} → none ≡ some x → C
none_some e = let d : ◌≡◌ {A = ℕ} 0 1 = cc in absurd (omega arith)

empty_walked : (s : List ℕ) (ms : List (List ℕ)) → is_empty s ≡ true → some [] ≡ some ms → Walked s ms
empty_walked [] ms b e = let q : [] ≡ ms = cc in subst (Walked []) q (record { made = refl; whole = tt })
empty_walked (x ∷ s) ms b e = absurd (false≢true b)

module _ (s : List ℕ) (on : List ℕ → Option (List (List ℕ)))
    (ih : (t : List ℕ) (ms : List (List ℕ)) → on t ≡ some ms → Walked t ms) where
  ahead_walked : (a b k n : ℕ) → framing s ≡ Frame a b k n → (r : Option (List (List ℕ))) → on (drop n s) ≡ r
      → (ms : List (List ℕ)) → ahead (take n s) r ≡ some ms → Walked s ms
  ahead_walked a b k n f none q ms e = none_some e
  ahead_walked a b k n f (some rest) q ms e =
      let w = ih (drop n s) rest q in
      let p : take n s ∷ rest ≡ ms = cc in
      subst (Walked s) p (record {
        made = sym (take-append-drop n s) ∙ ap (λ l. take n s ++ l) w.made;
        whole = (frame_one s a b k n f, w.whole);
      })

  frames_walked : (x : Framing) → framing s ≡ x → (ms : List (List ℕ)) → frames_on s x on ≡ some ms → Walked s ms
  frames_walked (Err More) f ms e = none_some e
  frames_walked (Err NoMessage) f ms e = none_some e
  frames_walked (Err TooLong) f ms e = none_some e
  frames_walked (Err TooShort) f ms e = none_some e
  frames_walked (Ok x) f ms e = ahead_walked x.major x.minor x.opening x.length f (on (drop x.length s)) refl ms e

walk_so : (fuel : ℕ) (s : List ℕ) (ms : List (List ℕ)) → walk fuel s ≡ some ms → Walked s ms
unfolding walk
walk_so zero s ms e = go (is_empty s) refl
  where
    go : (b : Bool) → is_empty s ≡ b → Walked s ms
    go true b = empty_walked s ms b (rw (b, walk) at e)
    go false b = none_some (rw (b, walk) at e)
walk_so (suc fuel) s ms e = go (is_empty s) refl (walk_so fuel)
  where
    go : (b : Bool) → is_empty s ≡ b → ((t : List ℕ) (ms : List (List ℕ)) → walk fuel t ≡ some ms → Walked t ms)
        → Walked s ms
    go true b ih = empty_walked s ms b (rw (b, walk) at e)
    go false b ih = frames_walked s (walk fuel) ih (framing s) refl ms (rw (b, walk) at e)

pub frames_so : (s : List ℕ) (ms : List (List ℕ)) → frames_in s ≡ some ms → Walked s ms
frames_so s ms e = walk_so (length s) s ms e

-- a frame takes some bytes, and no more than are there
pub frame_takes : (s : List ℕ) (f : Framed) → framing s ≡ Ok f → (1 ≤ f.length) × (f.length ≤ length s)
frame_takes s f e =
    let x = frame_fits s f.major f.minor f.opening f.length e in
    (omega (arith, x.opens, x.least), x.there)

frames_alike : (s : List ℕ) (x : Framing) (f g : List ℕ → Option (List (List ℕ))) → framing s ≡ x
    → ((n : ℕ) → 1 ≤ n → n ≤ length s → f (drop n s) ≡ g (drop n s)) → frames_on s x f ≡ frames_on s x g
frames_alike s (Err why) f g e h = refl
frames_alike s (Ok x) f g e h =
    let t = frame_takes s x e in
    ap (ahead (take x.length s)) (h x.length t.0 t.1)

walk_enough : (n m : ℕ) (s : List ℕ) → length s ≤ n → length s ≤ m → walk n s ≡ walk m s
unfolding walk
walk_enough zero zero s h k = refl
walk_enough zero (suc m) [] h k = refl
walk_enough (suc n) zero [] h k = refl
walk_enough (suc n) (suc m) [] h k = refl
walk_enough zero (suc m) (x ∷ s) h k = absurd (omega arith)
walk_enough (suc n) zero (x ∷ s) h k = absurd (omega arith)
walk_enough (suc n) (suc m) (x ∷ s) h k =
    frames_alike (x ∷ s) (framing (x ∷ s)) (walk n) (walk m) refl
    (λ j p q. let t = length-drop j (x ∷ s) in walk_enough n m (drop j (x ∷ s)) (omega arith) (omega arith))

-- one frame, and then the rest
pub frames_opened : (x : ℕ) (s : List ℕ) → frames_in (x ∷ s) ≡ frames_on (x ∷ s) (framing (x ∷ s)) frames_in
unfolding walk
frames_opened x s =
    frames_alike (x ∷ s) (framing (x ∷ s)) (walk (length s)) frames_in refl
    (λ j p q.
    let t = length-drop j (x ∷ s) in
    walk_enough (length s) (length (drop j (x ∷ s))) (drop j (x ∷ s)) (omega arith) (omega arith))

pub frames_empty : frames_in [] ≡ some []
unfolding walk
frames_empty = refl
