-- What an unfinished trace holds that recording can have left: frames end to end, counted, with room for what ends the
-- file. Assumes nothing.
use Prim.Native.Nat.{ℕ, ◌+◌, ◌*◌, ◌≤◌, min}
use mathlib.Core.Path.{◌≡◌, refl, sym, ap, ap₂, ◌∙◌}
use mathlib.Core.Bool.{true, ◌&&◌, or-true, false≢true}
use mathlib.Core.Logic.{◌⊎◌, inl, inr}
use mathlib.Core.Option.{Option, none, some}
use mathlib.Core.List.{List, [], ◌∷◌, ◌++◌, append_assoc, append-nil}
use native.Mathlib.Omega.{arith}
use lib.Dec.{eqb}
use lib.ListN.{length, take, drop, length-append}
use lib.Seq.{take_at, length-take-le, drop-append-add, drop-append_seam, take-append_seam}
use borrow.Author.Tests.{eqb-true, eq-eqb, leb-true, le-leb}
use Rattle.lists.specs.Lists.{All}
use Rattle.lists.proofs.Tests.{both, either}
use Rattle.writers.specs.Buffer.{put}
use Rattle.writers.proofs.Put.{kept}
use Rattle.framing.specs.Framing.{Framing, Frame, framing}
use Rattle.framing.specs.declared.NoFrame.TheVariants.{More, NoMessage, TooLong, TooShort}
use Rattle.traces.specs.Traces.{flat, OneFrame, frames_in, fits, so_many, can_be_left, is_one, recorded}
use Rattle.std.specs.Prelude.{Ok, Err}
use Rattle.std.proofs.lemmas.Grind.{common_steps}
use Rattle.traces.proofs.Walking.{frames_flat, frames_so}

pub record Holds (ms : List (List ℕ)) (out : List ℕ) (used count : ℕ) : Type 0 where
  pub whole : All OneFrame ms
  pub made : take used out ≡ flat ms
  pub sized : length (flat ms) ≡ used
  pub as_many : length ms ≡ count
  pub room : ((used ≡ 0) × (count ≡ 0)) ⊎ (used + 4 * count + 12 ≤ min (length out) 65536)

pub fit_so : (room used count : ℕ) → fits room used count ≡ true → used + 4 * count + 12 ≤ min room 65536
fit_so room used count e = leb-true (used + 4 * count + 12) (min room 65536) e

pub so_fit : (room used count : ℕ) → used + 4 * count + 12 ≤ min room 65536 → fits room used count ≡ true
so_fit room used count h = le-leb (used + 4 * count + 12) (min room 65536) h

module _ (out : List ℕ) (used count : ℕ) where
  -- the two ways to be left
  pub can_nothing : used ≡ 0 → count ≡ 0 → can_be_left out used count ≡ true
  unfolding can_be_left
  can_nothing a b = rw (eq-eqb used 0 a, eq-eqb count 0 b, can_be_left)

  pub can_frames : fits (length out) used count ≡ true → so_many count (frames_in (take used out)) ≡ true
      → can_be_left out used count ≡ true
  unfolding can_be_left
  can_frames a b = rw (a, b, can_be_left) (or-true (eqb used 0 && eqb count 0))

  pub held_frames : (ms : List (List ℕ)) → Holds ms out used count → frames_in (take used out) ≡ some ms
  held_frames ms h = ap frames_in h.made ∙ frames_flat ms h.whole

  pub held_so : (ms : List (List ℕ)) → Holds ms out used count → so_many count (frames_in (take used out)) ≡ true
  held_so ms h = ap (so_many count) (held_frames ms h) ∙ eq-eqb (length ms) count h.as_many

  pub holds_can : (ms : List (List ℕ)) → Holds ms out used count → can_be_left out used count ≡ true
  holds_can ms h = go h.room
    where
      go : ((used ≡ 0) × (count ≡ 0)) ⊎ (used + 4 * count + 12 ≤ min (length out) 65536)
          → can_be_left out used count ≡ true
      go (inl (a, b)) = can_nothing a b
      go (inr r) = can_frames (so_fit (length out) used count r) (held_so ms h)

  nothing_held : used ≡ 0 → count ≡ 0 → Holds [] out used count
  nothing_held a b = record {
    whole = tt;
    made = ap (λ (u : ℕ). take u out) a;
    sized = sym a;
    as_many = sym b;
    room = inl (a, b);
  }

  frames_held : (r : Option (List (List ℕ))) → frames_in (take used out) ≡ r → so_many count r ≡ true
      → used + 4 * count + 12 ≤ min (length out) 65536 → (ms : List (List ℕ)) × Holds ms out used count
  frames_held none q a h = absurd (false≢true a)
  frames_held (some ms) q a h =
      let w = frames_so (take used out) ms q in (
        ms,
        record {
          whole = w.whole;
          made = w.made;
          sized = sym (ap length w.made) ∙ length-take-le used out (omega arith);
          as_many = eqb-true (length ms) count a;
          room = inr h;
        },
      )

  pub can_holds : can_be_left out used count ≡ true → (ms : List (List ℕ)) × Holds ms out used count
  unfolding can_be_left
  can_holds e =
      go
      (either (eqb used 0 && eqb count 0) (fits (length out) used count && so_many count (frames_in (take used out))) e)
    where
      go : (eqb used 0 && eqb count 0 ≡ true)
          ⊎ (fits (length out) used count && so_many count (frames_in (take used out)) ≡ true)
          → (ms : List (List ℕ)) × Holds ms out used count
      go (inl p) =
          let (a, b) = both (eqb used 0) (eqb count 0) p in
          ([], nothing_held (eqb-true used 0 a) (eqb-true count 0 b))
      go (inr p) =
          let (a, b) = both (fits (length out) used count) (so_many count (frames_in (take used out))) p in
          frames_held (frames_in (take used out)) refl b (fit_so (length out) used count a)

-- exactly one frame, as a test
one_by : (m : List ℕ) (x : Framing) → framing m ≡ x → is_one (length m) x ≡ true → OneFrame m
one_by m (Err More) e h = absurd (false≢true h)
one_by m (Err NoMessage) e h = absurd (false≢true h)
one_by m (Err TooLong) e h = absurd (false≢true h)
one_by m (Err TooShort) e h = absurd (false≢true h)
one_by m (Ok f) e h = record {
  major = f.major;
  minor = f.minor;
  opens = f.opening;
  frame = e ∙ ap (Frame f.major f.minor f.opening) (eqb-true f.length (length m) h);
}

pub is_one_lem : (m : List ℕ) → is_one (length m) (framing m) ≡ true → OneFrame m
is_one_lem m h = one_by m (framing m) refl h

pub one_is : (m : List ℕ) → OneFrame m → is_one (length m) (framing m) ≡ true
one_is m w = ap (is_one (length m)) w.frame ∙ eq-eqb (length m) (length m) refl

-- recording goes on exactly from what can be left, with exactly one frame, where the file still fits
pub record Goes (out : List ℕ) (used count : ℕ) (m : List ℕ) (u c : ℕ) : Type 0 where
  pub can : can_be_left out used count ≡ true
  pub one : OneFrame m
  pub fit : used + length m + 4 * (count + 1) + 12 ≤ min (length out) 65536
  pub used_then : u ≡ used + length m
  pub count_then : c ≡ count + 1

module _ (out : List ℕ) (used count : ℕ) (m : List ℕ) where
  pub goes_on : can_be_left out used count ≡ true → is_one (length m) (framing m) ≡ true
      → fits (length out) (used + length m) (count + 1) ≡ true
      → recorded out used count m ≡ Ok (record { used = used + length m; count = count + 1 })
  unfolding recorded
  goes_on p q r = rw (p, q, r, recorded)

  pub goes : (u c : ℕ) → recorded out used count m ≡ Ok (record { used = u; count = c }) → Goes out used count m u c
  unfolding recorded
  goes u c e =
      let p : can_be_left out used count ≡ true = grind (arith, common_steps) in
      let q : is_one (length m) (framing m) ≡ true = grind (arith, common_steps) in
      let r : fits (length out) (used + length m) (count + 1) ≡ true = grind (arith, common_steps) in
      let l = goes_on p q r in
      record {
        can = p;
        one = is_one_lem m q;
        fit = fit_so (length out) (used + length m) (count + 1) r;
        used_then = grind arith;
        count_then = grind arith;
      }

-- lists of messages, one longer
pub flat_append : (ms ns : List (List ℕ)) → flat (ms ++ ns) ≡ flat ms ++ flat ns
flat_append [] ns = refl
flat_append (m ∷ ms) ns = ap (λ l. m ++ l) (flat_append ms ns) ∙ sym (append_assoc m (flat ms) (flat ns))

pub flat_more : (ms : List (List ℕ)) (m : List ℕ) → flat (ms ++ m ∷ []) ≡ flat ms ++ m
flat_more ms m = flat_append ms (m ∷ []) ∙ ap (λ l. flat ms ++ l) (append-nil m)

all_more : (ms : List (List ℕ)) (m : List ℕ) → All OneFrame ms → OneFrame m → All OneFrame (ms ++ m ∷ [])
all_more [] m a w = (w, tt)
all_more (x ∷ ms) m a w = (a.0, all_more ms m a.1 w)

-- what was written behind the first `used` bytes
pub put_behind : (out bs : List ℕ) (used : ℕ) → used ≤ length out
    → take (used + length bs) (put out used bs) ≡ take used out ++ bs
unfolding put
put_behind out bs used h =
    take_at (take used out ++ bs) (drop (used + length bs) out) (used + length bs)
    (length-append (take used out) bs ∙ ap (λ (k : ℕ). k + length bs) (length-take-le used out h))

pub put_length : (out bs : List ℕ) (used : ℕ) → used + length bs ≤ length out → length (put out used bs) ≡ length out
put_length out bs used h =
    kept {out = out} {at = used} {n = used + length bs} {bs = bs} (record { bytes = refl; moved = refl; room = h })

-- what stands there already changes nothing
pub put_there : (a m rest : List ℕ) → put (a ++ (m ++ rest)) (length a) m ≡ a ++ (m ++ rest)
unfolding put
put_there a m rest =
    ap₂ (λ x y. x ++ m ++ y) (take-append_seam a (m ++ rest))
    (drop-append-add a (m ++ rest) (length m) ∙ drop-append_seam m rest)
    ∙ append_assoc a m rest

pub holds_more : (ms : List (List ℕ)) (out : List ℕ) (used count : ℕ) (m : List ℕ) (u c : ℕ) → Holds ms out used count
    → Goes out used count m u c → Holds (ms ++ m ∷ []) (put out used m) u c
holds_more ms out used count m u c h g =
    let there : used + length m ≤ length out = omega (arith, g.fit) in
    record {
      whole = all_more ms m h.whole g.one;
      made =
          ap (λ (k : ℕ). take k (put out used m)) g.used_then
          ∙ put_behind out m used (omega arith)
          ∙ ap (λ l. l ++ m) h.made
          ∙ sym (flat_more ms m);
      sized = ap length (flat_more ms m) ∙ length-append (flat ms) m ∙ omega (arith, h.sized, g.used_then);
      as_many = length-append ms (m ∷ []) ∙ omega (arith, h.as_many, g.count_then);
      room = inr (omega (arith, g.fit, g.used_then, g.count_then, put_length out m used there));
    }
