-- What ends a file, written behind an unfinished trace: one law for each way that the code can go. Assumes nothing.
use mathlib.Core.Option.{Option, none, some}
use lib.Seq.{take_at}
use Rattle.std.proofs.Common.{ℕ, suc, ◌+◌, ◌*◌, ◌-◌, ◌≤◌, ◌≡◌, ◌⊎◌, refl, sym, ap, subst, ◌∙◌, inl, inr, arith, Ok, Err}
use Rattle.std.proofs.Common.{true, List, [], ◌∷◌, ◌++◌, append_assoc, append-nil, length, take, drop, length-drop}
use Rattle.std.proofs.Math.Seq.{drop-drop, length-take-le}
use mathlib.Core.Bool.{false≢true}
use borrow.Author.Tests.{eqb-true}
use Rattle.writers.specs.Buffer.{put, Wrote}
use Rattle.writers.proofs.Put.{◌▸◌, wrote_none, kept}
use Rattle.framing.specs.Framing.{Framing, framing}
use Rattle.std.proofs.lemmas.Slice.{between_is}
use Rattle.std.proofs.lemmas.List.{nil_from_length}
use Rattle.framing.specs.declared.Framed.{Framed}
use Rattle.framing.specs.declared.NoFrame.{NoFrame}
use Rattle.traces.specs.Traces.{four, index, ahead, frames_in, so_many, messages_in}
use Rattle.traces.proofs.Numbers.{four_length}
use Rattle.traces.proofs.Walking.{frames_empty}
use Rattle.traces.proofs.Fronts.{FrontFrame, front_frame, no_front}

-- the first bytes stay
pub front_stays : {out after : List ℕ} {at n : ℕ} {bs : List ℕ} → Wrote out at bs after n → take at after ≡ take at out
unfolding put
front_stays {out} {after} {at} {n} {bs} w =
    ap (take at) (w.bytes ∙ append_assoc (take at out) bs (drop (at + length bs) out))
    ∙ take_at (take at out) (bs ++ drop (at + length bs) out) at
    (length-take-le at out (omega (arith, w.moved, w.room)))

-- entries are written of the messages before i; these are left
pub record Indexing (before : List ℕ) (used i at : ℕ) (out : List ℕ) : Type 0 where
  pub done : List ℕ
  pub rest : List (List ℕ)
  pub walked : frames_in (drop i (take used before)) ≡ some rest
  pub entries : index 0 (messages_in (frames_in (take used before))) ≡ done ++ index i rest
  pub wrote : Wrote before used done out at
  pub room : at + 4 * length rest + 12 ≤ length before
  pub within : i ≤ used

module _ (out : List ℕ) (used count : ℕ) (are : so_many count (frames_in (take used out)) ≡ true)
    (room : used + 4 * count + 12 ≤ length out) where
  start_by : (r : Option (List (List ℕ))) → frames_in (take used out) ≡ r → so_many count r ≡ true
      → Indexing out used 0 used out
  start_by none e a = absurd (false≢true a)
  start_by (some ms) e a = record {
    done = [];
    rest = ms;
    walked = e;
    entries = ap (λ r. index 0 (messages_in r)) e;
    wrote = wrote_none out used (omega arith);
    room = omega (arith, eqb-true (length ms) count a);
    within = omega arith;
  }

  pub index_start : Indexing out used 0 used out
  index_start = start_by (frames_in (take used out)) refl are

module _ {before : List ℕ} {used i at : ℕ} {out : List ℕ} (x : Indexing before used i at out) where
  there : used ≤ length before
  there = omega (arith, x.wrote.moved, x.room)

  front : length (take used before) ≡ used
  front = length-take-le used before there

  none_some : {C : Type 0} {l : List (List ℕ)} → none ≡ some l → C
  none_some e = let d : ◌≡◌ {A = ℕ} 0 1 = cc in absurd (omega arith)

  abbrev pub l : List ℕ
  l = drop i (take used before)

  -- the code looks at what it has not written over
  pub looks : {r : Framing} → r ≡ framing (take (used - i) (drop i out)) → framing l ≡ r
  looks e = ap framing (ap (drop i) (sym (front_stays x.wrote)) ∙ sym (between_is out i used)) ∙ sym e

  index_all : l ≡ [] → Wrote before used (index 0 (messages_in (frames_in (take used before)))) out at
  index_all z =
      let e : some [] ≡ some x.rest = sym frames_empty ∙ ap frames_in (sym z) ∙ x.walked in
      let r : [] ≡ x.rest = cc in
      let d : index 0 (messages_in (frames_in (take used before))) ≡ x.done =
      x.entries ∙ ap (λ l. x.done ++ index i l) (sym r) ∙ append-nil x.done in
      subst (λ l. Wrote before used l out at) (sym d) x.wrote

  pub index_end : (why : NoFrame) → framing l ≡ Err why
      → Wrote before used (index 0 (messages_in (frames_in (take used before)))) out at
  index_end why e = go (no_front l why e)
    where
      go : (l ≡ []) ⊎ (frames_in l ≡ none)
          → Wrote before used (index 0 (messages_in (frames_in (take used before)))) out at
      go (inl z) = index_all z
      go (inr z) = none_some (sym z ∙ x.walked)

  pub index_done : used ≤ i → Wrote before used (index 0 (messages_in (frames_in (take used before)))) out at
  index_done e = index_all (nil_from_length l (omega (arith, e, length-drop i (take used before), front)))

  module _ (f : Framed) (is : framing l ≡ Ok f) where
    abbrev n : ℕ
    n = f.length

    framed : FrontFrame l n
    framed = front_frame l f is

    pub index_within : (1 ≤ n) × (i + n ≤ used)
    index_within =
        (framed.some_bytes, omega (arith, framed.some_bytes, framed.there, length-drop i (take used before), front))

    pub index_room : at + 4 ≤ length out
    index_room = go (frames_in (drop n l)) (sym framed.opened ∙ x.walked)
      where
        go : (r : Option (List (List ℕ))) → ahead (take n l) r ≡ some x.rest → at + 4 ≤ length out
        go none e = none_some e
        go (some ms) e =
            let q : take n l ∷ ms ≡ x.rest = cc in
            let s : suc (length ms) ≡ length x.rest = ap length q in
            omega (arith, s, x.room, kept x.wrote)

    pub index_on : (after : List ℕ) (then : ℕ) → Wrote out at (four i) after then
        → Indexing before used (i + n) then after
    index_on after then w = go (frames_in (drop n l)) refl (sym framed.opened ∙ x.walked)
      where
        go : (r : Option (List (List ℕ))) → frames_in (drop n l) ≡ r → ahead (take n l) r ≡ some x.rest
            → Indexing before used (i + n) then after
        go none p e = none_some e
        go (some ms) p e =
            let q : take n l ∷ ms ≡ x.rest = cc in
            let s : suc (length ms) ≡ length x.rest = ap length q in
            let m : length (take n l) ≡ n = length-take-le n l framed.there in
            record {
              done = x.done ++ four i;
              rest = ms;
              walked = ap frames_in (sym (drop-drop n i (take used before))) ∙ p;
              entries =
                  x.entries
                  ∙ ap (λ k. x.done ++ index i k) (sym q)
                  ∙ ap (λ (k : ℕ). x.done ++ (four i ++ index (i + k) ms)) m
                  ∙ sym (append_assoc x.done (four i) (index (i + n) ms));
              wrote = x.wrote ▸ w;
              room = omega (arith, s, x.room, w.moved, four_length i);
              within = index_within.1;
            }
