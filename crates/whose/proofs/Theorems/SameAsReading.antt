-- Once framed as in document 01, full reading gives the same request-id, or refuses with 5 alike; and an id
-- that was told before the message was there is the id that full reading then gives.
-- Assumes nothing.
use Prim.Native.Nat.{ℕ, ◌+◌, ◌-◌, min}
use mathlib.Core.Path.{◌≡◌, refl, sym, ap, subst, ◌∙◌}
use mathlib.Core.Bool.{false, ◌&&◌, and-false}
use mathlib.Core.Option.{Option, none, some}
use mathlib.Core.List.{List, ◌++◌}
use native.Mathlib.Omega.{arith}
use lib.Dec.{ltb}
use lib.ListN.{length, take, drop, length-drop, take-append-drop}
use lib.Seq.{take-take, drop-append-le, length-take-le}
use borrow.Author.Tests.{le-ltb}
use Rattle.readers.specs.Words.{line, words}
use Rattle.readers.proofs.Cuts.{Cut, line_cut, line_length}
use Rattle.std.specs.Prelude.{Ok, Err}
use Rattle.framing.specs.Framing.{Frame, framing}
use Rattle.framing.proofs.Frames.{frame_opened}
use Rattle.message.specs.Message.{Start, Fields, Head, Reading, message}
use Rattle.message.specs.StartLines.{Started, started, going_on, start_of, line_start, start_line}
use Rattle.message.specs.Reading.{asks_params, fields_from, read_from, read_framed, reading}
use Rattle.message.specs.declared.Span.{Span}
use Rattle.whose.specs.Whose.{id_in, of_start, of_line, window, of_opening, whose, Agrees}
use Rattle.whose.specs.declared.NoId.TheVariants.{Malformed}
use Rattle.whose.proofs.Lines.{line_more, line_fewer, start_short, drop_take}
use Rattle.whose.proofs.Ways.{no_more, by_line_lem}
use Rattle.whose.proofs.Theorems.ForGood.{stays}

-- what reading says of a line
same_line : (h : Head) (f : List ℕ) (at : ℕ) (r : Option (Start Span))
    → Agrees (read_from h f (going_on r at)) (of_start r)
same_line h f at none = (refl, refl)
same_line h f at (some st) = refl

module _ (s : List ℕ) (a b k n : ℕ) (e : framing s ≡ Frame a b k n) where
  abbrev head : Head
  head = record { stated = n; major = a; minor = b }

  abbrev frame : List ℕ
  frame = take n s

  abbrev read : Option (List ℕ) → Reading Span
  read r = read_from head frame (line_start k r)

  read_is : reading s ≡ read (line (drop k frame))
  unfolding reading start_line
  read_is = ap (read_framed s) e

  -- the window is a part of the frame
  window_frame : take (min 128 n) frame ≡ window n s
  window_frame = take-take (min 128 n) n s (omega arith)

  -- a line that is well formed ends in the window
  line_within : line (drop k (window n s)) ≡ none → (l : List ℕ) → line (drop k frame) ≡ some l
      → (st : Start Span) → start_of k (words 32 l) ≡ some st → ⊥
  line_within w l q st r =
      let f = frame_opened s a b k n e in
      let behind : List ℕ = drop k frame in
      let room = line_length behind l (subst (Cut behind) q (line_cut behind)) in
      let size : length behind ≡ n - k = length-drop k frame ∙ ap (λ m. m - k) (length-take-le n s f.fits.there) in
      let i = line_fewer (min 128 n - k) behind l q (omega (arith, f.fits, start_short k st l r)) in
      let j : drop k (window n s) ≡ take (min 128 n - k) behind =
      ap (drop k) (sym window_frame) ∙ drop_take k (min 128 n) frame in
      let z : none ≡ some l = sym w ∙ ap line j ∙ i in
      let d : ◌≡◌ {A = ℕ} 0 1 = cc in omega arith

  -- no line in the window: reading finds none that is well formed
  none_read : line (drop k (window n s)) ≡ none → (r : Option (List ℕ)) → line (drop k frame) ≡ r
      → Agrees (read r) (Err Malformed)
  none_read w none q = (refl, refl)
  none_read w (some l) q = go (start_of k (words 32 l)) refl
    where
      go : (r : Option (Start Span)) → start_of k (words 32 l) ≡ r
          → Agrees (read_from head frame (going_on r (k + length l + 2))) (Err Malformed)
      go none p = (refl, refl)
      go (some st) p = absurd (line_within w l q st p)

  same : (r : Option (List ℕ)) → line (drop k (window n s)) ≡ r
      → Agrees (read (line (drop k frame))) (of_line k n (length s) r)
  same none w =
      let f = frame_opened s a b k n e in
      let all_there : ltb (length s) 128 && ltb (length s) n ≡ false =
      rw (le-ltb (length s) n f.fits.there, and-false (ltb (length s) 128)) in
      let Read-none = none_read w (line (drop k frame)) refl in
      subst (Agrees (read (line (drop k frame)))) (sym (no_more k n (length s) all_there)) Read-none
  same (some l) w =
      let f = frame_opened s a b k n e in
      let size : length (window n s) ≡ min 128 n = length-take-le (min 128 n) s (omega (arith, f.fits)) in
      let rest : List ℕ = drop (min 128 n) frame in
      let split : frame ≡ window n s ++ rest =
      sym (take-append-drop (min 128 n) frame) ∙ ap (λ u. u ++ rest) window_frame in
      let q : line (drop k frame) ≡ some l =
      ap (λ u. line (drop k u)) split ∙ ap line (drop-append-le k (window n s) rest (omega (arith, f.fits)))
      ∙ line_more (drop k (window n s)) rest l w in
      subst (λ r. Agrees (read r) (of_start (start_of k (words 32 l)))) (sym q)
      (same_line head frame (k + length l + 2) (start_of k (words 32 l)))

  -- the answer, by the line in the window
  whose_is : whose s ≡ of_line k n (length s) (line (drop k (window n s)))
  unfolding whose
  whose_is =
      let f = frame_opened s a b k n e in
      ap (of_opening s) f.opened
      ∙ by_line_lem s (record { major = a; minor = b; stated = n }) k (le-ltb n k f.fits.opens)

  pub once_framed : Agrees (reading s) (whose s)
  once_framed =
      subst (λ r. Agrees r (whose s)) (sym read_is)
      (subst (Agrees (read (line (drop k frame)))) (sym whose_is) (same (line (drop k (window n s))) refl))

  -- an id that agrees with full reading is the message's
  id_read : (i : ℕ) → Agrees (reading s) (Ok i)
      → (h : Head) × (st : Start Span) × (fs : Fields Span) × (reading s ≡ message h st fs) × (id_in st ≡ i)
  id_read i g = go (line_start k (line (drop k frame))) read_is (subst (λ r. Agrees r (Ok i)) read_is g)
    where
      go : (x : Started) → reading s ≡ read_from head frame x → Agrees (read_from head frame x) (Ok i)
          → (h : Head) × (st : Start Span) × (fs : Fields Span) × (reading s ≡ message h st fs) × (id_in st ≡ i)
      go Started.malformed q (_, g) = let d : ◌≡◌ {A = ℕ} 0 1 = cc in absurd (omega arith)
      go (started st at) q g = (head, st, fields_from (asks_params frame st) frame at, q, (let p : i ≡ id_in st = cc in sym p))

-- whatever bytes come behind those that the id was told from
pub told_early : (s t : List ℕ) (a b k n i : ℕ) → whose s ≡ Ok i → framing (s ++ t) ≡ Frame a b k n
    → (h : Head) × (st : Start Span) × (fs : Fields Span) × (reading (s ++ t) ≡ message h st fs) × (id_in st ≡ i)
told_early s t a b k n i e f =
    let stayed : whose (s ++ t) ≡ Ok i = stays s t (λ z. let d : ◌≡◌ {A = ℕ} 0 1 = cc in omega arith) ∙ e in
    id_read (s ++ t) a b k n f i (subst (Agrees (reading (s ++ t))) stayed (once_framed (s ++ t) a b k n f))
