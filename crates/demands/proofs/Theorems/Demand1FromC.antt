-- DEMAND 1 OF THE C FACE. Every call of the eight functions, on any 89 numbers, with any input, cause or edition's
-- number and any output, returns and leaves what the table of refusals says; a refusal leaves all but the counts as it
-- was. Assumes nothing.
use Prim.Native.Nat.{ℕ}
use mathlib.Core.Path.{◌≡◌, refl, sym, ap, ◌∙◌}
use mathlib.Core.Bool.{Bool, true, false, false≢true}
use mathlib.Core.Option.{Option, none, some}
use mathlib.Core.List.{List, [], ◌∷◌}
use lib.Ieee.{Float}
use lib.Dec.{ltb}
use lib.ListN.{length, take}
use Rattle.std.proofs.Common.{Ok, Err}
use Rattle.framing.specs.Framing.{Framing, Frame, framing, frame_length}
use Rattle.framing.specs.declared.NoFrame.TheVariants.{More, NoMessage, TooLong, TooShort}
use Rattle.message.specs.Message.{Start, Fields, Head, Reading, refused, message}
use Rattle.message.specs.StartLines.{Started, started, start_line}
use Rattle.message.specs.Reading.{read_from, read_framed, reading}
use Rattle.message.specs.declared.Span.{Span}
use Rattle.whose.specs.Whose.{Whose, whose, whose_face}
use Rattle.whose.specs.declared.NoId.TheVariants as W
use Rattle.messagenumbers.specs.Layout.{message_numbers}
use Rattle.firmware.specs.Face.{framed, frame_face, ReadFace, consuming, read_as, read_face, called}
use Rattle.synth.specs.Channel.{View, well_named, sound, held}
use Rattle.synth.specs.Calls.{input, report, back, open_channel}
use Rattle.channelnumbers.specs.Numbers.{numbers_of, view_of}
use Rattle.klarvesimo.specs.Face.{open_face, HeldFace, fitting, held_on, held_face}
use Rattle.klarvesimo.specs.Face.{counted, reported, gone, back_face, listed}
use Rattle.demands.specs.Demands.{Line, given, table, first_due, outcome, exact, stated}
use Rattle.demands.specs.FromC.{FromC, opens, frames, reads, asks, on, handles, reports, goes, lists}
use Rattle.demands.specs.FromC.{Places, returned, refusals, seen_as, channel_in, frame_numbers, numbers_in, id_numbers}
use Rattle.demands.specs.FromC.{at_front, by_line, Demand1OfTheFace}
use Rattle.demands.proofs.Faces.{handed_long, handed_fits, one_place, two_places, nameless}
use Rattle.demands.proofs.Faces.{line_face, call_by_table}

-- what is promised of a call
abbrev Tabled : FromC → Type 0
Tabled c = returned c ≡ by_line (first_due (refusals c)) c

opening : (name : List ℕ) → Tabled (opens name)
opening name = go (well_named name) refl
  where
    go : (b : Bool) → well_named name ≡ b → Tabled (opens name)
    go true e = unfold open_face open_channel refusals in rw (e, open_face, open_channel, refusals)
    go false e = unfold open_face open_channel refusals in rw (e, open_face, open_channel, refusals)

-- by the line that is due
by : (c : FromC) (o : Option Line) → first_due (refusals c) ≡ o → returned c ≡ by_line o c → Tabled c
by c o e p = p ∙ ap (λ (o : Option Line). by_line o c) (sym e)

abbrev room_line : Option Line
room_line = some (given 7 true 0)

-- framing, by its cases, and where there is a frame by whether its four numbers fit
module _ (s out : List ℕ) where
  framed_fits : (a b k n : ℕ) → framing s ≡ Frame a b k n → (c : Bool) → ltb (length out) 4 ≡ c → Tabled (frames s out)
  unfolding frame_face refusals
  framed_fits a b k n f true c =
      by (frames s out) room_line (rw (f, c, refusals))
      (ap (λ (x : Framing). framed x out) f ∙ handed_long (a ∷ b ∷ k ∷ n ∷ []) out c)
  framed_fits a b k n f false c =
      by (frames s out) none (rw (f, c, refusals))
      (ap (λ (x : Framing). framed x out) f ∙ handed_fits (a ∷ b ∷ k ∷ n ∷ []) out c
      ∙ ap (λ (x : Framing). record { number = 0; out = at_front (frame_numbers x) out }) (sym f))

  by_framing : (x : Framing) → framing s ≡ x → Tabled (frames s out)
  unfolding frame_face refusals
  by_framing (Err More) f = rw (f, frame_face, refusals)
  by_framing (Err NoMessage) f = rw (f, frame_face, refusals)
  by_framing (Err TooLong) f = rw (f, frame_face, refusals)
  by_framing (Err TooShort) f = rw (f, frame_face, refusals)
  by_framing (Ok x) f = framed_fits x.major x.minor x.opening x.length f (ltb (length out) 4) refl

-- reading, by framing, by the start line, and by whether the message's numbers fit
module _ (s out consumed : List ℕ) (place : length consumed ≡ 1) where
  read_as_lem : (r : ReadFace) → read_face s out ≡ r
      → returned (reads s out consumed) ≡ record { number = r.number; consumed = r.consumed ∷ []; out = r.out }
  read_as_lem r e =
      ap (called consumed) e
      ∙ (λ i. record { number = r.number; consumed = one_place consumed r.consumed place i; out = r.out })

  -- one of 1 to 5
  refused_as : (number count : ℕ) → first_due (refusals (reads s out consumed)) ≡ some (given number true count)
      → reading s ≡ refused number count → Tabled (reads s out consumed)
  unfolding read_face
  refused_as number count e r =
      by (reads s out consumed) (some (given number true count)) e
      (read_as_lem _ (ap (λ (x : Reading Span). read_as s x out) r))

  module _ (a b k n : ℕ) (f : framing s ≡ Frame a b k n) where
    abbrev head : Head
    head = record { stated = n; major = a; minor = b }

    module _ (st : Start Span) (at : ℕ) (g : start_line k (take n s) ≡ started st at)
        (fs : Fields Span) (e : reading s ≡ message head st fs) where
      abbrev numbers : List ℕ
      numbers = message_numbers (take n s) head st fs

      message_fits : (c : Bool) → ltb (length out) (length numbers) ≡ c → Tabled (reads s out consumed)
      unfolding read_face refusals
      message_fits true c =
          by (reads s out consumed) room_line (rw (f, g, e, c, refusals))
          (read_as_lem _ (ap (λ (x : Reading Span). read_as s x out) e ∙ ap (consuming n) (handed_long numbers out c)))
      message_fits false c =
          by (reads s out consumed) none (rw (f, g, e, c, refusals))
          (read_as_lem _ (ap (λ (x : Reading Span). read_as s x out) e ∙ ap (consuming n) (handed_fits numbers out c))
          ∙ (λ i. record {
            number = 0;
            consumed = frame_length (sym f i) ∷ [];
            out = at_front (numbers_in s (sym e i)) out;
          }))

    by_start : (y : Started) → start_line k (take n s) ≡ y → reading s ≡ read_from head (take n s) y
        → Tabled (reads s out consumed)
    unfolding refusals
    by_start Started.malformed g e = refused_as 5 n (rw (f, g, refusals)) e
    by_start (started st at) g e = message_fits st at g _ e _ refl

  read_framed_lem : (x : Framing) → framing s ≡ x → reading s ≡ read_framed s x → Tabled (reads s out consumed)
  unfolding refusals
  read_framed_lem (Err More) f e = refused_as 1 0 (rw (f, refusals)) e
  read_framed_lem (Err NoMessage) f e = refused_as 2 0 (rw (f, refusals)) e
  read_framed_lem (Err TooLong) f e = refused_as 3 0 (rw (f, refusals)) e
  read_framed_lem (Err TooShort) f e = refused_as 4 0 (rw (f, refusals)) e
  read_framed_lem (Ok x) f e = by_start x.major x.minor x.opening x.length f (start_line x.opening (take x.length s)) refl e

  read_tabled : Tabled (reads s out consumed)
  unfolding reading
  read_tabled = read_framed_lem (framing s) refl refl

-- whose request it is, by its cases
module _ (s id : List ℕ) (place : length id ≡ 1) where
  by_whose : (w : Whose) → whose s ≡ w → Tabled (asks s id)
  unfolding whose_face refusals
  by_whose (Err W.More) e = rw (e, whose_face, refusals)
  by_whose (Err W.NoMessage) e = rw (e, whose_face, refusals)
  by_whose (Err W.TooShort) e = rw (e, whose_face, refusals)
  by_whose (Err W.Malformed) e = rw (e, whose_face, refusals)
  by_whose (Ok i) e =
      by (asks s id) none (rw (e, refusals))
      (rw (e, whose_face) (λ j. record { number = 0; id = one_place id i place j })
      ∙ ap (λ (w : Whose). record { number = 0; id = id_numbers w }) (sym e))

-- handling, reporting and going back, by the line that is due
module _ (ws out : List ℕ) where
  handled : (s counts : List ℕ) → length counts ≡ 2 → (o : Option Line)
      → counted counts (line_face o (channel_in ws) ws (input s) out) ≡ by_line o (on ws (handles s out counts))
  handled s counts two (some l) = λ i.
      record { number = l.number; channel = ws; counts = two_places counts l.consumed 0 two i; out = out }
  handled s counts two none = λ i.
      let v = channel_in ws in
      record {
        number = 0;
        channel = numbers_of (outcome v (input s)).next;
        counts = two_places counts (stated (input s)) (length (exact v (input s))) two i;
        out = at_front (exact v (input s)) out;
      }

  reported_by : (cause : ℕ) (score : Float) (written : List ℕ) → length written ≡ 1 → (o : Option Line)
      → reported written (line_face o (channel_in ws) ws (report cause score) out) ≡ by_line o (on ws (reports cause score out written))
  reported_by cause score written one (some l) = λ i.
      record { number = l.number; channel = ws; written = one_place written 0 one i; out = out }
  reported_by cause score written one none = λ i.
      let v = channel_in ws in
      record {
        number = 0;
        channel = numbers_of (outcome v (report cause score)).next;
        written = one_place written (length (exact v (report cause score))) one i;
        out = at_front (exact v (report cause score)) out;
      }

gone_by : (ws : List ℕ) (n : ℕ) (o : Option Line)
    → gone (line_face o (channel_in ws) ws (back n) []) ≡ by_line o (on ws (goes n))
gone_by ws n (some l) = refl
gone_by ws n none = refl

gone_tabled : (ws : List ℕ) (n : ℕ) → Tabled (on ws (goes n))
unfolding back_face refusals
gone_tabled ws n = ap gone (call_by_table ws (back n) []) ∙ gone_by ws n (first_due (table (channel_in ws) (back n) 0))

-- listing, by whether the channel is sound and its ids fit
module _ (ws ids count : List ℕ) (place : length count ≡ 1) where
  list_as : (r : HeldFace) → held_face ws ids ≡ r
      → returned (on ws (lists ids count)) ≡ record { number = r.number; count = r.count ∷ []; ids = r.ids }
  list_as r e =
      ap (listed count) e
      ∙ (λ i. record { number = r.number; count = one_place count r.count place i; ids = r.ids })

  -- no channel, or one that is not sound
  unsound : (o : Option View) → view_of ws ≡ o → sound (seen_as o) ≡ false → Tabled (on ws (lists ids count))
  unfolding held_face refusals
  unsound none e p =
      by (on ws (lists ids count)) (some (given 21 true 0)) (rw (e, p, refusals))
      (list_as _ (ap (λ (o : Option View). held_on o ids) e))
  unsound (some v) e p =
      by (on ws (lists ids count)) (some (given 21 true 0)) (rw (e, p, refusals))
      (list_as (record { number = 21; count = 0; ids = ids })
      (ap (λ (o : Option View). held_on o ids) e ∙ rw (p, held_on)))

  module _ (v : View) (e : view_of ws ≡ some v) (p : sound v ≡ true) where
    ids_fit : (c : Bool) → ltb (length ids) (length (held v)) ≡ c → Tabled (on ws (lists ids count))
    unfolding held_face refusals
    ids_fit true c =
        by (on ws (lists ids count)) room_line (rw (e, p, c, refusals))
        (list_as (record { number = 7; count = 0; ids = ids })
        (ap (λ (o : Option View). held_on o ids) e ∙ rw (p, held_on) (rw (c, fitting))))
    ids_fit false c =
        by (on ws (lists ids count)) none (rw (e, p, c, refusals))
        (list_as (record { number = 0; count = length (held v); ids = at_front (held v) ids })
        (ap (λ (o : Option View). held_on o ids) e ∙ rw (p, held_on) (rw (c, fitting)))
        ∙ ap (λ (o : Option View).
        let l : List ℕ = held (seen_as o) in record { number = 0; count = length l ∷ []; ids = at_front l ids }) (sym e))

  listed_on : (o : Option View) → view_of ws ≡ o → (b : Bool) → sound (seen_as o) ≡ b → Tabled (on ws (lists ids count))
  listed_on o e false p = unsound o e p
  listed_on none e true p = absurd (false≢true (sym nameless ∙ p))
  listed_on (some v) e true p = ids_fit v e p _ refl

pub demand1_of_the_face : Demand1OfTheFace
demand1_of_the_face (opens name) p = opening name
demand1_of_the_face (frames s out) p = by_framing s out (framing s) refl
demand1_of_the_face (asks s id) p = by_whose s id p (whose s) refl
demand1_of_the_face (reads s out consumed) p = read_tabled s out consumed p
demand1_of_the_face (on ws (handles s out counts)) p =
    ap (counted counts) (call_by_table ws (input s) out)
    ∙ (unfold refusals in handled ws out s counts p (first_due (table (channel_in ws) (input s) (length out))))
demand1_of_the_face (on ws (reports cause score out written)) p =
    ap (reported written) (call_by_table ws (report cause score) out)
    ∙ (unfold refusals in reported_by ws out cause score written p (first_due (table (channel_in ws) (report cause score) (length out))))
demand1_of_the_face (on ws (goes n)) p = gone_tabled ws n
demand1_of_the_face (on ws (lists ids count)) p = listed_on ws ids count p (view_of ws) refl _ refl

-- the same where it is known which line is the first that is due, or that none is
pub where_due : (c : FromC) → Places c → (o : Option Line) → first_due (refusals c) ≡ o → returned c ≡ by_line o c
where_due c p o e = demand1_of_the_face c p ∙ ap (λ (o : Option Line). by_line o c) e
