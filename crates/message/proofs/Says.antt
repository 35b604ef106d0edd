-- What holds of a message that was read: its frame, its start line, its fields and its body.
-- Assumes nothing.
use mathlib.Core.Path.{◌≡◌, refl, subst}
use mathlib.Core.Bool.{Bool, true, false, ◌&&◌}
use mathlib.Core.List.{List, map}
use Prim.Native.Nat.{ℕ, ◌+◌, ◌-◌, ◌≤◌}
use native.Mathlib.Omega.{arith}
use lib.ListN.{length, take}
use lib.Seq.{length-take-le}
use Rattle.lists.specs.Lists.{All}
use Rattle.lists.proofs.Tests.{both}
use Rattle.std.specs.Prelude.{Ok, Err}
use Rattle.framing.specs.Framing.{Framing, Frame, framing}
use Rattle.framing.specs.declared.NoFrame.TheVariants.{More, NoMessage, TooLong, TooShort}
use Rattle.framing.proofs.Frames.{frame_fits}
use Rattle.message.specs.Message.{Start, request, response, event, Field, Fields, bad, good, Head, Reading, refused, message}
use Rattle.message.specs.Message.{InRange, part, on_field, on_reading}
use Rattle.message.specs.StartLines.{Started, started, start_line}
use Rattle.message.specs.Fields.{Lines, lines, field_lines}
use Rattle.message.specs.Known.{once_each, names_of, judged_value}
use Rattle.message.specs.Reading.{agrees, asks_params, judged, fields_from, read_from, read_framed, reading, read_bytes}
use Rattle.message.specs.declared.Span.{Span}
use Rattle.message.specs.declared.Known.TheVariants.{ContentLength}
use Rattle.message.proofs.StartLine.{Named, Begun, start_line_lem}
use Rattle.message.proofs.Rows.{Rows, NameFits, Laid, laid}
use Rattle.message.proofs.Values.{Hold, hold}

-- fields from `at` on in a frame f, and a body, that judgement 2 lets pass
pub record Passed (params : Bool) (f : List ℕ) (at : ℕ) (fs : List (Field Span)) (body : Span) : Type 0 where
  pub rows : Rows at fs body.start
  pub ends : body.start + body.len ≡ length f
  pub few : length fs ≤ 32
  pub names : All NameFits fs
  pub once : once_each params (names_of (map (on_field (part f)) fs)) ≡ true
  pub agreed : agrees (judged_value ContentLength (map (on_field (part f)) fs)) body.len ≡ true
  pub values : Hold f (lines fs body.start)

abbrev pub Judged : Bool → List ℕ → ℕ → Fields Span → Type 0
Judged params f at bad = Unit {0}
Judged params f at (good fs body) = Passed params f at fs body

judged_lines : (params : Bool) (f : List ℕ) (at : ℕ) (l : Lines) → Laid 32 at (length f) l → Hold f l → Judged params f at (judged params f l)
judged_lines params f at Lines.malformed h v = tt
judged_lines params f at (lines fs b) (r, l, n, names) v = go (once_in && agrees_in) refl
  where
    once_in : Bool
    once_in = once_each params (names_of (map (on_field (part f)) fs))

    agrees_in : Bool
    agrees_in = agrees (judged_value ContentLength (map (on_field (part f)) fs)) (length f - b)

    go : (t : Bool) → (once_in && agrees_in) ≡ t → Judged params f at (judged params f (lines fs b))
    go true e = rw (e, judged) (let (o, a) = both once_in agrees_in e in record { rows = r; ends = omega arith; few = n; names = names; once = o; agreed = a; values = v })
    go false e = rw (e, judged) tt

pub fields_from_lem : (params : Bool) (f : List ℕ) (at : ℕ) → Judged params f at (fields_from params f at)
unfolding fields_from
fields_from_lem params f at = judged_lines params f at (field_lines 32 f at) (laid 32 f at) (hold f 32 at)

-- a message with an opening of k bytes, and fields from `at` on
pub record Says (s : List ℕ) (h : Head) (st : Start Span) (fs : Fields Span) : Type 0 where
  pub k : ℕ
  pub at : ℕ
  pub frame : framing s ≡ Frame h.major h.minor k h.stated
  pub named : Named k st at
  pub ranged : InRange st
  pub inside : at ≤ h.stated
  pub fields : Judged (asks_params (take h.stated s) st) (take h.stated s) at fs

-- the same of all that reading can give
abbrev pub Told : List ℕ → Reading Span → Type 0
Told s (refused n k) = Unit {0}
Told s (message h st fs) = Says s h st fs

-- the frame has as many bytes as it states
pub frame_length_lem : (s : List ℕ) (a b k n : ℕ) → framing s ≡ Frame a b k n → length (take n s) ≡ n
frame_length_lem s a b k n e = length-take-le n s (frame_fits s a b k n e).there

told_started : (s : List ℕ) (h : Head) (k : ℕ) → framing s ≡ Frame h.major h.minor k h.stated
    → (r : Started) → Begun k (length (take h.stated s)) r → Told s (read_from h (take h.stated s) r)
told_started s h k e Started.malformed b = tt
told_started s h k e (started st at) (n, i, l) = record {
  k = k;
  at = at;
  frame = e;
  named = n;
  ranged = i;
  inside = omega (arith, frame_length_lem s h.major h.minor k h.stated e);
  fields = fields_from_lem (asks_params (take h.stated s) st) (take h.stated s) at;
}

told_framed : (s : List ℕ) (x : Framing) → framing s ≡ x → Told s (read_framed s x)
told_framed s (Err More) e = tt
told_framed s (Err NoMessage) e = tt
told_framed s (Err TooLong) e = tt
told_framed s (Err TooShort) e = tt
told_framed s (Ok x) e =
    let head : Head = record { stated = x.length; major = x.major; minor = x.minor } in
    let frame = take x.length s in
    told_started s head x.opening e (start_line x.opening frame) (start_line_lem x.opening frame)

pub told : (s : List ℕ) → Told s (reading s)
unfolding reading
told s = told_framed s (framing s) refl

pub says : (s : List ℕ) (h : Head) (st : Start Span) (fs : Fields Span) → reading s ≡ message h st fs → Says s h st fs
says s h st fs e = subst (Told s) e (told s)

-- the numbers are in range also where the parts are given by their bytes
abbrev Ranged : {P : Type 0} → Reading P → Type 0
Ranged (refused n k) = Unit {0}
Ranged (message h st fs) = InRange st

ranged_on : {Q : Type 0} (f : Span → Q) (s : List ℕ) (r : Reading Span) → Told s r → Ranged (on_reading f r)
ranged_on f s (refused n k) t = tt
ranged_on f s (message h (request p i) fs) t = t.ranged
ranged_on f s (message h (response i c r) fs) t = t.ranged
ranged_on f s (message h (event p i r) fs) t = t.ranged

pub bytes_ranged : (s : List ℕ) (h : Head) (st : Start (List ℕ)) (fs : Fields (List ℕ)) → read_bytes s ≡ message h st fs → InRange st
unfolding read_bytes
bytes_ranged s h st fs e = subst Ranged e (ranged_on (part s) s (reading s) (told s))
