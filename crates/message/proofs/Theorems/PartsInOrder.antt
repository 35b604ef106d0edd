-- Every part that reading hands back lies inside the frame, in order and without overlap.
-- Assumes nothing.
use mathlib.Core.Path.{◌≡◌}
use mathlib.Core.Bool.{Bool}
use mathlib.Core.List.{List, [], ◌∷◌}
use Prim.Native.Nat.{ℕ, ◌+◌, ◌≤◌, zero-le}
use native.Mathlib.Omega.{arith}
use lib.ListN.{length, take}
use Rattle.framing.proofs.Frames.{frame_fits}
use Rattle.message.specs.Message.{Start, request, response, event, Field, Fields, bad, good, Head, message}
use Rattle.message.specs.Reading.{asks_params, reading}
use Rattle.message.specs.declared.Span.{Span}
use Rattle.message.proofs.StartLine.{Named}
use Rattle.message.proofs.Rows.{Rows, rows_from}
use Rattle.message.proofs.Says.{Judged, frame_length_lem, says}

-- n ≤ the first part, which ends before the next one begins, and so on; the last one ends by m
abbrev pub Ordered : ℕ → List Span → ℕ → Type 0
Ordered n [] m = n ≤ m
Ordered n (p ∷ ps) m = (n ≤ p.start) × Ordered (p.start + p.len) ps m

-- name and value of each field, then the body
abbrev pub field_parts : List (Field Span) → Span → List Span
field_parts [] body = body ∷ []
field_parts (x ∷ fs) body = x.name ∷ x.value ∷ field_parts fs body

-- none where the fields are bad
abbrev pub fields_parts : Fields Span → List Span
fields_parts bad = []
fields_parts (good fs body) = field_parts fs body

-- the start line's name where there is one, then those
abbrev pub parts_of : Start Span → Fields Span → List Span
parts_of (request name i) fs = name ∷ fields_parts fs
parts_of (response i c r) fs = fields_parts fs
parts_of (event name i r) fs = name ∷ fields_parts fs

in_rows : (at m : ℕ) (fs : List (Field Span)) (body : Span) → Rows at fs body.start → body.start + body.len ≡ m
    → Ordered at (field_parts fs body) m
in_rows at m [] body r e = omega arith
in_rows at m (x ∷ fs) body (p, q, r) e = (p, (q, in_rows (x.value.start + x.value.len) m fs body r e))

in_fields : (params : Bool) (n at : ℕ) (f : List ℕ) (fs : Fields Span) → n ≤ at → at ≤ length f → Judged params f at fs → Ordered n (fields_parts fs) (length f)
in_fields params n at f bad h l j = omega arith
in_fields params n at f (good fs body) h l j = in_rows n (length f) fs body (rows_from n at fs body.start h j.rows) j.ends

in_start : (k at m : ℕ) (st : Start Span) (fs : Fields Span) → Named k st at → ((n : ℕ) → n ≤ at → Ordered n (fields_parts fs) m)
    → Ordered 0 (parts_of st fs) m
in_start k at m (request p i) fs h o = (zero-le, o (p.start + p.len) h.1)
in_start k at m (response i c r) fs h o = o 0 zero-le
in_start k at m (event p i r) fs h o = (zero-le, o (p.start + p.len) h.1)

pub parts_in_order : (s : List ℕ) (h : Head) (st : Start Span) (fs : Fields Span) → reading s ≡ message h st fs
    → Ordered 0 (parts_of st fs) h.stated × (h.stated ≤ length s) × (h.stated ≤ 16384)
parts_in_order s h st fs e =
    let t = says s h st fs e in
    let n = frame_length_lem s _ _ _ _ t.frame in
    let fits = frame_fits s _ _ _ _ t.frame in (
      in_start t.k t.at h.stated st fs t.named
          (λ a l. rw n at (in_fields (asks_params (take h.stated s) st) a t.at (take h.stated s) fs l (omega arith) t.fields)),
      fits.there,
      fits.most,
    )
