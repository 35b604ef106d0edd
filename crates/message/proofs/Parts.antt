-- A part that lies in the first n bytes is the same part of those bytes alone; and so are all parts of a message that was read.
-- Assumes nothing.
use mathlib.Core.Path.{◌≡◌, refl, ap, ap₂}
use mathlib.Core.Bool.{Bool}
use mathlib.Core.List.{List, [], ◌∷◌, map}
use Prim.Native.Nat.{ℕ, zero, suc, ◌+◌, ◌≤◌}
use native.Mathlib.Omega.{arith}
use lib.ListN.{length, take, drop}
use lib.Seq.{take-take}
use Rattle.framing.specs.Framing.{framing, frame_length}
use Rattle.message.specs.Message.{Start, request, response, event, Field, Fields, bad, good, Reading, refused, message}
use Rattle.message.specs.Message.{part, on_start, on_field, on_fields, on_reading}
use Rattle.message.specs.declared.Span.{Span}
use Rattle.message.proofs.StartLine.{Named}
use Rattle.message.proofs.Rows.{Rows, rows_end}
use Rattle.message.specs.Reading.{asks_params}
use Rattle.message.proofs.Says.{Judged, Told, frame_length_lem}

take_within : (at m n : ℕ) (s : List ℕ) → at + m ≤ n → take m (drop at (take n s)) ≡ take m (drop at s)
take_within zero m n s h = take-take m n s (omega arith)
take_within (suc at) m zero s h = absurd (omega arith)
take_within (suc at) m (suc n) [] h = refl
take_within (suc at) m (suc n) (x ∷ s) h = take_within at m n s (omega arith)

pub part_within : (n : ℕ) (s : List ℕ) (p : Span) → p.start + p.len ≤ n → part (take n s) p ≡ part s p
part_within n s p h = take_within p.start p.len n s h

-- all parts of a message that was read lie in its frame
module _ (n : ℕ) (s : List ℕ) where
  pub rows_within : (at : ℕ) (fs : List (Field Span)) (b : ℕ) → Rows at fs b → b ≤ n → map (on_field (part (take n s))) fs ≡ map (on_field (part s)) fs
  rows_within at [] b r l = refl
  rows_within at (x ∷ fs) b (p, q, r) l =
      let e = rows_end (x.value.start + x.value.len) fs b r in
      ap₂ ◌∷◌ (field_same (part_within n s x.name (omega arith)) (part_within n s x.value (omega arith)))
      (rows_within (x.value.start + x.value.len) fs b r l)
    where
      field_same : part (take n s) x.name ≡ part s x.name → part (take n s) x.value ≡ part s x.value
          → on_field (part (take n s)) x ≡ on_field (part s) x
      field_same e f = λ i. record { name = e i; value = f i }

  start_within : (k at : ℕ) (st : Start Span) → Named k st at → at ≤ n → on_start (part (take n s)) st ≡ on_start (part s) st
  start_within k at (request p i) h l = ap (λ m. request m i) (part_within n s p (omega arith))
  start_within k at (response i c r) h l = refl
  start_within k at (event p i r) h l = ap (λ m. event m i r) (part_within n s p (omega arith))

  fields_within : (params : Bool) (at : ℕ) (fs : Fields Span) → length (take n s) ≡ n → Judged params (take n s) at fs → on_fields (part (take n s)) fs ≡ on_fields (part s) fs
  fields_within params at bad e h = refl
  fields_within params at (good fs b) e h =
      ap₂ good (rows_within at fs b.start h.rows (omega (arith, h.ends))) (part_within n s b (omega (arith, h.ends)))

pub reading_within : (s : List ℕ) (r : Reading Span) → Told s r → on_reading (part (take (frame_length (framing s)) s)) r ≡ on_reading (part s) r
reading_within s (refused j c) h = refl
reading_within s (message h st fs) t =
    let e = t.frame in
    rw (ap frame_length e) (ap₂ (message h) (start_within h.stated s t.k t.at st t.named t.inside)
    (fields_within h.stated s (asks_params (take h.stated s) st) t.at fs (frame_length_lem s _ _ _ _ e) t.fields))
