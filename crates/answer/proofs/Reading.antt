-- A writable message, written at the front of lent bytes, reads as the places of its parts, and its parts stand there.
use Prim.Native.Nat.{ℕ, ◌+◌, ◌-◌}
use mathlib.Core.Path.{◌≡◌, refl, sym, ap, ◌∙◌}
use mathlib.Core.Bool.{Bool, true, false, ◌&&◌, ◌||◌, not, or-true}
use mathlib.Core.List.{List, [], ◌∷◌, ◌++◌, map, append-nil}
use lib.Dec.{leb}
use lib.ListN.{length, drop, length-drop}
use lib.Seq.{take-append_seam}
use Rattle.lists.proofs.Tests.{both}
use Rattle.framing.specs.Framing.{opening, framing}
use Rattle.message.specs.Message.{Field, good, Head, refused, message, Message, part, on_field, on_reading}
use Rattle.message.specs.Fields.{lines}
use Rattle.message.specs.Known.{index_of, is, is_known, among, once_each, names_of, value_of}
use Rattle.message.specs.Reading.{agrees, asks_params, judged, fields_from, read_framed, reading, read_bytes}
use Rattle.message.specs.declared.Span.{Span}
use Rattle.message.specs.declared.Known.{Known}
use Rattle.message.specs.declared.Known.TheVariants.{ContentLength, Unknown}
use Rattle.message.proofs.Theorems.JudgedAlike.{lengths_alike}
use Rattle.answer.specs.Written.{start_text, fields_text, written}
use Rattle.answer.specs.Writable.{Writable}
use Rattle.answer.proofs.Places.{past, part_of, start_places, start_back, fields_places, fields_back}
use Rattle.answer.proofs.StartLines.{start_read}
use Rattle.answer.proofs.FieldLines.{fields_read}
use Rattle.answer.proofs.Frames.{opens, follows, opened, frame}

-- where no bytes are there, more are needed
pub nothing_read : read_bytes [] ≡ refused 1 0
unfolding read_bytes reading framing opening
nothing_read = refl

-- where no setting's name comes twice, none does that counts, whatever the method
once_first : (low known came : Bool) → not ((true && known) && came) ≡ true → not (((low || false) && known) && came) ≡ true
once_first true known came e = e
once_first false known came e = refl

once_any : (params : Bool) (ks : List Known) → once_each true ks ≡ true → once_each params ks ≡ true
once_any true ks e = e
once_any false [] e = refl
once_any false (k ∷ ks) e =
    let (first, rest) = both (not (is_known true k && among k ks)) (once_each true ks) e in
    rw (once_first (leb (index_of k) 8) (not (is k Unknown)) (among k ks) (rw or-true at first)) (once_any false ks rest)

-- judgement 2 passes what keeps its rules
judged_good : (params : Bool) (f : List ℕ) (fs : List (Field Span)) (b : ℕ) (texts : List (Field (List ℕ))) (n : ℕ)
    → map (on_field (part f)) fs ≡ texts → length f - b ≡ n → once_each params (names_of texts) ≡ true → agrees (value_of ContentLength texts) n ≡ true
    → judged params f (lines fs b) ≡ good fs (record { start = b; len = n })
judged_good params f fs b texts n e l once fits =
    rw (e, l, once, lengths_alike (value_of ContentLength texts) n ∙ fits, judged) (rw l)

module _ (m : Message) where
  -- where the fields begin, and the body
  abbrev fields_at : ℕ
  fields_at = opens m + length (start_text m.start) + 2

  abbrev body_at : ℕ
  body_at = fields_at + length (fields_text m.fields) + 2

  -- what stands there in the frame, and in the lent bytes
  module _ (s rest : List ℕ) (e : drop (opens m) s ≡ follows m rest) where
    at_fields : drop fields_at s ≡ fields_text m.fields ++ 13 ∷ 10 ∷ (m.body ++ rest)
    at_fields = past s (opens m + length (start_text m.start)) (13 ∷ 10 ∷ []) _ (past s (opens m) (start_text m.start) _ e)

    at_body : drop body_at s ≡ m.body ++ rest
    at_body = past s (fields_at + length (fields_text m.fields)) (13 ∷ 10 ∷ []) _ (past s fields_at (fields_text m.fields) _ at_fields)

  alone : drop (opens m) (written m) ≡ follows m []
  alone = ap (drop (opens m)) (sym (append-nil (written m))) ∙ opened m []

  body_length : length (written m) - body_at ≡ length m.body
  body_length = sym (length-drop body_at (written m)) ∙ ap length (at_body (written m) [] alone ∙ append-nil m.body)

  abbrev body_place : Span
  body_place = record { start = body_at; len = length m.body }

  fields_from_lem : (params : Bool) → Writable m → fields_from params (written m) fields_at ≡ good (fields_places fields_at m.fields) body_place
  unfolding fields_from
  fields_from_lem params w =
      let e = at_fields (written m) [] alone in
      ap (judged params (written m)) (fields_read 32 (written m) fields_at m.fields (m.body ++ []) w.few w.fields e)
      ∙ judged_good params (written m) (fields_places fields_at m.fields) body_at m.fields (length m.body)
      (fields_back (written m) fields_at m.fields _ e) body_length (once_any params (names_of m.fields) w.once) w.length_agrees

  abbrev pub head : Head
  head = record { stated = length (written m); major = 2; minor = 0 }

  read_places : (rest : List ℕ) → Writable m
      → reading (written m ++ rest) ≡ message head (start_places (opens m) m.start) (good (fields_places fields_at m.fields) body_place)
  unfolding reading
  read_places rest w =
      ap (read_framed (written m ++ rest)) (frame m rest w.fits)
      ∙ rw (take-append_seam (written m) rest, start_read (written m) (opens m) m.start _ w.start alone, fields_from_lem (asks_params (written m) (start_places (opens m) m.start)) w)

  pub parts_stand : (rest : List ℕ) → Writable m → read_bytes (written m ++ rest) ≡ message head m.start (good m.fields m.body)
  unfolding read_bytes
  parts_stand rest w =
      let s : List ℕ = written m ++ rest in
      let start = start_back s (opens m) m.start _ (opened m rest) in
      let fields = fields_back s fields_at m.fields _ (at_fields s rest (opened m rest)) in
      let body = part_of s body_at m.body rest (at_body s rest (opened m rest)) in
      ap (on_reading (part s)) (read_places rest w) ∙ λ i. message head (start i) (good (fields i) (body i))
