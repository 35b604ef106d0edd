-- What the loop over the lines keeps, one law for each way that its turn can go.
-- Assumes nothing.
use mathlib.Core.Path.{◌≡◌, refl, sym, ap, ap₂, subst, ◌∙◌}
use mathlib.Core.Bool.{Bool, true, false, not, ◌&&◌}
use mathlib.Core.List.{List, [], ◌∷◌, ◌++◌, map}
use Prim.Native.Nat.{ℕ, ◌+◌, ◌-◌, ◌<◌, ◌≤◌}
use native.Mathlib.Omega.{arith}
use lib.Bits.{bit_and, bit_or}
use lib.Dec.{eqb, ltb}
use lib.ListN.{length, get_or, drop, set, replicate, length-append}
use borrow.Author.Tests.{ltb-true, ltb-false, not-true, not-false}
use Rattle.lists.proofs.Tests.{both}
use Rattle.std.specs.Prelude.{Option, Some, None}
use Rattle.message.specs.Message as M
use Rattle.message.specs.Message.{Fields, bad, good, part, on_field}
use Rattle.message.specs.Fields as F
use Rattle.message.specs.Fields.{empty, field, Lines, lines, field_line, field_lines}
use Rattle.message.specs.Known.{known_of, index_of, is_known, among, once_each, value_of}
use Rattle.message.specs.Reading.{agrees, judged, fields_from}
use Rattle.message.specs.declared.Span.{Span}
use Rattle.message.specs.declared.Known.{Known}
use Rattle.message.specs.declared.Known.TheVariants.{ContentLength}
use Rattle.message.proofs.Rows.{Laid, laid}
use Rattle.names.specs.Names.{bit_of, mask_with, names_in}
use Rattle.header.specs.Header.{nowhere, values_in, header_of, kept_in, Kept}
use Rattle.names.specs.Steps.{known_bit}
use Rattle.header.specs.Steps.{step_of, given_by, kept_at}
use Rattle.fieldlines.specs.declared.Field.{Field}
use Rattle.header.specs.declared.Step.{Step}
use Rattle.header.specs.declared.Header.{Header}
use Rattle.names.proofs.Marks.{mask_last, mask_test, once_last}
use Rattle.header.proofs.Values.{as_field, given_value}
use Rattle.header.proofs.Places.{kept_length, kept_more}
use Rattle.header.proofs.Gathering.{front, lines_malformed, lines_empty, lines_full, lines_field, lines_more}
use Rattle.header.proofs.Stepping.{Comes, Spoils, Steps, steps}
use Rattle.header.proofs.Gathering.{names_append, judged_twice, judged_by_lem}

-- the fields `so` are those of the lines from `at` to i, mask and values are those of their names, of which none that
-- counts as known came twice, and their numbers stand in those that were lent
pub record Onward (params : Bool) (f : List ℕ) (at : ℕ) (lent : List ℕ) (h : Header) (places : List ℕ) (i : ℕ) : Type 0 where
  pub so : List (M.Field Span)
  pub counted : h.count ≡ length so
  pub few : h.count ≤ 32
  pub all : field_lines 32 f at ≡ front so (field_lines (32 - h.count) f i)
  pub once : once_each params (names_in f so) ≡ true
  pub bits : h.mask ≡ mask_with 0 (names_in f so)
  pub values : h.values ≡ values_in f so (replicate 16 nowhere)
  pub kept : places ≡ kept_in lent so

-- the header so far
abbrev pub so_far : ℕ → ℕ → List Span → Header
so_far n mask values = record { count = n; mask = mask; body = nowhere; values = values }

-- what is promised of the header r and the lent numbers as they are left
abbrev pub Answers : List ℕ → List ℕ → Option Header → List ℕ → Fields Span → Type 0
Answers f lent r places x = (r ≡ header_of f x) × Kept lent x places

abbrev pub Reads : Bool → List ℕ → ℕ → List ℕ → Option Header → List ℕ → Type 0
Reads params f at lent r places = Answers f lent r places (fields_from params f at)

values_last : (f : List ℕ) (fs : List (M.Field Span)) (x : M.Field Span) (w : List Span)
    → values_in f (fs ++ x ∷ []) w ≡ set (values_in f fs w) (index_of (known_of (part f x.name))) x.value
values_last f [] x w = refl
values_last f (y ∷ fs) x w = values_last f fs x (set w (index_of (known_of (part f y.name))) y.value)

module _ {params : Bool} {f : List ℕ} {at : ℕ} {lent : List ℕ} {h : Header} {places : List ℕ} {i : ℕ}
    (o : Onward params f at lent h places i) where
  abbrev so : List (M.Field Span)
  so = o.so

  pub places_size : length places ≡ length lent
  places_size = ap length o.kept ∙ kept_length lent so

  answer : (t : Lines) → field_lines 32 f at ≡ t → judged params f t ≡ bad → Reads params f at lent None places
  unfolding fields_from
  answer t e z = subst (Answers f lent None places) (sym z ∙ ap (judged params f) (sym e)) (refl, places_size)

  by_bit : (k : Known) (t : Bool) → eqb (bit_and h.mask (known_bit params k)) 0 ≡ t
      → not (is_known params k && among k (names_in f so)) ≡ t
  by_bit k t z = sym (mask_test params (names_in f so) k) ∙ ap (λ m. eqb (bit_and m (known_bit params k)) 0) (sym o.bits) ∙ z

  -- a line that fails judgement 2: it is malformed, or a field too many, or its known name came already
  bad_twice : (x : M.Field Span) (next : ℕ) → field_line i (drop i f) ≡ field x next → h.count < 32
      → eqb (bit_and h.mask (known_bit params (known_of (part f x.name)))) 0 ≡ false → Reads params f at lent None places
  bad_twice x next q l z =
      let k = known_of (part f x.name) in
      let came = not-false (is_known params k && among k (names_in f so)) (by_bit k false z) in
      answer _ (o.all ∙ lines_field f i x next q so (32 - h.count) (omega arith))
      (judged_twice params f so x came (field_lines (32 - h.count - 1) f next))

  bad_come : (x : M.Field Span) (next : ℕ) → field_line i (drop i f) ≡ field x next → (t : Bool) → ltb h.count 32 ≡ t
      → (t && eqb (bit_and h.mask (known_bit params (known_of (part f x.name)))) 0) ≡ false
      → Reads params f at lent None places
  bad_come x next q true l m = bad_twice x next q (ltb-true h.count 32 l) m
  bad_come x next q false l m =
      answer Lines.malformed
      (o.all ∙ lines_full f i x next q so (32 - h.count) (omega (arith, ltb-false h.count 32 l))) refl

  bad_line : (l : F.Line) → field_line i (drop i f) ≡ l → Spoils params h.count h.mask f l
      → Reads params f at lent None places
  bad_line F.Line.malformed q e = answer Lines.malformed (o.all ∙ lines_malformed f i so (32 - h.count) q) refl
  bad_line (empty b) q e = absurd e
  bad_line (field x next) q e = bad_come x next q (ltb h.count 32) refl e

  module _ (r : Option Step) (e : r ≡ step_of params h.count h.mask f (field_line i (drop i f))) where
    by_step : (s : Option Step) → r ≡ s → Steps params h.count h.mask f (field_line i (drop i f)) s
    by_step s q =
        subst (Steps params h.count h.mask f (field_line i (drop i f))) (sym e ∙ q)
        (steps params h.count h.mask f (field_line i (drop i f)))

    pub bad_step : r ≡ None → Reads params f at lent None places
    bad_step q = bad_line (field_line i (drop i f)) refl (by_step None q)

    module _ (x : Field) (k : Known) (next : ℕ) (q : r ≡ Some (Step.Field x k next)) where
      comes : Comes params h.count h.mask f (field_line i (drop i f)) x k next
      comes = by_step (Some (Step.Field x k next)) q

      pub has_room : h.count < 32
      has_room = ltb-true h.count 32
          (both (ltb h.count 32) (eqb (bit_and h.mask (known_bit params k)) 0) comes.may).0

      pub step_on : (b : ℕ) → b ≡ bit_of k → (j : ℕ) → j ≡ index_of k → (out : List ℕ) → out ≡ kept_at h.count x places
          → Onward params f at lent (so_far (h.count + 1) (bit_or h.mask b) (set h.values j x.value)) out next
      step_on b eb j ej out eo =
          let more : List (M.Field Span) = so ++ as_field x ∷ [] in
          let names : names_in f more ≡ names_in f so ++ k ∷ [] =
          names_append f so (as_field x) [] ∙ ap (λ k. names_in f so ++ k ∷ []) (sym comes.with_name) in
          let clear = (both (ltb h.count 32) (eqb (bit_and h.mask (known_bit params k)) 0) comes.may).1 in
          let fresh = not-true (is_known params k && among k (names_in f so)) (by_bit k true clear) in
          let left : 32 - h.count - 1 ≡ 32 - (h.count + 1) = omega arith in
          record {
            so = more;
            counted = omega (arith, o.counted, length-append so (as_field x ∷ []));
            few = omega (arith, has_room);
            all = o.all ∙ lines_more f i (as_field x) next comes.at_line so (32 - h.count) (omega (arith, has_room))
                ∙ ap (λ m. front more (field_lines m f next)) left;
            once = ap (once_each params) names ∙ once_last params k (names_in f so) o.once fresh;
            bits = ap₂ bit_or o.bits eb ∙ sym (mask_last 0 (names_in f so) k) ∙ ap (mask_with 0) (sym names);
            values = ap₂ (λ w j. set w j x.value) o.values (ej ∙ ap index_of comes.with_name)
                ∙ sym (values_last f so (as_field x) (replicate 16 nowhere));
            kept = eo ∙ ap₂ (λ (n : ℕ) (out : List ℕ). kept_at n x out) o.counted o.kept ∙ kept_more lent so x;
          }

    module _ (b : ℕ) (q : r ≡ Some (Step.End b)) where
      ended : field_lines 32 f at ≡ lines so b
      ended = o.all ∙ lines_empty f i so (32 - h.count) b (by_step (Some (Step.End b)) q)

      pub body_inside : b ≤ length f
      body_inside = (subst (Laid 32 at (length f)) ended (laid 32 f at)).1

  -- Content-Length, by mask and values
  abbrev stated : List ℕ
  stated = part f (get_or h.values 1 nowhere)

  given_length : value_of ContentLength (map (on_field (part f)) so) ≡ given_by h.mask 2 stated
  given_length =
      given_value f ContentLength params refl so o.once
      ∙ (λ z. given_by (sym o.bits z) 2 (part f (get_or (sym o.values z) 1 nowhere)))

  module _ (r : Option Step) (e : r ≡ step_of params h.count h.mask f (field_line i (drop i f))) (b : ℕ)
      (q : r ≡ Some (Step.End b)) where
    abbrev body : Span
    body = record { start = b; len = length f - b }

    -- the header, with this body
    abbrev pub told : Option Header
    told = Some (record { count = h.count; mask = h.mask; body = body; values = h.values })

    abbrev judged_by : Bool → Fields Span
    judged_by t = elim t [ true ↦ good so body | false ↦ bad ]

    by_length : (t : Bool) → t ≡ agrees (given_by h.mask 2 stated) (length f - b) → judged_by t ≡ fields_from params f at
    unfolding fields_from
    by_length t m =
        sym (judged_by_lem params f so b o.once t (ap (λ v. agrees v (length f - b)) given_length ∙ sym m))
        ∙ ap (judged params f) (sym (ended r e b q))

    pub bad_length : false ≡ agrees (given_by h.mask 2 stated) (length f - b) → Reads params f at lent None places
    bad_length m = subst (Answers f lent None places) (by_length false m) (refl, places_size)

    pub good_length : true ≡ agrees (given_by h.mask 2 stated) (length f - b)
        → Reads params f at lent told places
    good_length m = subst (Answers f lent _ places) (by_length true m) (same, o.kept)
      where
        same : told ≡ header_of f (good so body)
        same = λ z. Some (record { count = o.counted z; mask = o.bits z; body = body; values = o.values z })
