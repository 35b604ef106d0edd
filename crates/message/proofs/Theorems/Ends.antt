-- The value of a field, as it is handed back: its ends are cut alike before and after joining; no space, tab, CR or LF
-- is left at them; and as joined it has value bytes only.
-- Assumes nothing.
use Prim.Native.Nat.{ℕ}
use mathlib.Core.Path.{◌≡◌, ap, ◌∙◌}
use mathlib.Core.Bool.{true}
use mathlib.Core.List.{List, [], ◌∷◌, ◌++◌, map}
use lib.ListN.{take, drop}
use Rattle.lists.specs.Lists.{all, All}
use Rattle.octets.specs.Octets.{is_value, is_blank}
use Rattle.message.specs.Message.{Start, Field, good, Head, message, part, on_field}
use Rattle.message.specs.Folds.{joined}
use Rattle.message.specs.Fields.{trimmed}
use Rattle.message.specs.Reading.{reading}
use Rattle.message.specs.declared.Span.{Span}
use Rattle.message.proofs.Says.{says}
use Rattle.message.proofs.Trimming.{trim_by, joined_trimmed}
use Rattle.message.proofs.Values.{Bare, part_trimmed}
use Rattle.message.proofs.Theorems.Judgement2.{texts}

-- the part that is handed back, joined, is the joined value without the blanks at its ends
pub ends_alike : (s : List ℕ) (at : ℕ) (v rest : List ℕ) → drop at s ≡ v ++ rest → all is_value (joined v) ≡ true
    → joined (part s (trimmed at v)) ≡ trim_by is_blank (joined v)
ends_alike s at v rest e h = ap joined (part_trimmed s at v rest e) ∙ joined_trimmed v h

-- of all fields of a message
pub bare_values : (s : List ℕ) (h : Head) (st : Start Span) (fs : List (Field Span)) (body : Span)
    → reading s ≡ message h st (good fs body)
    → All (λ (f : Field (List ℕ)). Bare f.value) (map (on_field (part s)) fs)
bare_values s h st fs body e =
    rw (← texts s h st fs body e) (mapped fs (says s h st (good fs body) e).fields.values)
  where
    mapped : (fs : List (Field Span)) → All (λ (f : Field Span). Bare (part (take h.stated s) f.value)) fs
        → All (λ (f : Field (List ℕ)). Bare f.value) (map (on_field (part (take h.stated s))) fs)
    mapped [] b = tt
    mapped (f ∷ fs) (b, c) = (b, mapped fs c)
