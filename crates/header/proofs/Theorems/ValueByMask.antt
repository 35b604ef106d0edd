-- The value of a name that counts as known stands at the place that is kept for the name, where the mask says that it
-- came.
-- Assumes nothing.
use mathlib.Core.Path.{◌≡◌}
use mathlib.Core.Bool.{Bool, true}
use mathlib.Core.List.{List, map}
use Prim.Native.Nat.{ℕ}
use lib.ListN.{get_or}
use Rattle.message.specs.Message.{Field, part, on_field}
use Rattle.message.specs.Known.{index_of, is_known, once_each, value_of}
use Rattle.message.specs.declared.Span.{Span}
use Rattle.message.specs.declared.Known.{Known}
use Rattle.names.specs.Names.{bit_of, names_in}
use Rattle.header.specs.Header.{nowhere, header_in}
use Rattle.header.specs.Steps.{given_by}
use Rattle.header.specs.declared.Header.{Header}
use Rattle.header.proofs.Values.{given_value}

module _ (params : Bool) (f : List ℕ) (fs : List (Field Span)) (body : Span)
    (once : once_each params (names_in f fs) ≡ true) (k : Known) (known : is_known params k ≡ true) where
  abbrev h : Header
  h = header_in f fs body

  pub value_by_mask : value_of k (map (on_field (part f)) fs)
      ≡ given_by h.mask (bit_of k) (part f (get_or h.values (index_of k) nowhere))
  value_by_mask = given_value f k params known fs once
