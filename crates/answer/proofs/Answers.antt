-- The fields of answers are fit to be written.
use Prim.Native.Nat.{ℕ, ◌≤◌}
use mathlib.Core.Path.{◌≡◌, refl}
use mathlib.Core.Bool.{true}
use mathlib.Core.Option.{none}
use mathlib.Core.List.{List, [], ◌∷◌}
use lib.Dec.{lit≤}
use lib.ListN.{length}
use Rattle.lists.specs.Lists.{all, All}
use Rattle.octets.specs.Octets.{is_name}
use Rattle.message.specs.Message.{Field}
use Rattle.message.specs.Known.{known_of, once_each, names_of, value_of}
use Rattle.message.specs.declared.Known.TheVariants.{ContentLength}
use Rattle.answer.specs.IdList.{id_list_text}
use Rattle.answer.specs.Answers.{channel_identifier, active_request_id_list, completion_cause}
use Rattle.answer.specs.Writable.{FieldFits}
use Rattle.answer.specs.declared.Kind.{Kind}
use Rattle.answer.proofs.Values.{ValueFits, visible, list_visible}

-- a field with a fixed name
pub field_fits : (f : Field (List ℕ)) → 1 ≤ length f.name → length f.name ≤ 64 → all is_name f.name ≡ true → ValueFits f.value
    → FieldFits f
field_fits f few most names v = record { some = few; most = most; names = names; values = v.values; front = v.front; end = v.end }

pub name_fits_lem : (name : List ℕ) → ValueFits name → FieldFits (channel_identifier name)
name_fits_lem name v = field_fits (channel_identifier name) (lit≤ tt) (lit≤ tt) refl v

pub list_fits : (ids : List ℕ) → All FieldFits (active_request_id_list ids)
list_fits [] = tt
list_fits (i ∷ is) = (field_fits _ (lit≤ tt) (lit≤ tt) refl (visible (id_list_text (i ∷ is)) (list_visible i is)), tt)

pub list_few : (ids : List ℕ) → length (active_request_id_list ids) ≤ 1
list_few [] = lit≤ tt
list_few (i ∷ is) = lit≤ tt

module _ (name : List ℕ) where
  -- no known name comes twice
  pub list_once : (ids : List ℕ) → once_each true (names_of (channel_identifier name ∷ active_request_id_list ids)) ≡ true
  unfolding known_of
  list_once [] = refl
  list_once (i ∷ is) = refl

  pub cause_once : (kind : Kind) (cause : ℕ)
      → once_each true (names_of (channel_identifier name ∷ completion_cause kind cause ∷ [])) ≡ true
  unfolding known_of
  cause_once kind cause = refl

  -- there is no Content-Length, and no body
  pub list_bare : (ids : List ℕ) → value_of ContentLength (channel_identifier name ∷ active_request_id_list ids) ≡ none
  unfolding known_of value_of
  list_bare [] = refl
  list_bare (i ∷ is) = refl

  pub cause_bare : (kind : Kind) (cause : ℕ)
      → value_of ContentLength (channel_identifier name ∷ completion_cause kind cause ∷ []) ≡ none
  unfolding known_of value_of
  cause_bare kind cause = refl
