-- Every answer and every event of a well named channel is writable, so that reading gives it back; and the ids that an answer lists
-- are found in it.
-- Assumes nothing.
use Prim.Native.Nat.{ℕ, ◌≤◌, ◌<◌}
use native.Mathlib.Omega.{arith}
use mathlib.Core.Path.{◌≡◌, refl}
use mathlib.Core.Bool.{true}
use mathlib.Core.Option.{none, some}
use mathlib.Core.List.{List, [], ◌∷◌}
use lib.Dec.{lit≤}
use lib.ListN.{length}
use Rattle.lists.specs.Lists.{all, run, All}
use Rattle.octets.specs.Octets.{is_value, is_blank}
use native.Mathlib.Nat.{le_trans}
use Rattle.message.specs.StartLines.{is_method_name}
use Rattle.message.specs.Fields.{trim_end}
use Rattle.message.specs.Message.{Field}
use Rattle.message.specs.Known.{known_of, once_each, names_of, value_of}
use Rattle.message.specs.declared.Known.TheVariants.{ContentLength, ActiveRequestIdList}
use Rattle.message.specs.declared.RequestState.{RequestState}
use Rattle.answer.specs.IdList.{id_list_text}
use Rattle.answer.specs.Written.{fields_text}
use Rattle.answer.specs.Answers.{channel_identifier, event_name, completion_cause, response, telling, complete}
use Rattle.answer.specs.declared.Kind.{Kind}
use Rattle.answer.specs.Writable.{FieldFits, Writable}
use Rattle.answer.proofs.Values.{ValueFits, cause_most_lem, CauseFits}
use Rattle.answer.proofs.Answers.{field_fits, name_fits_lem, list_fits, list_few, list_once, cause_once, list_bare, cause_bare}
use Rattle.answer.proofs.Sizes.{state_most, list_most, response_size, telling_size, event_most, complete_size}

-- what of a channel's name matters to writing
pub record NameFits (name : List ℕ) : Type 0 where
  pub some : 1 ≤ length name
  pub most : length name ≤ 44
  pub values : all is_value name ≡ true
  pub front : run is_blank name ≡ 0
  pub end : trim_end name ≡ name

value_fits : (name : List ℕ) → NameFits name → ValueFits name
value_fits name n = record { values = n.values; front = n.front; end = n.end }

pub response_writable : (name : List ℕ) (id status : ℕ) (state : RequestState) (ids : List ℕ) → NameFits name → id < 4294967296 → status < 1000
    → length ids ≤ 16 → All (λ i. i < 4294967296) ids → Writable (response name id status state ids)
unfolding response
response_writable name id status state ids n i s l a = record {
  start = (i, s);
  few = omega (arith, list_few ids);
  fields = (name_fits_lem name (value_fits name n), list_fits ids);
  once = list_once name ids;
  length_agrees = rw (list_bare name ids);
  fits = omega (arith, response_size name id status state ids n.most i (list_most ids l a), state_most state, list_most ids l a);
}

-- what of the fields that an answer tells matters to writing
pub record Told (name : List ℕ) (fs : List (Field (List ℕ))) : Type 0 where
  pub few : length fs ≤ 31
  pub fields : All FieldFits fs
  pub once : once_each true (names_of (channel_identifier name ∷ fs)) ≡ true
  pub bare : value_of ContentLength (channel_identifier name ∷ fs) ≡ none
  pub short : length (fields_text fs) ≤ 200

pub telling_writable : (name : List ℕ) (id status : ℕ) (fs : List (Field (List ℕ))) → NameFits name → id < 4294967296
    → status < 1000 → Told name fs → Writable (telling name id status fs)
unfolding telling
telling_writable name id status fs n i s t = record {
  start = (i, s);
  few = omega (arith, t.few);
  fields = (name_fits_lem name (value_fits name n), t.fields);
  once = t.once;
  length_agrees = rw t.bare;
  fits = omega (arith, telling_size name id status fs n.most i t.short, t.short);
}

event_named : (kind : Kind) → is_method_name (event_name kind) ≡ true
event_named Kind.Synthesizer = refl
event_named Kind.Recognizer = refl

pub complete_writable : (kind : Kind) (name : List ℕ) (id cause : ℕ) → NameFits name → id < 4294967296
    → CauseFits kind cause
    → Writable (complete kind name id cause)
unfolding complete
complete_writable kind name id cause n i c = record {
  start = (event_named kind, i);
  few = lit≤ tt;
  fields =
      (name_fits_lem name (value_fits name n), (field_fits (completion_cause kind cause) (lit≤ tt) (lit≤ tt) refl c.value, tt));
  once = cause_once name kind cause;
  length_agrees = rw (cause_bare name kind cause);
  fits =
      omega (
        arith,
        complete_size kind name id cause n.most i (le_trans c.most (cause_most_lem kind)),
        c.most,
        cause_most_lem kind,
        event_most kind,
      );
}

module _ (name : List ℕ) (id status : ℕ) (state : RequestState) where
  pub no_list : value_of ActiveRequestIdList (response name id status state []).fields ≡ none
  unfolding response value_of known_of
  no_list = refl

  pub the_list : (i : ℕ) (is : List ℕ) → value_of ActiveRequestIdList (response name id status state (i ∷ is)).fields ≡ some (id_list_text (i ∷ is))
  unfolding response value_of known_of
  the_list i is = refl
