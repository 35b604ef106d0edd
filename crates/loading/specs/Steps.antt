-- What each step of loading leaves: a part of the channel, or a part longer than any that a sound channel has.
use Rattle.std.specs.Prelude.{ℕ, ◌<◌, ◌≡◌, Bool, true, false, ◌&&◌, List, [], eqb, leb, ltb, length, get_or}
use Rattle.std.proofs.Math.Option.{Option, none, some}
use Rattle.lists.specs.Lists.{all}
use Rattle.answer.specs.declared.Kind.{Kind}
use Rattle.synth.specs.Kinds.{most}
use Rattle.synth.specs.Settings.{Sort, kept_as, is_edition_of}
use Rattle.synth.specs.Channel.{are_editions}
use Rattle.synth.specs.declared.Setting.{Setting}
use Rattle.synth.specs.declared.Edition.{Edition}
use Rattle.channelnumbers.specs.Numbers.{numbers_at, editions_in, is_entry, is_byte}

-- what can be kept
abbrev pub setting_kept : Sort → Option Setting → Bool
setting_kept sort none = false
setting_kept sort (some x) = kept_as sort x

abbrev pub edition_kept : Kind → Option Edition → Bool
edition_kept kind none = false
edition_kept kind (some e) = is_edition_of kind e

abbrev pub editions_kept : Kind → Option (List Edition) → Bool
editions_kept kind none = false
editions_kept kind (some es) = are_editions kind es

-- whether state, last id and count are within their ranges, and the editions those of a channel of that kind
abbrev pub front_fits : Kind → List ℕ → Bool
front_fits kind ws =
    leb (get_or ws 0 0) 4 && leb (get_or ws 1 0) 4294967296 && leb (get_or ws 2 0) (most kind)
    && editions_kept kind (editions_in kind ws)

-- and so are the entries
abbrev pub entries_fit : Kind → List ℕ → Bool
entries_fit kind ws = front_fits kind ws && all is_entry (numbers_at 4 (get_or ws 2 0) ws)

-- whether n thresholds of a recognizer are
abbrev pub levels_fit : ℕ → List ℕ → Bool
levels_fit n ws = all (λ m. ltb m 1000001) (numbers_at 12 n ws)

abbrev pub queue_fits : Kind → List ℕ → Bool
queue_fits Kind.Synthesizer ws = entries_fit Kind.Synthesizer ws
queue_fits Kind.Recognizer ws = entries_fit Kind.Recognizer ws && levels_fit (get_or ws 2 0) ws

-- whether the size and the bytes of the name are within their ranges
abbrev pub name_fits : List ℕ → Bool
name_fits ws = leb (get_or ws 3 0) 44 && all is_byte (numbers_at 20 (get_or ws 3 0) ws)

-- a sort and a value of a setting that is unset, or is of sort `own` with a value below `end`
abbrev pub is_own : ℕ → ℕ → ℕ → ℕ → Bool
is_own own end sort value = elim (eqb sort own) [ true ↦ ltb value end | false ↦ eqb sort 0 ]

-- the setting that is read where it can be kept
abbrev pub Read : Option Setting → Setting → Type 0
Read o x = (sort : Sort) → setting_kept sort o ≡ true → o ≡ some x

abbrev pub or_none : Option (List Edition) → List Edition
or_none none = []
or_none (some es) = es

-- what is loaded of a part: what its numbers say where they fit, and more than `most` where not
pub record LoadsPart {A : Type 0} (fits : Bool) (said : List A) (most : ℕ) (loaded : List A) : Type 0 where
  pub fit : fits ≡ true → loaded ≡ said
  pub unfit : fits ≡ false → most < length loaded
