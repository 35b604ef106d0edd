-- Settings and their editions: document 02, K5.
use Rattle.std.specs.Prelude.{ℕ, zero, suc, ◌/◌, ◌%◌, Bool, true, false, ◌&&◌, ◌||◌, List, [], ◌∷◌, ◌++◌, map, eqb, leb, ltb, take}
use Rattle.std.proofs.Math.Option.{Option, none, some}
use Rattle.std.specs.Float.{binary32}
use Rattle.std.specs.Float.Ieee.{to_bits}
use Rattle.lists.specs.Lists.{all, keep}
use Rattle.octets.specs.Octets.{bytes, alike}
use Rattle.readers.specs.Words.{is_number, number_of}
use Rattle.writers.specs.Decimal.{digits, three_digits}
use Rattle.message.specs.Message.{Field}
use Rattle.message.specs.Known.{among}
use Rattle.message.specs.declared.Known.{Known}
use Rattle.message.specs.declared.Known.TheVariants.{ChannelIdentifier, ContentLength, KillOnBargeIn, ProxySyncId, LoggingTag, ConfidenceThreshold, FetchTimeout, NoInputTimeout, SensitivityLevel}
use Rattle.answer.specs.declared.Kind.{Kind}
use Rattle.synth.specs.Levels.{quotient, level_in, is_level}
use Rattle.synth.specs.declared.Level.{Level}
use Rattle.synth.specs.declared.Setting.{Setting}
use Rattle.synth.specs.declared.Edition.{Edition}

-- ---- the table of settings

pub data Name : Type 0 where
  kill_on_barge_in fetch_timeout no_input_timeout confidence_threshold sensitivity_level : Name

-- a value is a yes or no, a whole number of milliseconds, or a level
pub data Sort : Type 0 where
  flag millis level : Sort

-- the settings of a kind of channel, in the order in which they are answered
abbrev pub settings : Kind → List Name
settings Kind.Synthesizer = kill_on_barge_in ∷ fetch_timeout ∷ []
settings Kind.Recognizer = no_input_timeout ∷ confidence_threshold ∷ sensitivity_level ∷ []

abbrev pub sort_of : Name → Sort
sort_of kill_on_barge_in = flag
sort_of fetch_timeout = millis
sort_of no_input_timeout = millis
sort_of confidence_threshold = level
sort_of sensitivity_level = level

-- the field that names it
abbrev pub field_of : Name → Known
field_of kill_on_barge_in = KillOnBargeIn
field_of fetch_timeout = FetchTimeout
field_of no_input_timeout = NoInputTimeout
field_of confidence_threshold = ConfidenceThreshold
field_of sensitivity_level = SensitivityLevel

abbrev pub spelling : Name → List ℕ
spelling kill_on_barge_in = bytes "Kill-On-Barge-In"
spelling fetch_timeout = bytes "Fetch-Timeout"
spelling no_input_timeout = bytes "No-Input-Timeout"
spelling confidence_threshold = bytes "Confidence-Threshold"
spelling sensitivity_level = bytes "Sensitivity-Level"

-- its place in an edition
abbrev pub slot : Name → Edition → Setting
slot kill_on_barge_in e = e.kill
slot fetch_timeout e = e.fetch
slot no_input_timeout e = e.silence
slot confidence_threshold e = e.confidence
slot sensitivity_level e = e.sensitivity

-- an edition of these settings, in the order of their names
abbrev pub edition : Setting → Setting → Setting → Setting → Setting → Edition
edition kill fetch silence confidence sensitivity =
    record { kill = kill; fetch = fetch; silence = silence; confidence = confidence; sensitivity = sensitivity }

-- another setting in that place, all else as before
abbrev pub with_slot : Name → Setting → Edition → Edition
with_slot kill_on_barge_in x e = edition x e.fetch e.silence e.confidence e.sensitivity
with_slot fetch_timeout x e = edition e.kill x e.silence e.confidence e.sensitivity
with_slot no_input_timeout x e = edition e.kill e.fetch x e.confidence e.sensitivity
with_slot confidence_threshold x e = edition e.kill e.fetch e.silence x e.sensitivity
with_slot sensitivity_level x e = edition e.kill e.fetch e.silence e.confidence x

-- a fresh channel's edition
abbrev pub unset : Edition
unset = edition Setting.Unset Setting.Unset Setting.Unset Setting.Unset Setting.Unset

-- a setting of this kind, or a field that in document 01 acts everywhere or nowhere
abbrev pub may_stand : Kind → Known → Bool
may_stand kind k =
    among k (map field_of (settings kind)) || among k (ChannelIdentifier ∷ ContentLength ∷ ProxySyncId ∷ LoggingTag ∷ [])

-- ---- values read

-- `true` or `false` in any case
abbrev pub is_flag : List ℕ → Bool
is_flag v = alike v (bytes "true") || alike v (bytes "false")

-- milliseconds: 1 to 19 digits
abbrev pub is_millis : List ℕ → Bool
is_millis v = is_number 19 v

-- a value legal for that setting
abbrev pub is_legal_as : Sort → List ℕ → Bool
is_legal_as flag v = is_flag v
is_legal_as millis v = is_millis v
is_legal_as level v = is_level v

abbrev pub is_legal : Name → List ℕ → Bool
is_legal n v = is_legal_as (sort_of n) v

abbrev pub level_or : Option Level → Setting
level_or none = Setting.Unset
level_or (some l) = Setting.Level l

-- what a legal value sets
abbrev pub setting_as : Sort → List ℕ → Setting
setting_as flag v = Setting.Flag (alike v (bytes "true"))
setting_as millis v = Setting.Millis (number_of v)
setting_as level v = level_or (level_in v)

abbrev pub setting_in : Name → List ℕ → Setting
setting_in n v = setting_as (sort_of n) v

-- ---- values told

-- a point and six digits, from the millionths
abbrev pub level_text : Level → List ℕ
level_text l =
    digits (l.millionths / 1000000) ++ bytes "." ++ three_digits (l.millionths / 1000 % 1000) ++ three_digits
    (l.millionths % 1000)

-- `true` or `false`, numbers without leading zeros, levels with a point and six digits, empty if unset
abbrev pub setting_text : Setting → List ℕ
setting_text Setting.Unset = []
setting_text (Setting.Flag true) = bytes "true"
setting_text (Setting.Flag false) = bytes "false"
setting_text (Setting.Millis n) = digits n
setting_text (Setting.Level l) = level_text l

abbrev pub setting_field : Edition → Name → Field (List ℕ)
setting_field e n = record { name = spelling n; value = setting_text (slot n e) }

-- the settings named, or all where none is, in the order of the answer
abbrev pub or_all : List Name → List Name → List Name
or_all [] own = own
or_all (n ∷ ns) own = n ∷ ns

abbrev pub named : List Known → List Name → List Name
named given own = or_all (keep (λ n. among (field_of n) given) own) own

-- ---- settings that reading can give

-- a level: its single-precision number is that of its millionths, bit for bit
unfoldable pub is_kept : Level → Bool
is_kept l =
    leb l.millionths 1000000
    && eqb (to_bits binary32 l.single) (to_bits binary32 (quotient l.millionths 1000000))

-- unset, or of that sort and what reading can give
abbrev pub kept_as : Sort → Setting → Bool
kept_as sort Setting.Unset = true
kept_as flag (Setting.Flag b) = true
kept_as millis (Setting.Flag b) = false
kept_as level (Setting.Flag b) = false
kept_as flag (Setting.Millis n) = false
kept_as millis (Setting.Millis n) = ltb n 10000000000000000000
kept_as level (Setting.Millis n) = false
kept_as flag (Setting.Level l) = false
kept_as millis (Setting.Level l) = false
kept_as level (Setting.Level l) = is_kept l

abbrev pub kept_for : Name → Setting → Bool
kept_for n x = kept_as (sort_of n) x

abbrev pub is_unset : Setting → Bool
is_unset Setting.Unset = true
is_unset (Setting.Flag b) = false
is_unset (Setting.Millis n) = false
is_unset (Setting.Level l) = false

abbrev pub other_kind : Kind → Kind
other_kind Kind.Synthesizer = Kind.Recognizer
other_kind Kind.Recognizer = Kind.Synthesizer

-- an edition that a channel of that kind can have: the other kind's settings are unset
abbrev pub is_edition_of : Kind → Edition → Bool
is_edition_of kind e =
    all (λ n. kept_for n (slot n e)) (settings kind) && all (λ n. is_unset (slot n e)) (settings (other_kind kind))

-- ---- editions, the newest first

-- the edition of the moment
abbrev pub newest : List Edition → Edition
newest [] = unset
newest (e ∷ es) = e

-- a further one: the newest four are kept
abbrev pub further : Edition → List Edition → List Edition
further e es = take 4 (e ∷ es)

-- the edition of that number, 1 the newest
abbrev pub edition_at : ℕ → List Edition → Option Edition
edition_at n [] = none
edition_at zero (e ∷ es) = none
edition_at (suc zero) (e ∷ es) = some e
edition_at (suc (suc n)) (e ∷ es) = edition_at (suc n) es
