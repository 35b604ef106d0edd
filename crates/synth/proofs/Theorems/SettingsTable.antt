-- Levels, settings and editions, by table: the rows stand on the definitions alone. Assumes nothing.
use Prim.Native.Nat.{ℕ}
use Prim.Native.String.{String}
use mathlib.Core.Path.{◌≡◌, refl}
use mathlib.Core.Bool.{Bool, true, false}
use mathlib.Core.Option.{Option, none, some}
use mathlib.Core.List.{List, [], ◌∷◌, ◌++◌, map}
use lib.Ieee.{binary32, div, of_int, round, units, odd, size, climb, span, to_bits, of_bits}
use lib.ListN.{length}
use Rattle.octets.specs.Octets.{bytes}
use Rattle.writers.specs.Decimal.{digits, digits_within, three_digits}
use Rattle.answer.specs.declared.Kind.{Kind}
use Rattle.synth.specs.Levels.{quotient, level_in}
use Rattle.synth.specs.Settings.{Name, kill_on_barge_in, fetch_timeout, no_input_timeout, confidence_threshold, sensitivity_level, settings, spelling, slot, edition, with_slot, unset, is_legal, setting_in, level_text, setting_text, is_kept, kept_for, is_edition_of, further, edition_at}
use Rattle.synth.specs.declared.Level.{Level}
use Rattle.synth.specs.declared.Setting.{Setting}
use Rattle.synth.specs.declared.Edition.{Edition}

-- ---- levels

-- millionths and bits: two floats that are not evaluated cannot be compared
pub record Row : Type 0 where
  pub millionths : ℕ
  pub bits : ℕ

abbrev row : Option Level → Option Row
row none = none
row (some l) = some (record { millionths = l.millionths; bits = to_bits binary32 l.single })

abbrev is : ℕ → ℕ → Option Row
is millionths bits = some (record { millionths = millionths; bits = bits })

pub spellings :
    map (λ (text : String). row (level_in (bytes text)))
    ("0" ∷ "0.5" ∷ "0.50" ∷ "0.500000" ∷ "0.1" ∷ "0.000001" ∷ "1" ∷ "1.000" ∷ "1.000001" ∷ "2" ∷ "0." ∷ "" ∷ [])
    ≡ is 0 0
    ∷ is 500000 1056964608
    ∷ is 500000 1056964608
    ∷ is 500000 1056964608
    ∷ is 100000 1036831949
    ∷ is 1 897988541
    ∷ is 1000000 1065353216
    ∷ is 1000000 1065353216
    ∷ none
    ∷ none
    ∷ none
    ∷ none
    ∷ []
unfolding level_in quotient div of_int round units odd size climb span to_bits
spellings = refl

-- a level of these millionths and bits
abbrev held : ℕ → ℕ → Level
held millionths bits = record { millionths = millionths; single = of_bits binary32 bits }

-- the text is that of the millionths, whatever the bits
pub level_texts :
    map level_text (held 0 0 ∷ held 1 897988541 ∷ held 500000 1056964608 ∷ held 999999 0 ∷ held 1000000 0 ∷ [])
    ≡ bytes "0.000000" ∷ bytes "0.000001" ∷ bytes "0.500000" ∷ bytes "0.999999" ∷ bytes "1.000000" ∷ []
unfolding digits digits_within three_digits
level_texts = refl

pub kept_levels :
    is_kept (held 0 0)
    ∷ is_kept (held 500000 1056964608)
    ∷ is_kept (held 1000000 1065353216)
    ∷ is_kept (held 500000 1056964609)  -- the next number above
    ∷ is_kept (held 500001 1056964608)  -- that of other millionths
    ∷ is_kept (held 0 2147483648)  -- -0
    ∷ is_kept (held 0 2143289344)  -- no number
    ∷ is_kept (held 1000000 2139095040)  -- infinity
    ∷ is_kept (held 2000000 1073741824)  -- two
    ∷ is_kept (held 1000001 1065353224)  -- one millionth above one
    ∷ []
    ≡ true ∷ true ∷ true ∷ false ∷ false ∷ false ∷ false ∷ false ∷ false ∷ false ∷ []
unfolding is_kept quotient div of_int round units odd size climb span to_bits of_bits
kept_levels = refl

-- ---- settings

-- in the order in which they are answered
pub names :
    map spelling (settings Kind.Synthesizer) ∷ map spelling (settings Kind.Recognizer) ∷ []
    ≡ map bytes ("Kill-On-Barge-In" ∷ "Fetch-Timeout" ∷ [])
    ∷ map bytes ("No-Input-Timeout" ∷ "Confidence-Threshold" ∷ "Sensitivity-Level" ∷ [])
    ∷ []
names = refl

abbrev pub every : List Name
every = kill_on_barge_in ∷ fetch_timeout ∷ no_input_timeout ∷ confidence_threshold ∷ sensitivity_level ∷ []

-- under which names the text is legal
abbrev legal : String → List Bool
legal text = map (λ (n : Name). is_legal n (bytes text)) every

pub legal_values :
    map legal ("true" ∷ "FALSE" ∷ "" ∷ "1" ∷ "7" ∷ "0.5" ∷ "9999999999999999999" ∷ "09999999999999999999" ∷ "-1" ∷ [])
    ≡ (true ∷ false ∷ false ∷ false ∷ false ∷ [])
    ∷ (true ∷ false ∷ false ∷ false ∷ false ∷ [])
    ∷ (false ∷ false ∷ false ∷ false ∷ false ∷ [])  -- empty
    ∷ (false ∷ true ∷ true ∷ true ∷ true ∷ [])
    ∷ (false ∷ true ∷ true ∷ false ∷ false ∷ [])
    ∷ (false ∷ false ∷ false ∷ true ∷ true ∷ [])
    ∷ (false ∷ true ∷ true ∷ false ∷ false ∷ [])
    ∷ (false ∷ false ∷ false ∷ false ∷ false ∷ [])  -- 20 digits
    ∷ (false ∷ false ∷ false ∷ false ∷ false ∷ [])
    ∷ []
unfolding level_in quotient div of_int round units odd size climb span to_bits
legal_values = refl

-- a value, as it is told after it was set
abbrev told : Name → String → List ℕ
told n text = setting_text (setting_in n (bytes text))

pub told_values :
    told kill_on_barge_in "TRUE"
    ∷ told kill_on_barge_in "False"
    ∷ told fetch_timeout "0000000000000000007"
    ∷ told no_input_timeout "0"
    ∷ told confidence_threshold "0.5"
    ∷ told sensitivity_level "1"
    ∷ setting_text Setting.Unset
    ∷ []
    ≡ bytes "true" ∷ bytes "false" ∷ bytes "7" ∷ bytes "0" ∷ bytes "0.500000" ∷ bytes "1.000000" ∷ [] ∷ []
unfolding level_in digits digits_within three_digits
told_values = refl

-- a text of 19 bytes
pub reached : length (setting_text (Setting.Millis 9999999999999999999)) ≡ 19
unfolding digits digits_within
reached = refl

-- under which names the setting can be kept
abbrev keeps : Setting → List Bool
keeps x = map (λ (n : Name). kept_for n x) every

pub kept_settings :
    keeps Setting.Unset
    ∷ keeps (Setting.Flag false)
    ∷ keeps (Setting.Millis 9999999999999999999)
    ∷ keeps (Setting.Millis 10000000000000000000)  -- 20 digits
    ∷ keeps (Setting.Level (held 500000 1056964608))
    ∷ keeps (Setting.Level (held 500001 1056964608))  -- not that of its millionths
    ∷ []
    ≡ (true ∷ true ∷ true ∷ true ∷ true ∷ [])
    ∷ (true ∷ false ∷ false ∷ false ∷ false ∷ [])
    ∷ (false ∷ true ∷ true ∷ false ∷ false ∷ [])
    ∷ (false ∷ false ∷ false ∷ false ∷ false ∷ [])
    ∷ (false ∷ false ∷ false ∷ true ∷ true ∷ [])
    ∷ (false ∷ false ∷ false ∷ false ∷ false ∷ [])
    ∷ []
unfolding is_kept quotient div of_int round units odd size climb span to_bits of_bits
kept_settings = refl

-- ---- editions

abbrev yes : Setting
yes = Setting.Flag true

abbrev second : Setting
second = Setting.Millis 1000

abbrev half : Setting
half = Setting.Level (held 500000 1056964608)

abbrev nothing : Setting
nothing = Setting.Unset

-- each place alone, with a yes, with a second and with a half; nothing at all; all that each kind has; all five
abbrev of_kind : Kind → List (List Bool)
of_kind kind =
    map (λ (x : Setting). map (λ (n : Name). is_edition_of kind (with_slot n x unset)) every) (yes ∷ second ∷ half ∷ [])
    ++ map (is_edition_of kind)
    (unset
    ∷ edition yes second nothing nothing nothing
    ∷ edition nothing nothing second half half
    ∷ edition yes second second half half
    ∷ [])
    ∷ []

pub of_a_synthesizer :
    of_kind Kind.Synthesizer
    ≡ (true ∷ false ∷ false ∷ false ∷ false ∷ [])
    ∷ (false ∷ true ∷ false ∷ false ∷ false ∷ [])
    ∷ (false ∷ false ∷ false ∷ false ∷ false ∷ [])
    ∷ (true ∷ true ∷ false ∷ false ∷ [])
    ∷ []
unfolding is_kept quotient div of_int round units odd size climb span to_bits of_bits
of_a_synthesizer = refl

pub of_a_recognizer :
    of_kind Kind.Recognizer
    ≡ (false ∷ false ∷ false ∷ false ∷ false ∷ [])
    ∷ (false ∷ false ∷ true ∷ false ∷ false ∷ [])
    ∷ (false ∷ false ∷ false ∷ true ∷ true ∷ [])
    ∷ (true ∷ false ∷ true ∷ false ∷ [])
    ∷ []
unfolding is_kept quotient div of_int round units odd size climb span to_bits of_bits
of_a_recognizer = refl

-- four editions of another Fetch-Timeout each, and a fifth in front
abbrev numbered : ℕ → Edition
numbered n = with_slot fetch_timeout (Setting.Millis n) unset

abbrev four : List Edition
four = map numbered (1 ∷ 2 ∷ 3 ∷ 4 ∷ [])

abbrev fetches : Option Edition → Option Setting
fetches none = none
fetches (some e) = some (slot fetch_timeout e)

-- numbers 0 to 5
abbrev kept : List Edition → List (Option Setting)
kept es = map (λ (n : ℕ). fetches (edition_at n es)) (0 ∷ 1 ∷ 2 ∷ 3 ∷ 4 ∷ 5 ∷ [])

abbrev at : ℕ → Option Setting
at n = some (Setting.Millis n)

pub numbers :
    kept (numbered 1 ∷ []) ∷ kept four ∷ kept (further (numbered 5) four) ∷ []
    ≡ (none ∷ at 1 ∷ none ∷ none ∷ none ∷ none ∷ [])
    ∷ (none ∷ at 1 ∷ at 2 ∷ at 3 ∷ at 4 ∷ none ∷ [])
    ∷ (none ∷ at 5 ∷ at 1 ∷ at 2 ∷ at 3 ∷ none ∷ [])
    ∷ []
numbers = refl
