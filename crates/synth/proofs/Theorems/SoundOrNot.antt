-- Editions and thresholds on channels that are sound but for them, computed. Assumes nothing.
use Prim.Native.Nat.{ℕ}
use Prim.Native.String.{String}
use mathlib.Core.Path.{◌≡◌, refl}
use mathlib.Core.Bool.{Bool, true, false}
use mathlib.Core.List.{List, [], ◌∷◌}
use lib.Ieee.{binary32, div, of_int, round, units, odd, size, climb, span, to_bits, of_bits}
use Rattle.std.specs.Prelude.{Some}
use Rattle.octets.specs.Octets.{bytes}
use Rattle.synth.specs.Levels.{quotient}
use Rattle.synth.specs.Kinds.{kind_of}
use Rattle.synth.specs.Settings.{edition, unset, is_kept}
use Rattle.synth.specs.Channel.{well_named, shaped, are_editions, sound}
use Rattle.synth.specs.declared.State.{State}
use Rattle.synth.specs.declared.State.TheVariants.{Idle, Speaking, Recognizing}
use Rattle.synth.specs.declared.Setting.{Setting}
use Rattle.synth.specs.declared.Edition.{Edition}
use Rattle.synth.proofs.Computed.{channel, beyond}

-- an idle channel of that name with these editions
abbrev keeping : String → List Edition → Bool
keeping name es = sound (record { name = bytes name; state = Idle; queue = []; last = Some 9; editions = es })

abbrev synth : List Edition → Bool
synth es = keeping "a@speechsynth" es

abbrev recog : List Edition → Bool
recog es = keeping "a@speechrecog" es

abbrev nothing : Setting
nothing = Setting.Unset

-- an edition of a synthesizer, and of a recognizer
abbrev speaks : Setting → Setting → Edition
speaks kill fetch = edition kill fetch nothing nothing nothing

abbrev hears : Setting → Setting → Setting → Edition
hears silence confidence sensitivity = edition nothing nothing silence confidence sensitivity

-- a level of these millionths, with the number of these bits
abbrev level : ℕ → ℕ → Setting
level millionths bits = Setting.Level (record { millionths = millionths; single = of_bits binary32 bits })

-- a channel with one request, of that threshold
abbrev awaiting : String → State → ℕ → Bool
awaiting name state threshold = sound (channel name state (beyond threshold 9 ∷ []) (Some 9))

-- how many
pub one_to_four :
    synth []  -- none
    ∷ synth (unset ∷ [])
    ∷ synth (unset ∷ unset ∷ unset ∷ unset ∷ [])
    ∷ synth (unset ∷ unset ∷ unset ∷ unset ∷ unset ∷ [])  -- five
    ∷ recog []
    ∷ recog (unset ∷ unset ∷ [])
    ∷ recog (unset ∷ unset ∷ unset ∷ unset ∷ unset ∷ [])
    ∷ []
    ≡ false ∷ true ∷ true ∷ false ∷ false ∷ true ∷ false ∷ []
unfolding sound shaped well_named kind_of are_editions is_kept quotient div of_int round units odd size climb span to_bits
    of_bits
one_to_four = refl

pub synthesizers :
    synth (speaks (Setting.Flag false) (Setting.Millis 9999999999999999999) ∷ [])
    ∷ synth (speaks (Setting.Flag true) (Setting.Millis 10000000000000000000) ∷ [])  -- 20 digits
    ∷ synth (speaks (Setting.Millis 1) nothing ∷ [])  -- no yes or no
    ∷ synth (speaks (level 500000 1056964608) nothing ∷ [])
    ∷ synth (speaks nothing (Setting.Flag true) ∷ [])  -- no milliseconds
    ∷ synth (speaks nothing (level 500000 1056964608) ∷ [])
    ∷ synth (hears (Setting.Millis 0) nothing nothing ∷ [])  -- the other kind's
    ∷ synth (hears nothing (level 500000 1056964608) nothing ∷ [])
    ∷ synth (hears nothing nothing (level 500000 1056964608) ∷ [])
    ∷ synth (unset ∷ unset ∷ unset ∷ speaks nothing (Setting.Millis 10000000000000000000) ∷ [])  -- an older one
    ∷ []
    ≡ true ∷ false ∷ false ∷ false ∷ false ∷ false ∷ false ∷ false ∷ false ∷ false ∷ []
unfolding sound shaped well_named kind_of are_editions is_kept quotient div of_int round units odd size climb span to_bits
    of_bits
synthesizers = refl

pub recognizers :
    recog (hears (Setting.Millis 0) (level 500000 1056964608) (level 1000000 1065353216) ∷ [])
    ∷ recog (hears nothing (level 1 897988541) (level 0 0) ∷ [])
    ∷ recog (speaks (Setting.Flag true) nothing ∷ [])  -- the other kind's
    ∷ recog (speaks nothing (Setting.Millis 1) ∷ [])
    ∷ recog (hears (Setting.Flag true) nothing nothing ∷ [])  -- no milliseconds
    ∷ recog (hears nothing (Setting.Millis 1) nothing ∷ [])  -- no level
    ∷ recog (hears (Setting.Millis 10000000000000000000) nothing nothing ∷ [])  -- 20 digits
    ∷ recog (hears nothing (level 500001 1056964608) nothing ∷ [])  -- the number of other millionths
    ∷ recog (hears nothing (level 500000 1056964609) nothing ∷ [])  -- the next number
    ∷ recog (hears nothing nothing (level 0 2147483648) ∷ [])  -- -0.0
    ∷ recog (hears nothing nothing (level 0 2143289344) ∷ [])  -- no number
    ∷ recog (hears nothing nothing (level 1000001 1065353224) ∷ [])  -- above one
    ∷ recog (hears nothing nothing (level 2000000 1073741824) ∷ [])
    ∷ recog (unset ∷ hears nothing nothing (level 0 2147483648) ∷ [])  -- an older one
    ∷ []
    ≡ true ∷ true ∷ false ∷ false ∷ false ∷ false ∷ false ∷ false ∷ false ∷ false ∷ false ∷ false ∷ false ∷ false ∷ []
unfolding sound shaped well_named kind_of are_editions is_kept quotient div of_int round units odd size climb span to_bits
    of_bits
recognizers = refl

pub thresholds :
    awaiting "a@speechrecog" Recognizing 0
    ∷ awaiting "a@speechrecog" Recognizing 1000000
    ∷ awaiting "a@speechrecog" Recognizing 1000001  -- above one
    ∷ awaiting "a@speechsynth" Speaking 0
    ∷ awaiting "a@speechsynth" Speaking 1000001
    ∷ []
    ≡ true ∷ true ∷ false ∷ true ∷ false ∷ []
unfolding sound shaped well_named kind_of are_editions is_kept quotient div of_int round units odd size climb span to_bits
    of_bits
thresholds = refl
