-- No answer to GET-PARAMS is longer than 202 bytes, and one is that long. Assumes nothing.
use Prim.Native.Nat.{ℕ, ◌+◌, ◌≤◌, ◌<◌}
use mathlib.Core.Path.{◌≡◌, refl, ap}
use mathlib.Core.Bool.{Bool, true, false, false≢true}
use mathlib.Core.List.{List, [], ◌∷◌, map}
use native.Mathlib.Omega.{arith}
use lib.Dec.{lit≤}
use lib.Ieee.{binary32, of_bits}
use lib.ListN.{length}
use borrow.Author.Tests.{ltb-true}
use Rattle.lists.specs.Lists.{put}
use Rattle.octets.specs.Octets.{bytes}
use Rattle.writers.specs.Decimal.{digits, digits_within, three_digits}
use Rattle.writers.specs.SelfLength.{self_length}
use Rattle.writers.proofs.Digits.{width_below}
use Rattle.message.specs.Message.{fields_in}
use Rattle.message.specs.Known.{names_of, among}
use Rattle.message.specs.declared.Known.{Known}
use Rattle.answer.specs.Written.{start_text, field_text, fields_text, after_length, written}
use Rattle.answer.specs.Answers.{telling}
use Rattle.answer.specs.declared.Kind.{Kind}
use Rattle.answer.proofs.Sizes.{fields_size, telling_size}
use Rattle.synth.specs.Settings as S
use Rattle.synth.specs.Settings.{Name, kill_on_barge_in, fetch_timeout, no_input_timeout, confidence_threshold, sensitivity_level, Sort, flag, millis, settings, sort_of, field_of, spelling, slot, edition, setting_text, setting_field, or_all, named, kept_as, is_edition_of, newest}
use Rattle.synth.specs.Channel.{View, kind, sound}
use Rattle.synth.specs.Request.{Request}
use Rattle.synth.specs.States.{told_by}
use Rattle.synth.specs.declared.Setting.{Setting}
use Rattle.synth.specs.declared.Edition.{Edition}
use Rattle.synth.proofs.Channels.{sound_facts}
use Rattle.synth.proofs.Names.{name_fits_lem}
use Rattle.synth.proofs.Levels.{kept_most, six_length, level_text_lem}
use Rattle.synth.proofs.Editions.{newest_own, own_kept}

-- the longest text of each sort: `false`, 19 digits, `0.000000`
abbrev pub longest_of : Sort → ℕ
longest_of flag = 5
longest_of millis = 19
longest_of S.level = 8

brief : (s : Sort) (x : Setting) → kept_as s x ≡ true → length (setting_text x) ≤ longest_of s
brief s Setting.Unset h = omega arith
brief flag (Setting.Flag true) h = lit≤ tt
brief flag (Setting.Flag false) h = lit≤ tt
brief millis (Setting.Flag b) h = absurd (false≢true h)
brief S.level (Setting.Flag b) h = absurd (false≢true h)
brief flag (Setting.Millis n) h = absurd (false≢true h)
brief millis (Setting.Millis n) h =
    width_below n 18 (let u = ltb-true n 10000000000000000000 h in omega arith)
brief S.level (Setting.Millis n) h = absurd (false≢true h)
brief flag (Setting.Level l) h = absurd (false≢true h)
brief millis (Setting.Level l) h = absurd (false≢true h)
brief S.level (Setting.Level l) h =
    let m = kept_most l h in
    omega (arith, ap length (level_text_lem l m), six_length l.millionths m)

-- the longest field of each name: 24, 35, 38, 31 and 28 bytes
abbrev widest : Name → ℕ
widest n = 3 + length (spelling n) + longest_of (sort_of n)

abbrev together : List Name → ℕ
together [] = 0
together (n ∷ ns) = widest n + together ns

module _ (kind : Kind) (e : Edition) (own : is_edition_of kind e ≡ true) where
  told_most : (ns : List Name) → length (fields_text (map (setting_field e) ns)) ≤ together ns
  unfolding fields_text
  told_most [] = lit≤ tt
  told_most (n ∷ ns) =
      omega (
        arith,
        fields_size (setting_field e n) (map (setting_field e) ns),
        brief (sort_of n) (slot n e) (own_kept kind e own n),
        told_most ns,
      )

synth_most : (a b : Bool)
    → together (or_all (put a kill_on_barge_in (put b fetch_timeout [])) (settings Kind.Synthesizer)) ≤ 97
synth_most true true = lit≤ tt
synth_most true false = lit≤ tt
synth_most false true = lit≤ tt
synth_most false false = lit≤ tt

recog_most : (a b c : Bool)
    → together (or_all (put a no_input_timeout (put b confidence_threshold (put c sensitivity_level [])))
    (settings Kind.Recognizer)) ≤ 97
recog_most true true true = lit≤ tt
recog_most true true false = lit≤ tt
recog_most true false true = lit≤ tt
recog_most true false false = lit≤ tt
recog_most false true true = lit≤ tt
recog_most false true false = lit≤ tt
recog_most false false true = lit≤ tt
recog_most false false false = lit≤ tt

named_most : (k : Kind) (given : List Known) → together (named given (settings k)) ≤ 97
named_most Kind.Synthesizer given =
    synth_most (among (field_of kill_on_barge_in) given) (among (field_of fetch_timeout) given)
named_most Kind.Recognizer given =
    recog_most (among (field_of no_input_timeout) given) (among (field_of confidence_threshold) given)
    (among (field_of sensitivity_level) given)

pub longest_told : (v : View) → sound v ≡ true → (r : Request) → r.id < 4294967296
    → length (written (telling v.name r.id 200 (told_by v r))) ≤ 202
longest_told v s r small =
    let f = sound_facts v s in
    let given : List Known = names_of (fields_in r.fields) in
    let own = newest_own (kind v) v.editions f.editions_fit in
    let told = told_most (kind v) (newest v.editions) own (named given (settings (kind v))) in
    let most = named_most (kind v) given in
    let name = (name_fits_lem v.name f.named).most in
    omega (
      arith,
      telling_size v.name r.id 200 (told_by v r) name small (omega (arith, told, most)),
      told,
      most,
    )

-- the bound is reached
abbrev one : Setting
one = Setting.Level (record { millionths = 1000000; single = of_bits binary32 1065353216 })

abbrev wide : Edition
wide = edition Setting.Unset Setting.Unset (Setting.Millis 9999999999999999999) one one

pub reached :
    length
    (written
    (telling (bytes "abcdefghijklmnopqrstuvwxyzabcdef@speechrecog") 4294967295 200
    (map (setting_field wide) (settings Kind.Recognizer))))
    ≡ 202
unfolding written telling start_text field_text fields_text after_length self_length digits digits_within three_digits
reached = refl
