-- The fields of the settings that a mask asks for, one behind the other.
-- Assumes nothing.
use Prim.Native.Nat.{ℕ, ◌^◌}
use mathlib.Core.Path.{◌≡◌, refl, sym, ap, ◌∙◌}
use mathlib.Core.Bool.{Bool, true, false, not}
use mathlib.Core.List.{List, [], ◌∷◌, ◌++◌, map, append_assoc, append-nil}
use lib.Bits.{bit_and}
use lib.Dec.{eqb}
use Rattle.lists.specs.Lists.{put, keep, bit}
use Rattle.lists.proofs.Masks.{test_any}
use Rattle.message.specs.Message.{Field}
use Rattle.message.specs.Known.{index_of}
use Rattle.answer.specs.Written.{field_text, fields_text}
use Rattle.answer.specs.declared.Kind.{Kind}
use Rattle.synth.specs.Settings.{Name, kill_on_barge_in, fetch_timeout, no_input_timeout, confidence_threshold}
use Rattle.synth.specs.Settings.{sensitivity_level, field_of, setting_field}
use Rattle.synth.specs.declared.Edition.{Edition}
use Rattle.told.specs.Told.{told}

-- ---- one field

pub one_field : {asked : Bool} → asked ≡ true → (f : Field (List ℕ)) → field_text f ≡ fields_text (put asked f [])
unfolding fields_text
one_field e f = rw e (sym (append-nil (field_text f)))

pub no_field : {asked : Bool} → asked ≡ false → (f : Field (List ℕ)) → [] ≡ fields_text (put asked f [])
unfolding fields_text
no_field e f = rw e

-- ---- those of a list of settings

before : (f : Name → Field (List ℕ)) (asked : Bool) (n : Name) (ns : List Name)
    → fields_text (put asked (f n) []) ++ fields_text (map f ns) ≡ fields_text (map f (put asked n ns))
unfolding fields_text
before f true n ns = rw append-nil
before f false n ns = refl

twice : (b : Bool) → not (not b) ≡ b
twice true = refl
twice false = refl

two : (a b : List ℕ) → a ++ b ≡ a ++ (b ++ [])
two a b = simp append-nil

three : (a b c : List ℕ) → a ++ b ++ c ≡ a ++ (b ++ (c ++ []))
three a b c = simp (append_assoc, append-nil)

module _ (e : Edition) (asked : ℕ) where
  -- whether a setting is asked for, and the code's test of it
  abbrev wanted : Name → Bool
  wanted n = bit asked (index_of (field_of n))

  abbrev tested : Name → Bool
  tested n = not (eqb (bit_and asked (2 ^ index_of (field_of n))) 0)

  same_test : (n : Name) → tested n ≡ wanted n
  same_test n = ap not (test_any asked (index_of (field_of n))) ∙ twice (wanted n)

  -- the field that the code writes of it
  abbrev field : Name → List ℕ
  field n = fields_text (put (tested n) (setting_field e n) [])

  abbrev each : List Name → List ℕ
  each [] = []
  each (n ∷ ns) = field n ++ each ns

  each_told : (ns : List Name) → each ns ≡ fields_text (map (setting_field e) (keep wanted ns))
  unfolding fields_text
  each_told [] = refl
  each_told (n ∷ ns) = rw (same_test n, each_told ns) (before (setting_field e) (wanted n) n (keep wanted ns))

  pub of_synthesizer : field kill_on_barge_in ++ field fetch_timeout
      ≡ fields_text (map (setting_field e) (told Kind.Synthesizer asked))
  of_synthesizer = two (field kill_on_barge_in) (field fetch_timeout) ∙ each_told (kill_on_barge_in ∷ fetch_timeout ∷ [])

  pub of_recognizer : field no_input_timeout ++ field confidence_threshold ++ field sensitivity_level
      ≡ fields_text (map (setting_field e) (told Kind.Recognizer asked))
  of_recognizer =
      three (field no_input_timeout) (field confidence_threshold) (field sensitivity_level)
      ∙ each_told (no_input_timeout ∷ confidence_threshold ∷ sensitivity_level ∷ [])
