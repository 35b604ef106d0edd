-- The settings that a GET-PARAMS asks for, by the mask of the names that came: those named, or all. Assumes nothing.
use Prim.Native.Nat.{ℕ}
use mathlib.Core.Path.{◌≡◌, refl, sym, ap, ◌∙◌}
use mathlib.Core.Bool.{Bool, true, false, not, ◌&&◌, false≢true}
use mathlib.Core.List.{List, [], ◌∷◌, map}
use lib.Bits.{bit_and, and_comm}
use lib.Dec.{eqb}
use Rattle.lists.specs.Lists.{all, is_empty, put, keep, bit}
use Rattle.message.specs.Message.{Fields, fields_in}
use Rattle.message.specs.Known.{index_of, names_of}
use Rattle.message.specs.declared.Known.{Known}
use Rattle.answer.specs.declared.Kind.{Kind}
use Rattle.names.proofs.Theorems.NamesOfASet.{none_of_set}
use Rattle.synth.specs.Settings.{Name, settings, field_of, or_all, named}
use Rattle.told.specs.Told.{told}
use Rattle.header.specs.declared.Header.{Header}
use Rattle.values.specs.Steps.{meets}
use Rattle.request.specs.Telling.{Tells}
use Rattle.params.specs.Steps.{setting_bits}

-- none is kept where no bit is set
none_kept : (test : Known → Bool) (own : List Name)
    → all (λ k. not (test k)) (map field_of own) ≡ is_empty (keep (λ n. test (field_of n)) own)
none_kept test [] = refl
none_kept test (n ∷ own) = go (test (field_of n)) (none_kept test own)
  where
    go : (b : Bool) → all (λ k. not (test k)) (map field_of own) ≡ is_empty (keep (λ n. test (field_of n)) own)
        → (not b && all (λ k. not (test k)) (map field_of own)) ≡ is_empty (put b n (keep (λ n. test (field_of n)) own))
    go true ih = refl
    go false ih = ih

module _ (mask : ℕ) where
  own_met : (kind : Kind) → meets mask (setting_bits kind) ≡ not (is_empty (told kind mask))
  own_met kind =
      ap (λ n. not (eqb n 0)) (and_comm mask (setting_bits kind))
      ∙ ap not (by_kind kind ∙ none_kept (λ k. bit mask (index_of k)) (settings kind))
    where
      by_kind : (kind : Kind)
          → eqb (bit_and (setting_bits kind) mask) 0 ≡ all (λ k. not (bit mask (index_of k))) (map field_of (settings kind))
      by_kind Kind.Synthesizer = none_of_set mask (map field_of (settings Kind.Synthesizer))
      by_kind Kind.Recognizer = none_of_set mask (map field_of (settings Kind.Recognizer))

  -- one is named, or none is
  pub asks_named : (kind : Kind) → meets mask (setting_bits kind) ≡ true
      → told kind mask ≡ or_all (told kind mask) (settings kind)
  asks_named kind e = go (told kind mask) (sym (own_met kind) ∙ e)
    where
      go : (l : List Name) → not (is_empty l) ≡ true → l ≡ or_all l (settings kind)
      go [] e = absurd (false≢true e)
      go (n ∷ l) e = refl

  pub asks_all : (kind : Kind) → meets mask (setting_bits kind) ≡ false
      → told kind (setting_bits kind) ≡ or_all (told kind mask) (settings kind)
  asks_all kind e = all_told kind ∙ go (told kind mask) (sym (own_met kind) ∙ e)
    where
      all_told : (kind : Kind) → told kind (setting_bits kind) ≡ settings kind
      all_told Kind.Synthesizer = refl
      all_told Kind.Recognizer = refl

      go : (l : List Name) → not (is_empty l) ≡ false → settings kind ≡ or_all l (settings kind)
      go [] e = refl
      go (n ∷ l) e = absurd (false≢true (sym e))

-- those named are those whose names came
pub told_named : (f : List ℕ) (h : Header) (fs : Fields (List ℕ)) → Tells true f h fs → (kind : Kind)
    → or_all (told kind h.mask) (settings kind) ≡ named (names_of (fields_in fs)) (settings kind)
told_named f h fs w kind = λ z. or_all (keep (λ n. w.came (field_of n) z) (settings kind)) (settings kind)
