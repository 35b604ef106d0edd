-- Which fields may stand in a SET-PARAMS or GET-PARAMS, by the mask of the names that came. Assumes nothing.
use Prim.Native.Nat.{ℕ}
use mathlib.Core.Path.{◌≡◌, refl, sym, ap, ◌∙◌}
use mathlib.Core.Bool.{Bool, true, false, not, ◌&&◌, false≢true}
use mathlib.Core.Option.{none}
use mathlib.Core.List.{List, map}
use lib.ListN.{get_or}
use Rattle.lists.specs.Lists.{all, bit}
use Rattle.lists.proofs.Scans.{all_of}
use Rattle.message.specs.Message.{Fields, fields_in}
use Rattle.message.specs.Known.{index_of, is_known, names_of, judged_value}
use Rattle.message.specs.declared.Known.{Known}
use Rattle.answer.specs.declared.Kind.{Kind}
use Rattle.names.specs.Names.{bit_of}
use Rattle.synth.specs.Settings.{may_stand}
use Rattle.header.specs.Header.{nowhere}
use Rattle.header.specs.declared.Header.{Header}
use Rattle.values.specs.Values.{given_of}
use Rattle.values.specs.Steps.{meets}
use Rattle.std.proofs.Common.{Some, None}
use Rattle.request.specs.Telling.{Tells}
use Rattle.request.proofs.Telling.{each, on_each}
use Rattle.params.specs.Steps.{forbidden_bits}

-- every field may stand in one to a channel of that kind
abbrev pub all_stand : Kind → Fields (List ℕ) → Bool
all_stand kind fs = all (may_stand kind) (names_of (fields_in fs))

module _ (f : List ℕ) (h : Header) (fs : Fields (List ℕ)) (w : Tells true f h fs) where
  by_set : (test : Known → Bool) (set : ℕ) → map (λ k. not (bit set (index_of k))) each ≡ map test each
      → meets h.mask set ≡ not (all test (names_of (fields_in fs)))
  by_set test set e =
      w.names set
      ∙ (λ z. not (all (λ k. on_each (λ k. not (bit set (index_of k))) test e k z) (names_of (fields_in fs))))

  -- 403 by the mask
  pub forbidden_met : (kind : Kind) → meets h.mask (forbidden_bits kind) ≡ not (all_stand kind fs)
  forbidden_met Kind.Synthesizer = by_set (may_stand Kind.Synthesizer) (forbidden_bits Kind.Synthesizer) refl
  forbidden_met Kind.Recognizer = by_set (may_stand Kind.Recognizer) (forbidden_bits Kind.Recognizer) refl

  -- a field that may not stand where all may has no value
  module _ (kind : Kind) (stand : all_stand kind fs ≡ true) where
    apart : (a b : Bool) → a && b ≡ false → a ≡ true → not b ≡ true
    apart true true e h = sym e
    apart true false e h = refl
    apart false b e h = absurd (false≢true h)

    pub no_value : (k : Known) → is_known true k ≡ true
        → map (λ j. may_stand kind j && bit (bit_of k) (index_of j)) each ≡ map (λ j. false) each
        → judged_value k (fields_in fs) ≡ none
    no_value k known e =
        let other = on_each (λ j. may_stand kind j && bit (bit_of k) (index_of j)) (λ j. false) e in
        let unmet : meets h.mask (bit_of k) ≡ false =
        w.names (bit_of k)
        ∙ ap not (all_of (may_stand kind) (λ j. not (bit (bit_of k) (index_of j)))
        (λ j. apart (may_stand kind j) (bit (bit_of k) (index_of j)) (other j)) (names_of (fields_in fs)) stand) in
        sym (w.value k known)
        ∙ ap (λ b. given_of f
        (elim b [ true ↦ Some (get_or h.values (index_of k) nowhere) | false ↦ None ])) unmet
