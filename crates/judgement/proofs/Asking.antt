-- Which names ask for settings: the two of document 02, K5, on either kind of channel. Assumes nothing.
use Prim.Native.Nat.{ℕ}
use mathlib.Core.Path.{◌≡◌, refl, ap, ◌∙◌}
use mathlib.Core.Bool.{Bool, true, false, ◌||◌}
use mathlib.Core.List.{List}
use Rattle.lists.specs.Lists.{same}
use Rattle.lists.proofs.Scans.{same_so}
use Rattle.octets.specs.Octets.{bytes}
use Rattle.answer.specs.declared.Kind.{Kind}
use Rattle.synth.specs.Kinds.{method_in}
use Rattle.synth.specs.Request.{method_text, or_else, method_of, is_params}
use Rattle.synth.specs.declared.Method.{Method}

kind_params : (k : Kind) (m : Method) → is_params (method_in k m) ≡ is_params m
kind_params Kind.Synthesizer Method.Speak = refl
kind_params Kind.Synthesizer Method.Stop = refl
kind_params Kind.Synthesizer Method.Pause = refl
kind_params Kind.Synthesizer Method.Resume = refl
kind_params Kind.Synthesizer Method.Control = refl
kind_params Kind.Synthesizer Method.BargeInOccurred = refl
kind_params Kind.Synthesizer Method.Unknown = refl
kind_params Kind.Synthesizer Method.Recognize = refl
kind_params Kind.Synthesizer Method.StartInputTimers = refl
kind_params Kind.Synthesizer Method.SetParams = refl
kind_params Kind.Synthesizer Method.GetParams = refl
kind_params Kind.Recognizer Method.Speak = refl
kind_params Kind.Recognizer Method.Stop = refl
kind_params Kind.Recognizer Method.Pause = refl
kind_params Kind.Recognizer Method.Resume = refl
kind_params Kind.Recognizer Method.Control = refl
kind_params Kind.Recognizer Method.BargeInOccurred = refl
kind_params Kind.Recognizer Method.Unknown = refl
kind_params Kind.Recognizer Method.Recognize = refl
kind_params Kind.Recognizer Method.StartInputTimers = refl
kind_params Kind.Recognizer Method.SetParams = refl
kind_params Kind.Recognizer Method.GetParams = refl

no_params : (a b c d e f g h : Bool)
    → is_params (or_else a Method.Speak (or_else b Method.Stop (or_else c Method.Pause (or_else d Method.Resume
    (or_else e Method.Control (or_else f Method.BargeInOccurred (or_else g Method.Recognize
    (or_else h Method.StartInputTimers Method.Unknown)))))))) ≡ false
no_params true b c d e f g h = refl
no_params false true c d e f g h = refl
no_params false false true d e f g h = refl
no_params false false false true e f g h = refl
no_params false false false false true f g h = refl
no_params false false false false false true g h = refl
no_params false false false false false false true h = refl
no_params false false false false false false false true = refl
no_params false false false false false false false false = refl

by_name : (name : List ℕ) → is_params (method_of name) ≡ (same name (bytes "SET-PARAMS") || same name (bytes "GET-PARAMS"))
unfolding method_of
by_name name = go (same name (bytes "SET-PARAMS")) (same name (bytes "GET-PARAMS")) refl refl
  where
    go : (s g : Bool) → same name (bytes "SET-PARAMS") ≡ s → same name (bytes "GET-PARAMS") ≡ g
        → is_params (method_of name) ≡ (s || g)
    go true g e f = ap (λ n. is_params (method_of n)) (same_so name (bytes "SET-PARAMS") e)
    go false true e f = ap (λ n. is_params (method_of n)) (same_so name (bytes "GET-PARAMS") f)
    go false false e f = rw (e, f)
        (no_params (same name (method_text Method.Speak)) (same name (method_text Method.Stop))
        (same name (method_text Method.Pause)) (same name (method_text Method.Resume))
        (same name (method_text Method.Control)) (same name (method_text Method.BargeInOccurred))
        (same name (method_text Method.Recognize)) (same name (method_text Method.StartInputTimers)))

pub named_params : (k : Kind) (name : List ℕ)
    → is_params (method_in k (method_of name)) ≡ (same name (bytes "SET-PARAMS") || same name (bytes "GET-PARAMS"))
named_params k name = kind_params k (method_of name) ∙ by_name name
