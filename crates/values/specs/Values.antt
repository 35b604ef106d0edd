-- What the value of a field says, in the terms of the judgement.
use Rattle.std.specs.Prelude.{ℕ, Bool, true, false, not, ◌&&◌, List, eqb, Option, Some, None, Result, Ok, Err}
use Rattle.std.proofs.Math.Option as Spec
use Rattle.std.proofs.Math.Option.{none, some}
use Rattle.octets.specs.Octets.{bytes, alike}
use Rattle.message.specs.Message.{part}
use Rattle.message.specs.Folds.{joined}
use Rattle.synth.specs.Levels.{level_in}
use Rattle.synth.specs.Judgement as J
use Rattle.synth.specs.Judgement.{passes, fails, ◌then◌, unless, given, anything, is_type_of}
use Rattle.synth.specs.declared.Level.{Level}
use Rattle.synth.specs.declared.Method.{Method}
use Rattle.message.specs.declared.Span.{Span}
use Rattle.answer.specs.declared.Status.{Status}

-- a value in the frame f as it is judged, where it is given
abbrev pub given_of : List ℕ → Option Span → Spec.Option (List ℕ)
given_of f None = none
given_of f (Some p) = some (joined (part f p))

-- Kill-On-Barge-In is `true` or `false` in any case; where it is not given, as it is set
abbrev pub kill_of : Bool → Spec.Option (List ℕ) → Option Bool
kill_of otherwise none = Some otherwise
kill_of otherwise (some v) = elim (alike v (bytes "true")) [
  | true ↦ Some true
  | false ↦ elim (alike v (bytes "false")) [ true ↦ Some false | false ↦ None ]
]

abbrev pub millionths_in : Spec.Option Level → Option ℕ
millionths_in none = None
millionths_in (some l) = Some l.millionths

-- Confidence-Threshold is a level; where it is not given, as it is set
abbrev pub threshold_of : ℕ → Spec.Option (List ℕ) → Option ℕ
threshold_of otherwise none = Some otherwise
threshold_of otherwise (some v) = millionths_in (level_in v)

-- a verdict as the judgement has it: the paper's number of its status
abbrev pub verdict_of : Result (Unit {0}) Status → J.Verdict
verdict_of (Ok done) = passes
verdict_of (Err status) = fails status.code

-- judgement 9 of a SPEAK or RECOGNIZE with Content-Length, whose type is t
abbrev pub typed_content : Method → List ℕ → ℕ → J.Verdict
typed_content m t body = unless (not (eqb body 0)) 408 then unless (is_type_of m t) 409

-- judgement 9 of a SPEAK or RECOGNIZE, by the values of Content-Length and Content-Type and the number of bytes in the
-- body
abbrev pub content_by : Method → Spec.Option (List ℕ) → Spec.Option (List ℕ) → ℕ → J.Verdict
content_by m length media body =
    unless (given anything length && given anything media) 406
    then unless (not (eqb body 0)) 408
    then unless (given (is_type_of m) media) 409
