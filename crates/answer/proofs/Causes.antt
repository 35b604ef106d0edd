-- How many bytes the value of a cause has. Assumes nothing.
use Prim.Native.Nat.{ℕ, ◌+◌}
use native.Mathlib.Omega.{arith}
use mathlib.Core.Path.{◌≡◌}
use mathlib.Core.List.{[]}
use lib.ListN.{length, get_or, length-append}
use Rattle.writers.proofs.Digits.{three_length}
use Rattle.answer.specs.Answers.{cause_names, completion_cause}
use Rattle.answer.specs.declared.Kind.{Kind}

pub cause_length : (kind : Kind) (cause : ℕ)
    → length (completion_cause kind cause).value ≡ 4 + length (get_or (cause_names kind) cause [])
cause_length kind cause = simp length-append (omega (arith, three_length cause))
