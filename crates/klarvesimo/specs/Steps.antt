-- The steps of the C face that are functions of their own in the code.
use Rattle.std.specs.Prelude.{Result, Ok, Err}
use Rattle.calls.specs.Refusals.{number_of}
use Rattle.calls.specs.declared.Refused.{Refused}
use Rattle.calls.specs.declared.Handled.{Handled}
use Rattle.klarvesimo.specs.declared.Told.{Told}

-- what C is told of a call
abbrev pub told_of : Result Handled Refused → Told
told_of (Ok h) = record { number = 0; consumed = h.consumed; written = h.written }
told_of (Err e) = record { number = number_of e.refusal; consumed = e.consumed; written = 0 }
