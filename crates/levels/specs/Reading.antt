-- What a text says as a level, in the types of the code.
use Rattle.std.proofs.Math.Option as Spec
use Rattle.std.proofs.Math.Option.{none, some}
use Rattle.std.specs.Prelude.{List, ℕ, Option, Some, None}
use Rattle.synth.specs.Levels.{level_in}
use Rattle.synth.specs.declared.Level.{Level}

abbrev pub kept : Spec.Option Level → Option Level
kept none = None
kept (some l) = Some l

abbrev pub level_found : List ℕ → Option Level
level_found v = kept (level_in v)
