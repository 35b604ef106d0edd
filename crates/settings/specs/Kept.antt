-- The edition that becomes a further one, as document 02 has it.
use Rattle.std.proofs.Math.Option.{none, some}
use Rattle.std.proofs.Math.Option as O
use Rattle.std.specs.Prelude.{List, Option, Some, None}
use Rattle.synth.specs.Settings.{further}
use Rattle.synth.specs.declared.Edition.{Edition}

-- where there is one
abbrev pub as_further : O.Option Edition → Option Edition
as_further none = None
as_further (some e) = Some e

-- the editions with it in front of those before it
abbrev pub further_on : Option Edition → List Edition → List Edition
further_on None es = es
further_on (Some e) es = further e es
