-- The settings that a mask of field names asks for: document 02, K5.
use Rattle.std.specs.Prelude.{ℕ, List}
use Rattle.lists.specs.Lists.{bit, keep}
use Rattle.message.specs.Known.{index_of}
use Rattle.answer.specs.declared.Kind.{Kind}
use Rattle.synth.specs.Settings.{Name, settings, field_of}

-- those of a kind whose bit is set, in the order of the answer
abbrev pub told : Kind → ℕ → List Name
told kind asked = keep (λ n. bit asked (index_of (field_of n))) (settings kind)
