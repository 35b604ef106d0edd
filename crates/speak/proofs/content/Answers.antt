-- `speak::content` asks for the two values, and judges them with the body. Assumes nothing.
use mathlib.Core.Path.{◌∙◌}
use Rattle.values.specs.Values.{given_of, content_by}
use Rattle.synth.specs.Channel.{fresh}
use mathlib.Core.List.{[]}
use Rattle.speak.proofs.Speaking.{content_told}
use Rattle.speak.proofs.content.Goals as goal

pub returns : goal.returns
returns c = λ opened major minor id fs told.
    let a = c.args in
    c.content.ensures
    ∙ (λ i. content_by a.m (given_of a.f.now (c.value-length.ensures i)) (given_of a.f.now (c.value-media.ensures i)) a.h.body.len)
    ∙ content_told (fresh []) major minor a.m id fs opened a.f.now a.h told
