-- What the code judges of a request, in the terms of document 01.
use Rattle.std.specs.Prelude.{ℕ, ◌≡◌, List, Option, Result}
use Rattle.message.specs.Message.{Fields}
use Rattle.synth.specs.Channel.{View, with_last}
use Rattle.synth.specs.Request.{Request}
use Rattle.synth.specs.Judgement as J
use Rattle.synth.specs.Judgement.{◌then◌, well_formed, addressed, ours, above}
use Rattle.synth.specs.States as S
use Rattle.synth.specs.declared.Method.{Method}
use Rattle.channelnames.specs.Names.{name_of}
use Rattle.channelnames.specs.declared.Name.{Name}
use Rattle.values.specs.Values.{verdict_of}
use Rattle.answer.specs.declared.Status.{Status}
use Rattle.outcomes.specs.Outcomes.{asked}
use Rattle.params.specs.Doing.{Does}
use Rattle.judgement.specs.declared.Judged.{Judged}

-- judgements 2 to 5
abbrev pub from_fields : View → Request → J.Verdict
from_fields v r = well_formed r then addressed r then ours v r then above v r

-- on every channel with this name and last id, every request of this id that is told of gets the verdict o by these steps
abbrev pub Gets : (View → Request → J.Verdict) → Option ℕ → Name → ℕ → (Request → Type 0) → Result (Unit {0}) Status → Type 0
Gets steps last name id told o =
    (v : View) (major minor : ℕ) (m : Method) (fs : Fields (List ℕ)) →
    (let r : Request = asked major minor m id fs in
    v.last ≡ last → v.name ≡ name_of name → told r → verdict_of o ≡ steps v r)

-- on the channel v, j says and leaves what d has, its last id too
abbrev pub Judges : View → Judged → S.Outcome → Type 0
Judges v j d = Does (with_last j.last v) j.done.outcome j.done.effect d
