-- `speak::active_state` goes by the method. Assumes nothing.
use mathlib.Core.Path.{◌≡◌, refl}
use mathlib.Core.Bool.{true, false≢true}
use Rattle.synth.specs.Channel.{View}
use Rattle.synth.specs.Request.{Request, opens}
use Rattle.synth.specs.States.{enter, act}
use Rattle.synth.specs.declared.Method.{Method}
use Rattle.synth.specs.declared.State.TheVariants.{Speaking}
use Rattle.speak.proofs.active_state.Goals as goal

-- the others that open a request are SPEAK
others : (m : Method) → (m ≡ Method.Recognize → ⊥) → opens m ≡ true → (v : View) (r : Request) → act m v r ≡ enter Speaking v r
unfolding act
others Method.Speak n o v r = refl
others Method.Stop n o v r = absurd (false≢true o)
others Method.Pause n o v r = absurd (false≢true o)
others Method.Resume n o v r = absurd (false≢true o)
others Method.Control n o v r = absurd (false≢true o)
others Method.BargeInOccurred n o v r = absurd (false≢true o)
others Method.Unknown n o v r = absurd (false≢true o)
others Method.Recognize n o v r = absurd (n refl)
others Method.StartInputTimers n o v r = absurd (false≢true o)
others Method.SetParams n o v r = absurd (false≢true o)
others Method.GetParams n o v r = absurd (false≢true o)

pub returns-in-Recognize : goal.returns-in-Recognize
unfolding act
returns-in-Recognize c = λ o v r. rw c.in-Recognize.is

pub returns-in_default : goal.returns-in_default
returns-in_default c = λ o v r. others c.args.m c.in_default.not-Recognize o v r
