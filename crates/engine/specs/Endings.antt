-- What ends on a recognizer, as the code goes about it.
use Rattle.std.specs.Prelude.{ℕ, true, false, List}
use Rattle.answer.specs.Answers.{completes}
use Rattle.answer.specs.declared.Kind.{Kind}
use Rattle.synth.specs.Channel.{View, with_queue, ids}
use Rattle.synth.specs.States.{Outcome, while_any}
use Rattle.synth.specs.declared.Entry.{Entry}
use Rattle.synth.specs.declared.State.TheVariants.{Recognizing, Recognized}
use Rattle.queue.specs.Queue.{marked}

-- those end that the mask marks, the first with the cause and each other one with 011
abbrev pub ends_marked : ℕ → View → ℕ → Outcome
ends_marked mask v cause =
    let rest : List Entry = marked false mask 0 v.queue in
    record {
      says = completes Kind.Recognizer v.name (ids (marked true mask 0 v.queue)) cause;
      next = with_queue (while_any Recognized Recognizing rest) rest v;
    }
