-- `engine::complete` goes by the kind. Assumes nothing.
use Prim.Native.Nat.{◌≤◌}
use mathlib.Core.Path.{sym, ap, subst, ◌∙◌}
use lib.ListN.{length}
use Rattle.answer.specs.declared.Kind.{Kind}
use Rattle.synth.specs.Calls.{deliver}
use Rattle.synth.specs.States.{counted, recognized, completed}
use Rattle.synth.specs.declared.Entry.{Entry}
use Rattle.queue.specs.Queue.{first}
use Rattle.queue.proofs.Queues.{first_level}
use Rattle.channel.specs.Channel.{view}
use Rattle.calls.proofs.Leaving.{turned}
use Rattle.engine.proofs.complete.Goals as goal

pub end_speech-requires : goal.end_speech-requires
end_speech-requires c = c.requires

pub end_recognized-requires : goal.end_recognized-requires
end_recognized-requires c = c.requires

pub returns-in-Synthesizer : goal.returns-in-Synthesizer
returns-in-Synthesizer c = λ es e queue q.
    let a = c.args in
    let v = view a.last a.c es in
    let of = c.in-Synthesizer.is in
    turned (ap (λ (k : Kind). deliver v 0 (length a.out.now) (completed k e queue v a.cause a.score)) (sym of))
    (c.end_speech.ensures es e queue q)

pub returns-in-Recognizer : goal.returns-in-Recognizer
returns-in-Recognizer c = λ es e queue q.
    let a = c.args in
    let v = view a.last a.c es in
    let of = c.in-Recognizer.is in
    let active = c.active-first.ensures ∙ ap first q in
    let few = subst (λ (x : Entry). x.threshold ≤ 1000000) (sym c.active-first.ensures) (first_level a.c.queue) in
    let counts = c.counted-counted.ensures few ∙ ap (λ (x : Entry). counted x.threshold a.cause a.score) active in
    turned (ap (λ n. deliver v 0 (length a.out.now) (recognized e queue v n)) counts
    ∙ ap (λ (k : Kind). deliver v 0 (length a.out.now) (completed k e queue v a.cause a.score)) (sym of))
    (c.end_recognized.ensures es e queue q)
