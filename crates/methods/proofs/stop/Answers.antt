-- `methods::stop` ends all where no list came. Assumes nothing.
use Prim.Native.Nat.{ℕ}
use mathlib.Core.Path.{◌≡◌, refl, sym, ap, ◌∙◌}
use mathlib.Core.Option.{none, some}
use mathlib.Core.Bool.{false}
use mathlib.Core.List.{List}
use Rattle.message.specs.Message.{Fields}
use Rattle.message.specs.Folds.{joined}
use Rattle.message.specs.declared.Known.TheVariants.{ActiveRequestIdList}
use Rattle.synth.specs.Channel.{View, with_queue}
use Rattle.synth.specs.Request.{acting, ignores_any}
use Rattle.synth.specs.declared.Method.{Method}
use Rattle.queue.specs.Queue.{list_of}
use Rattle.values.specs.Values.{given_of}
use Rattle.request.specs.Telling.{Tells}
use Rattle.outcomes.specs.Outcomes.{asked}
use Rattle.methods.proofs.Methods.{stop_legal, list_told, ignored_in_stop}
use Rattle.methods.proofs.Stops.{all_stop}
use Rattle.methods.proofs.stop.Goals as goal
use Rattle.methods.proofs.stop.Goals.{After-meets-ignored, After-value}

asked_ignored : (c : After-meets-ignored) (v : View) (major minor : ℕ) (fs : Fields (List ℕ)) → let a = c.args in
    Tells false a.f.now a.h fs → c.meets-ignored.result ≡ ignores_any (asked major minor Method.Stop a.id fs)
asked_ignored c v major minor fs told =
    let a = c.args in
    c.meets-ignored.ensures ∙ ignored_in_stop v major minor a.id fs a.f.now a.h told

asked_list : (c : After-value) (v : View) (major minor : ℕ) (fs : Fields (List ℕ)) → let a = c.args in
    Tells false a.f.now a.h fs → given_of a.f.now c.value.result ≡ acting ActiveRequestIdList (asked major minor Method.Stop a.id fs)
asked_list c v major minor fs told =
    let a = c.args in
    ap (given_of a.f.now) c.value.ensures ∙ list_told v major minor a.id fs a.f.now a.h told

pub returns-in_default : goal.returns-in_default
returns-in_default c = λ few v major minor fs told.
    let a = c.args in
    let said = asked_list (goal.at.returns-in_default c).After-value v major minor fs told in
    all_stop a.state a.q v (asked major minor Method.Stop a.id fs) (asked_ignored (goal.at.returns-in_default c).After-meets-ignored v major minor fs told) few (c.end.ensures few)
    (stop_legal (with_queue a.state (list_of a.q) v) major minor a.id fs none (ap (given_of a.f.now) (sym c.in_default.is) ∙ said) refl)

pub returns : goal.returns
returns c = λ few v major minor fs told.
    let a = c.args in
    let said = asked_list (goal.at.returns c).After-value v major minor fs told in
    c.stop_named.ensures few v major minor fs
    (asked_ignored (goal.at.returns c).After-meets-ignored v major minor fs told, ap (λ v. some (joined v)) c.part.ensures ∙ ap (given_of a.f.now) (sym c.in-Some.is) ∙ said)
