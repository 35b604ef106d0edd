-- `back::go_back` refuses a channel without its shape before all, and then a number not kept. Assumes nothing.
use mathlib.Core.Path.{◌≡◌, sym, ap, ◌∙◌}
use mathlib.Core.List.{[]}
use native.Mathlib.Omega.{arith}
use Rattle.std.proofs.Common.{Some}
use Rattle.synth.specs.Settings.{edition_at}
use Rattle.synth.specs.Calls.{refuse}
use Rattle.channel.specs.Channel.{view}
use Rattle.channel.proofs.Parts.{unshaped}
use Rattle.calls.specs.Refusals.{number_of}
use Rattle.calls.specs.declared.Refusal.TheVariants.{NotKept}
use Rattle.calls.proofs.Leaving.{leaves_refused, leaves_stopped, unsound_refused}
use Rattle.back.proofs.Going.{missing, found_none, found_some, none_kept, goes_to, leaves_further}
use Rattle.back.proofs.go_back.Goals as goal

pub returns-then-not-is_shaped : goal.returns-then-not-is_shaped
returns-then-not-is_shaped c es number found fit =
    let a = c.args in
    let no = sym (c.is_shaped.ensures es) ∙ c.if-not-is_shaped.true in
    leaves_refused [] c.into.ensures (unsound_refused (view a.last a.c es) _ (unshaped (view a.last a.c es) no))

pub returns-in_err-edition : goal.returns-in_err-edition
returns-in_err-edition c es number found fit =
    let a = c.args in
    let v = view a.last a.c es in
    let shape = sym (c.is_shaped.ensures es) ∙ c.if-not-is_shaped.false in
    let m = missing a.found NotKept _ (sym c.ok_or.ensures.value ∙ c.in_err-edition.was) in
    let none = found_none (edition_at number es) (sym m.0 ∙ found shape) in
    leaves_stopped (record { refusal = c.in_err-edition.field-0.0; consumed = 0 }) [] c.from_residual.result c.from_residual.ensures.1
    (none_kept v number (fit ∙ shape) none ∙ ap (λ x. refuse v (number_of x) 0) (sym m.1))

pub returns : goal.returns
returns c es number found fit =
    let a = c.args in
    let shape = sym (c.is_shaped.ensures es) ∙ c.if-not-is_shaped.false in
    let there : a.found ≡ Some c.in_ok-edition.edition = grind arith in
    let some = found_some _ (edition_at number es) (sym there ∙ found shape) in
    leaves_further a.last a.c es _ (goes_to (view a.last a.c es) number (fit ∙ shape) _ some)
