-- `client::handle` refuses an unsound channel before all, and then goes by the framing. Assumes nothing.
use mathlib.Core.Path.{sym, ◌∙◌}
use mathlib.Core.List.{[]}
use lib.ListN.{length}
use Rattle.channel.specs.Channel.{view}
use Rattle.channel.proofs.Parts.{unshaped, size_short}
use Rattle.calls.specs.Refusals.{unframed}
use Rattle.calls.proofs.Leaving.{turned, leaves_refused, leaves_stopped, unsound_refused}
use Rattle.client.proofs.Messages.{framed_refused, sized, framed_line}
use Rattle.client.proofs.handle.Goals as goal

pub returns-then-not-is_shaped : goal.returns-then-not-is_shaped
returns-then-not-is_shaped c es n fit =
    let a = c.args in
    leaves_refused a.out.now c.into.ensures
    (unsound_refused (view a.last a.c es) _ (unshaped (view a.last a.c es) (sym (c.is_shaped.ensures es) ∙ c.if-not-is_shaped.true)))

pub slice_bounds-handle_frame-end : goal.slice_bounds-handle_frame-end
slice_bounds-handle_frame-end c =
    let a = c.args in
    sized a.s.now _ _ _ _ (sym c.frame.ensures ∙ c.in_ok-frame.was)

pub handle_frame-requires : goal.handle_frame-requires
handle_frame-requires c = size_short c.args.c _ c.well_formed.1.0 c.args.last []
    (sym (c.is_shaped.ensures []) ∙ c.if-not-is_shaped.false)

pub returns-in_err-frame : goal.returns-in_err-frame
returns-in_err-frame c es n fit =
    let a = c.args in
    let sane = fit ∙ sym (c.is_shaped.ensures es) ∙ c.if-not-is_shaped.false in
    leaves_stopped (record { refusal = unframed c.in_err-frame.field-0.0; consumed = 0 }) a.out.now
    c.from_residual.result c.from_residual.ensures.1
    (framed_refused (view a.last a.c es) a.s.now (length a.out.now) sane _ (sym c.frame.ensures ∙ c.in_err-frame.was))

pub returns : goal.returns
returns c es n fit =
    let a = c.args in
    let sane = fit ∙ sym (c.is_shaped.ensures es) ∙ c.if-not-is_shaped.false in
    let framed = framed_line (view a.last a.c es) a.s.now (length a.out.now) sane _ _ _ _ (sym c.frame.ensures ∙ c.in_ok-frame.was) in
    turned (sym framed) (c.handle_frame.ensures es n sane)
