-- `client::handle_frame` goes by the start line. Assumes nothing.
use mathlib.Core.Path.{refl, sym, ap, ◌∙◌}
use lib.ListN.{length}
use Rattle.startline.specs.StartLine.{started_of}
use Rattle.channel.specs.Channel.{view}
use Rattle.calls.proofs.Leaving.{turned, leaves_refused}
use Rattle.client.specs.Turns.{frame_turn}
use Rattle.client.proofs.Messages.{in_range_lem}
use Rattle.client.proofs.handle_frame.Goals as goal

pub handle_line-requires : goal.handle_line-requires
handle_line-requires c = record {
  size_bound = c.requires;
  in_range = in_range_lem c.args.frame.opening c.args.f.now c.in-Some.line.start c.in-Some.line.next (ap started_of (sym c.in-Some.is) ∙ c.start_line.ensures);
}

pub returns-in_default : goal.returns-in_default
returns-in_default c es n s =
    let a = c.args in
    leaves_refused a.out.now refl
    (ap (frame_turn (view a.last a.c es) (length a.out.now) a.f.now a.frame.major a.frame.minor) (sym c.in_default.ensures))

pub returns : goal.returns
returns c es n s =
    let a = c.args in
    turned (ap (frame_turn (view a.last a.c es) (length a.out.now) a.f.now a.frame.major a.frame.minor) (ap started_of (sym c.in-Some.is) ∙ c.start_line.ensures)) (c.handle_line.ensures es n s)
