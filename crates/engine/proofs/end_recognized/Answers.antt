-- `engine::end_recognized` goes by the cause. Assumes nothing.
use Prim.Native.Nat.{ℕ}
use mathlib.Core.Path.{sym, ap, ◌∙◌}
use lib.ListN.{length}
use Rattle.synth.specs.Calls.{deliver}
use Rattle.channel.specs.Channel.{view}
use Rattle.calls.proofs.Leaving.{turned}
use Rattle.engine.proofs.Reports.{queue_within, match_starts, other_ends}
use Rattle.engine.specs.Endings.{ends_marked}
use Rattle.engine.proofs.end_recognized.Goals.{then-is_match, else-is_match}
use Rattle.engine.proofs.end_recognized.Goals as goal

pub end_recognitions-requires : goal.end_recognitions-requires
end_recognitions-requires c = c.requires

pub returns : goal.returns
returns c = λ es e queue q.
    let a = c.args in
    let v = view a.last a.c es in
    let few = queue_within v (c.requires es) in
    turned (elim c.if-is_match.branch [
      | then-is_match w ↦ ap (λ (n : ℕ). deliver v 0 (length a.out.now) (ends_marked n v a.cause)) w.ended-is
          ∙ ap (deliver v 0 (length a.out.now)) (match_starts v e queue q few a.cause (sym c.is_match.ensures ∙ w.if-is_match.true))
      | else-is_match w ↦ ap (λ (n : ℕ). deliver v 0 (length a.out.now) (ends_marked n v a.cause)) w.ended-is
          ∙ ap (deliver v 0 (length a.out.now)) (other_ends v e queue q few a.cause (sym c.is_match.ensures ∙ w.if-is_match.false))
    ]) (c.end_recognitions.ensures es)
