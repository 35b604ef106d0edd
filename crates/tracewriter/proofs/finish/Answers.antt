-- `tracewriter::finish` meets its contract. Assumes nothing.
use Rattle.std.proofs.Common.{arith}
use Rattle.std.proofs.lemmas.Grind.{common_steps}
use Rattle.writers.proofs.Put.{◌▸◌, kept}
use Rattle.traces.specs.Traces.{finished}
use Rattle.traces.proofs.Files.{trailer_length}
use Rattle.tracewriter.proofs.Leaving.{finish_ready, finish_index, ending_is}
use Rattle.tracewriter.proofs.finish.Goals as goal

pub put_index-p-requires : goal.put_index-p-requires
put_index-p-requires c = grind (arith, common_steps, finish_ready)

pub put_trailer-requires : goal.put_trailer-requires
put_trailer-requires c = grind (arith, common_steps, finish_ready, finish_index, kept c.put_index-p.ensures)

pub returns-clause-value : goal.returns-clause-value
unfolding finished
returns-clause-value c =
    let n = trailer_length c.args.used c.args.count in
    grind (arith, common_steps, finish_index, c.put_index-p.ensures, c.put_trailer.ensures, n)

pub returns-clause-out_after : goal.returns-clause-out_after
unfolding finished
returns-clause-out_after c =
    let w = (c.put_index-p.ensures ▸ c.put_trailer.ensures).bytes in
    grind (arith, common_steps, w, ending_is)
