-- `sizes::response_size` meets its contract. Assumes nothing.
use Prim.Native.Nat.{◌+◌}
use lib.ListN.{length}
use Rattle.answer.specs.Written.{fields_text}
use Rattle.answer.specs.Answers.{active_request_id_list}
use Rattle.sizes.proofs.Messages.{response_measured, saturated}
use Rattle.sizes.proofs.response_size.Goals as goal

pub returns : goal.returns
returns c =
    let a = c.args in
    let name = a.name.now in
    let cap = length a.out.now in
    let list = length (fields_text (active_request_id_list a.ids.now)) in
    rw (response_measured name a.a a.ids.now, ← c.words_size.ensures.0)
    (saturated (35 + length name) _ list cap c.message_size.ensures c.list_size.ensures)
