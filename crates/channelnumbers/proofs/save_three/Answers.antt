-- `channelnumbers::save_three` stores six numbers, one behind the other. Assumes nothing.
use Prim.Native.Nat.{◌≤◌}
use Rattle.channelnumbers.proofs.Saving.{stored_six}
use borrow.Author.Rules.{rules}
use Rattle.channelnumbers.proofs.save_three.Goals as goal

pub returns : goal.returns
returns c =
    let a = c.args in
    let room : a.at ≤ 83 = search rules in
    rw (
      c.sort_number.ensures,
      c.value_number.ensures,
      c.sort_number-2.ensures,
      c.value_number-2.ensures,
      c.sort_number-3.ensures,
      c.value_number-3.ensures,
    ) (stored_six a.ws.now a.at _ _ _ _ _ _ c.told-ws room)
