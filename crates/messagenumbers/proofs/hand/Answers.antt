-- `messagenumbers::hand` meets its contract. Assumes nothing.
use native.Mathlib.Omega.{arith}
use Rattle.messagenumbers.proofs.Handing.{hand_laid}
use Rattle.messagenumbers.proofs.hand.Goals as goal

pub returns : goal.returns
returns c =
    let a = c.args in
    rw (c.copy_from_slice.ensures.after, c.copy_from_slice-2.ensures.after, c.copy_from_slice-3.ensures.after)
    (hand_laid a.start.now a.front.now a.fields.now a.out.now c.told-start c.told-front (omega arith))
