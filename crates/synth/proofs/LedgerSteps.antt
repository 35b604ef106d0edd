-- The ledger of a call, read from what it wrote, has the effect that the call has on the channel. Assumes nothing.
use mathlib.Core.Logic.{⊎_elim}
use native.Mathlib.Nat.{le_refl}
use Rattle.answer.proofs.Theorems.ListsReadBack.{all_back}
use Rattle.ledger.specs.Ledger.{Turn}
use Rattle.ledger.proofs.Effects.{Effect, nothing}
use Rattle.synth.specs.Channel.{View, held, first_above}
use Rattle.synth.specs.Calls.{Call, Reply, call}
use Rattle.synth.specs.Demand3.{ledger_accepts, ledger_closes, accepts, closes}
use Rattle.synth.proofs.Turns.{Refuses, Handles, call_law}

module _ (v : View) (c : Call) (t : Turn View Reply) where
  refused_effect : Refuses v t
      → Effect (held v) (first_above v.last) (accepts c t.reply) (closes c t.reply) (held t.next) (first_above t.next.last)
  unfolding ledger_accepts ledger_closes
  refused_effect h = rw (h.number, h.kept) (nothing (held v) (first_above v.last) (first_above v.last) (le_refl _))

  handled_effect : Handles v c.lent t
      → Effect (held v) (first_above v.last) (accepts c t.reply) (closes c t.reply) (held t.next) (first_above t.next.last)
  unfolding ledger_accepts ledger_closes
  handled_effect h = rw (h.number, h.written, all_back h.says h.writable) h.effect

pub call_effect : (v : View) (c : Call)
    → Effect (held v) (first_above v.last) (accepts c (call v c).reply) (closes c (call v c).reply) (held (call v c).next) (first_above (call v c).next.last)
call_effect v c = ⊎_elim (refused_effect v c (call v c)) (handled_effect v c (call v c)) (call_law v c).does
