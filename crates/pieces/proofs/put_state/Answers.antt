-- `pieces::put_state` meets its contract: each arm is told which state it has. Assumes nothing.
use mathlib.Core.Path.{ap}
use native.Mathlib.Omega.{arith}
use lib.ListN.{length}
use Rattle.message.specs.StartLines.{state_text}
use Rattle.message.specs.declared.RequestState.{RequestState}
use Rattle.pieces.proofs.put_state.Goals as goal

pub put_bytes-requires : goal.put_bytes-requires
put_bytes-requires c = omega (arith, ap (λ (s : RequestState). length (state_text s)) c.in-Pending.is)

pub put_bytes-requires-in-InProgress : goal.put_bytes-requires-in-InProgress
put_bytes-requires-in-InProgress c = omega (arith, ap (λ (s : RequestState). length (state_text s)) c.in-InProgress.is)

pub put_bytes-requires-in-Complete : goal.put_bytes-requires-in-Complete
put_bytes-requires-in-Complete c = omega (arith, ap (λ (s : RequestState). length (state_text s)) c.in-Complete.is)

pub returns-in-Pending : goal.returns-in-Pending
returns-in-Pending c = rw c.in-Pending.is c.put_bytes.ensures

pub returns-in-InProgress : goal.returns-in-InProgress
returns-in-InProgress c = rw c.in-InProgress.is c.put_bytes-in-InProgress.ensures

pub returns-in-Complete : goal.returns-in-Complete
returns-in-Complete c = rw c.in-Complete.is c.put_bytes-in-Complete.ensures
