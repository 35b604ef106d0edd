-- `digits::number` meets its contract: the digits that were read say which way the definition goes. Assumes nothing.
use native.Mathlib.Omega.{arith}
use Rattle.digits.proofs.Scanning.{scanned_short, scanned_wrong, scanned_got}
use Rattle.digits.proofs.number.Goals as goal

pub returns-then-run-s : goal.returns-then-run-s
returns-then-run-s c =
    let a = c.args in
    let run = c.run_at-run in
    scanned_short a.s.now a.at a.max _ _ _ (omega arith) c.min-from.ensures run.ensures.behind run.ensures.digits
    c.if-s-from.true c.if-run-s.true

pub returns-then-run-from : goal.returns-then-run-from
returns-then-run-from c =
    let a = c.args in
    let run = c.run_at-run in
    scanned_wrong a.s.now a.at a.max c.clamp-most.result _ _ (omega arith) c.min-from.ensures
    run.ensures.behind run.ensures.digits (λ h e. omega (arith, c.else-s-from.either)) c.if-run-from.true

pub returns : goal.returns
returns c =
    let a = c.args in
    let run = c.run_at-run in
    scanned_got a.s.now a.at a.max c.clamp-most.result _ _ (omega arith) c.min-from.ensures
    run.ensures.behind run.ensures.digits (λ h e. omega (arith, c.else-s-from.either)) c.if-run-from.false
