-- `digits::run` meets its contract. Assumes nothing.
use mathlib.Core.Path.{◌≡◌, sym, ap, ap₂, ◌∙◌}
use Prim.Native.Nat.{◌+◌, ◌-◌, ◌*◌}
use native.Mathlib.Omega.{arith}
use lib.ListN.{length, get_or, drop, length-drop}
use Rattle.octets.specs.Octets.{is_digit}
use Rattle.digits.proofs.Scanning.{below_18, run_ends, one_more, digit_at}
use Rattle.digits.proofs.run.Goals as goal
use Rattle.digits.proofs.run.Goals.{In-loop-next}

pub returns-then-d-gt9-clause-digits : goal.returns-then-d-gt9-clause-digits
returns-then-d-gt9-clause-digits c =
    let a = c.args in
    let l = c.loop-next in
    let left = drop a.at a.l.now in
    let x = length-drop a.at a.l.now in
    run_ends (l.next - a.at) left (omega arith) l.invariant.digits l.value l.invariant.written (omega arith)
    (λ _. ap is_digit (digit_at a.l.now a.at l.next (omega arith)) ∙ c.digit_value-d.ensures.0 c.if-d-gt9.true)

pub overflow_mul-value : goal.overflow_mul-value
overflow_mul-value c =
    let a = c.args in
    let l = c.loop-next in
    let x = length-drop a.at a.l.now in
    let small = below_18 (l.next - a.at) (drop a.at a.l.now) (omega arith) l.invariant.digits (omega arith) in
    omega (arith, l.invariant.written)

pub overflow_add-value : goal.overflow_add-value
overflow_add-value c =
    let a = c.args in
    let l = c.loop-next in
    let x = length-drop a.at a.l.now in
    let small = below_18 (l.next - a.at) (drop a.at a.l.now) (omega arith) l.invariant.digits (omega arith) in
    omega (arith, l.invariant.written)

pub loop-next-preserved : goal.loop-next-preserved
loop-next-preserved c =
    let a = c.args in
    let l = c.loop-next in
    let n = l.next - a.at in
    let left = drop a.at a.l.now in
    let x = length-drop a.at a.l.now in
    let here = digit_at a.l.now a.at l.next (omega arith) in
    let (is, worth) = c.digit_value-d.ensures.1 c.if-d-gt9.false in
    let (digits, written) = one_more n left (omega arith) l.invariant.digits (omega arith) (ap is_digit here ∙ is) in
    let d : c.from.result ≡ get_or left n 0 - 48 = c.from.ensures ∙ worth ∙ ap (λ b. b - 48) (sym here) in
    let next : n + 1 ≡ l.next + 1 - a.at = omega arith in
    rw (← next) record { digits = digits; written = ap₂ (λ v d. v * 10 + d) l.invariant.written d ∙ written }

pub returns-clause-digits : goal.returns-clause-digits
returns-clause-digits c =
    let a = c.args in
    let l = c.loop-next in
    let x = length-drop a.at a.l.now in
    let end : l.next ≡ length a.l.now = omega arith in
    let left = drop a.at a.l.now in
    rw (← end)
    (run_ends (l.next - a.at) left (omega arith) l.invariant.digits l.value l.invariant.written (omega arith)
    (λ h. absurd (omega arith)))
