-- `digits::run` meets its contract. The loop's invariant: the bytes so far are digits, and the number so far is theirs.
-- Assumes nothing.
use mathlib.Core.Path.{◌≡◌}
use mathlib.Core.Bool.{true}
use Prim.Native.Nat.{◌-◌}
use lib.ListN.{take, drop}
use Rattle.lists.specs.Lists.{all}
use Rattle.octets.specs.Octets.{is_digit}
use Rattle.readers.specs.Words.{number_of}
use Rattle.digits.proofs.run.Given as goal

abbrev pub invariant-loop-next : goal.invariant-loop-next
invariant-loop-next l = record {
  digits : all is_digit (take (l.next - l.at) (drop l.at l.l)) ≡ true;
  written : l.value ≡ number_of (take (l.next - l.at) (drop l.at l.l));
}
