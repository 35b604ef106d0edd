-- `pieces::put_cause` meets its contract: five runs, one behind the other. Assumes nothing.
use Prim.Native.Nat.{ℕ}
use native.Mathlib.Omega.{arith}
use mathlib.Core.Path.{◌≡◌}
use mathlib.Core.List.{List, [], ◌++◌, append_assoc}
use lib.ListN.{get_or}
use Rattle.octets.specs.Octets.{bytes, crlf}
use Rattle.writers.specs.Decimal.{three_digits}
use Rattle.writers.proofs.Digits.{three_length}
use Rattle.writers.proofs.Put.{◌▸◌}
use Rattle.answer.specs.Written.{field_text}
use Rattle.answer.specs.Answers.{cause_names, completion_cause}
use Rattle.answer.specs.declared.Kind.{Kind}
use Rattle.answer.proofs.Causes.{cause_length}
use Rattle.pieces.proofs.put_cause.Goals as goal

-- the five runs are the field
cause_field : (kind : Kind) (cause : ℕ)
    → bytes "Completion-Cause:" ++ three_digits cause ++ bytes " " ++ get_or (cause_names kind) cause [] ++ crlf
    ≡ field_text (completion_cause kind cause)
unfolding field_text
cause_field kind cause = three (bytes "Completion-Cause:") (three_digits cause) (bytes " ") (get_or (cause_names kind) cause []) crlf
  where
    three : (a x b y z : List ℕ) → a ++ x ++ b ++ y ++ z ≡ a ++ (x ++ b ++ y) ++ z
    three a x b y z = simp append_assoc

pub put_bytes-p-requires : goal.put_bytes-p-requires
put_bytes-p-requires c = omega (arith, cause_length c.args.kind c.args.cause)

pub put_three-q-requires : goal.put_three-q-requires
put_three-q-requires c = omega (arith, cause_length c.args.kind c.args.cause)

pub put_bytes-r-requires : goal.put_bytes-r-requires
put_bytes-r-requires c = omega (arith, cause_length c.args.kind c.args.cause, three_length c.args.cause)

pub put_bytes-s-requires : goal.put_bytes-s-requires
put_bytes-s-requires c = grind (arith, cause_length c.args.kind c.args.cause, three_length c.args.cause)

pub put_bytes-requires : goal.put_bytes-requires
put_bytes-requires c = grind (arith, cause_length c.args.kind c.args.cause, three_length c.args.cause)

pub returns : goal.returns
returns c = rw (← cause_field c.args.kind c.args.cause, ← c.cause_name.ensures.text)
    (c.put_bytes-p.ensures
    ▸ c.put_three-q.ensures
    ▸ c.put_bytes-r.ensures
    ▸ c.put_bytes-s.ensures
    ▸ c.put_bytes.ensures)
