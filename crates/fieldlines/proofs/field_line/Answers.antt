-- `fieldlines::field_line` meets its contract: each `return` has its law.
-- Assumes nothing.
use mathlib.Core.Path.{sym, ap, ◌∙◌}
use Prim.Native.Nat.{◌+◌}
use lib.ListN.{drop}
use Rattle.std.specs.Prelude.{Some}
use Rattle.octets.specs.Octets.{is_name, is_value, is_blank}
use Rattle.octets.proofs.Bits.{name_bit, value_bit, blank_bit}
use Rattle.fieldlines.specs.Steps.{line_of}
use Rattle.fieldlines.specs.declared.Field.{Field}
use Rattle.fieldlines.specs.declared.Line.{Line}
use Rattle.fieldlines.proofs.Lining.{line_empty, line_none, line_long, line_colon, line_folded, line_field}
use Rattle.fieldlines.proofs.field_line.Goals as goal
use Rattle.fieldlines.proofs.field_line.Goals.{then-n-at-gt64-via-then-n-at-gt64}
use Rattle.fieldlines.proofs.field_line.Goals.{then-n-at-gt64-via-else-n-at-gt64+then-not-has}

pub returns-then-crlf : goal.returns-then-crlf
returns-then-crlf c t =
    let a = c.args in
    ap line_of (sym (line_empty a.at (drop a.at a.f.now) (sym c.crlf.ensures ∙ c.if-crlf.true)))

pub returns-then-n-at : goal.returns-then-n-at
returns-then-n-at c t =
    let a = c.args in
    ap line_of (sym (line_none a.f.now a.at _ (c.class_end-n.ensures.2 t is_name name_bit) c.if-n-at.true
    (sym c.crlf.ensures ∙ c.if-crlf.false)))

pub returns-then-n-at-gt64 : goal.returns-then-n-at-gt64
returns-then-n-at-gt64 c t =
    let a = c.args in
    let name = c.class_end-n.ensures.2 t is_name name_bit in
    ap line_of (sym (elim c.then-n-at-gt64.branch [
      | then-n-at-gt64-via-then-n-at-gt64 w ↦ line_long a.f.now a.at _ name c.if-n-at.false w.if-n-at-gt64.true
      | then-n-at-gt64-via-else-n-at-gt64+then-not-has w ↦ line_colon a.f.now a.at _ name c.if-n-at.false
          w.if-n-at-gt64.false (sym w.has.ensures ∙ w.if-not-has.true)
    ]))

pub returns-then-not-ends : goal.returns-then-not-ends
returns-then-not-ends c t =
    let a = c.args in
    c.folded.ensures t ∙ ap line_of (sym (line_folded a.f.now a.at _ (c.class_end-n.ensures.2 t is_name name_bit)
    c.if-n-at.false c.if-n-at-gt64.false (sym c.has.ensures ∙ c.if-not-has.false)
    _ (c.class_end_by_one-v.ensures.2 t is_blank blank_bit) _ (c.class_end-end.ensures.2 t is_value value_bit)))

pub returns : goal.returns
returns c t =
    let a = c.args in
    ap (λ (x : Field). Some (Line.Field x (c.class_end-end.result + 2))) (c.placed.ensures t)
    ∙ line_field a.f.now a.at _ (c.class_end-n.ensures.2 t is_name name_bit)
    c.if-n-at.false c.if-n-at-gt64.false (sym c.has.ensures ∙ c.if-not-has.false)
    _ (c.class_end_by_one-v.ensures.2 t is_blank blank_bit) _ (c.class_end-end.ensures.2 t is_value value_bit)
    (sym c.ends.ensures ∙ c.if-not-ends.false)
