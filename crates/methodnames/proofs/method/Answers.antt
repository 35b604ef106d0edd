-- `methodnames::method` meets its contract: the length says which names to compare with.
-- Assumes nothing.
use mathlib.Core.Path.{sym}
use borrow.Author.Rules.{rules}
use Rattle.methodnames.proofs.Methods.{method_by, method_none}
use Rattle.methodnames.proofs.method.Goals as goal

pub returns-in-4 : goal.returns-in-4
returns-in-4 c = rw (method_by c.args.name.now 4 c.in-4.is, sym c.if-equal.ensures)

pub returns-in-5 : goal.returns-in-5
returns-in-5 c = rw (method_by c.args.name.now 5 c.in-5.is, sym c.if-equal-2.ensures)

pub returns-in-5-2 : goal.returns-in-5-2
returns-in-5-2 c = rw (method_by c.args.name.now 5 c.in-5.is, sym c.if-equal-2.ensures, sym c.if-equal-3.ensures)

pub returns-in-6 : goal.returns-in-6
returns-in-6 c = rw (method_by c.args.name.now 6 c.in-6.is, sym c.if-equal-4.ensures)

pub returns-in-7 : goal.returns-in-7
returns-in-7 c = rw (method_by c.args.name.now 7 c.in-7.is, sym c.if-equal-5.ensures)

pub returns-in-9 : goal.returns-in-9
returns-in-9 c = rw (method_by c.args.name.now 9 c.in-9.is, sym c.if-equal-6.ensures)

pub returns-in-10 : goal.returns-in-10
returns-in-10 c = rw (method_by c.args.name.now 10 c.in-10.is, sym c.if-equal-7.ensures)

pub returns-in-10-2 : goal.returns-in-10-2
returns-in-10-2 c = rw (method_by c.args.name.now 10 c.in-10.is, sym c.if-equal-7.ensures, sym c.if-equal-8.ensures)

pub returns-in-17 : goal.returns-in-17
returns-in-17 c = rw (method_by c.args.name.now 17 c.in-17.is, sym c.if-equal-9.ensures)

pub returns-in-18 : goal.returns-in-18
returns-in-18 c = rw (method_by c.args.name.now 18 c.in-18.is, sym c.if-equal-10.ensures)

pub returns-in_default : goal.returns-in_default
returns-in_default c = rw (method_by c.args.name.now 4 c.in-4.is, sym c.if-equal.ensures)

pub returns-in_default-2 : goal.returns-in_default-2
returns-in_default-2 c = rw (method_by c.args.name.now 5 c.in-5.is, sym c.if-equal-2.ensures, sym c.if-equal-3.ensures)

pub returns-in_default-3 : goal.returns-in_default-3
returns-in_default-3 c = rw (method_by c.args.name.now 6 c.in-6.is, sym c.if-equal-4.ensures)

pub returns-in_default-4 : goal.returns-in_default-4
returns-in_default-4 c = rw (method_by c.args.name.now 7 c.in-7.is, sym c.if-equal-5.ensures)

pub returns-in_default-5 : goal.returns-in_default-5
returns-in_default-5 c = rw (method_by c.args.name.now 9 c.in-9.is, sym c.if-equal-6.ensures)

pub returns-in_default-6 : goal.returns-in_default-6
returns-in_default-6 c = rw (method_by c.args.name.now 10 c.in-10.is, sym c.if-equal-7.ensures, sym c.if-equal-8.ensures)

pub returns-in_default-7 : goal.returns-in_default-7
returns-in_default-7 c = rw (method_by c.args.name.now 17 c.in-17.is, sym c.if-equal-9.ensures)

pub returns-in_default-8 : goal.returns-in_default-8
returns-in_default-8 c = rw (method_by c.args.name.now 18 c.in-18.is, sym c.if-equal-10.ensures)

pub returns-in_default-9 : goal.returns-in_default-9
returns-in_default-9 c = search (rules, method_none)
