-- `names::known` meets its contract: the length says which names to compare with.
-- Assumes nothing.
use mathlib.Core.Path.{sym}
use borrow.Author.Rules.{rules}
use Rattle.names.proofs.Names.{known_by, known_none}
use Rattle.names.proofs.known.Goals as goal

pub returns-in-11 : goal.returns-in-11
returns-in-11 c = rw (known_by c.args.n.now 11 c.in-11.is, sym c.if-alike.ensures)

pub returns-in-12 : goal.returns-in-12
returns-in-12 c = rw (known_by c.args.n.now 12 c.in-12.is, sym c.if-alike-2.ensures)

pub returns-in-13 : goal.returns-in-13
returns-in-13 c = rw (known_by c.args.n.now 13 c.in-13.is, sym c.if-alike-3.ensures)

pub returns-in-13-2 : goal.returns-in-13-2
returns-in-13-2 c = rw (known_by c.args.n.now 13 c.in-13.is, sym c.if-alike-3.ensures, sym c.if-alike-4.ensures)

pub returns-in-14 : goal.returns-in-14
returns-in-14 c = rw (known_by c.args.n.now 14 c.in-14.is, sym c.if-alike-5.ensures)

pub returns-in-16 : goal.returns-in-16
returns-in-16 c = rw (known_by c.args.n.now 16 c.in-16.is, sym c.if-alike-6.ensures)

pub returns-in-16-2 : goal.returns-in-16-2
returns-in-16-2 c = rw (known_by c.args.n.now 16 c.in-16.is, sym c.if-alike-6.ensures, sym c.if-alike-7.ensures)

pub returns-in-17 : goal.returns-in-17
returns-in-17 c = rw (known_by c.args.n.now 17 c.in-17.is, sym c.if-alike-8.ensures)

pub returns-in-18 : goal.returns-in-18
returns-in-18 c = rw (known_by c.args.n.now 18 c.in-18.is, sym c.if-alike-9.ensures)

pub returns-in-20 : goal.returns-in-20
returns-in-20 c = rw (known_by c.args.n.now 20 c.in-20.is, sym c.if-is_confidence_threshold.ensures)

pub returns-in-22 : goal.returns-in-22
returns-in-22 c = rw (known_by c.args.n.now 22 c.in-22.is, sym c.if-is_active_request_id_list.ensures)

pub returns-in_default : goal.returns-in_default
returns-in_default c = rw (known_by c.args.n.now 11 c.in-11.is, sym c.if-alike.ensures)

pub returns-in_default-2 : goal.returns-in_default-2
returns-in_default-2 c = rw (known_by c.args.n.now 12 c.in-12.is, sym c.if-alike-2.ensures)

pub returns-in_default-3 : goal.returns-in_default-3
returns-in_default-3 c = rw (known_by c.args.n.now 13 c.in-13.is, sym c.if-alike-3.ensures, sym c.if-alike-4.ensures)

pub returns-in_default-4 : goal.returns-in_default-4
returns-in_default-4 c = rw (known_by c.args.n.now 14 c.in-14.is, sym c.if-alike-5.ensures)

pub returns-in_default-5 : goal.returns-in_default-5
returns-in_default-5 c = rw (known_by c.args.n.now 16 c.in-16.is, sym c.if-alike-6.ensures, sym c.if-alike-7.ensures)

pub returns-in_default-6 : goal.returns-in_default-6
returns-in_default-6 c = rw (known_by c.args.n.now 17 c.in-17.is, sym c.if-alike-8.ensures)

pub returns-in_default-7 : goal.returns-in_default-7
returns-in_default-7 c = rw (known_by c.args.n.now 18 c.in-18.is, sym c.if-alike-9.ensures)

pub returns-in_default-8 : goal.returns-in_default-8
returns-in_default-8 c = rw (known_by c.args.n.now 20 c.in-20.is, sym c.if-is_confidence_threshold.ensures)

pub returns-in_default-9 : goal.returns-in_default-9
returns-in_default-9 c = rw (known_by c.args.n.now 22 c.in-22.is, sym c.if-is_active_request_id_list.ensures)

pub returns-in_default-10 : goal.returns-in_default-10
returns-in_default-10 c = search (rules, known_none)
