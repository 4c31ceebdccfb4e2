use Rattle.enter_scan.proofs.NameLaws.{name_statement, name_no_statement, name_elsewhere}
use Rattle.enter_scan.proofs.names.kind_of_name.Goals as goal

pub returns-then-not-first : goal.returns-then-not-first
returns-then-not-first c = name_elsewhere c.args.name.now c.args.other c.if-not-first.true c.reserved_or.ensures

pub returns-in-Some : goal.returns-in-Some
returns-in-Some c = name_statement c.args.name.now c.args.other c.if-not-first.false c.statement_word.ensures c.in-Some.is

pub returns-in-None : goal.returns-in-None
returns-in-None c = name_no_statement c.args.name.now c.args.other c.if-not-first.false c.statement_word.ensures c.in-None.is c.reserved_or-in-None.ensures
