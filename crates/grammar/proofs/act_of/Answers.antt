use Rattle.std.proofs.Common.{arith}
use Rattle.grammar.proofs.Laid.{first_low, taken, left, refused}
use Rattle.grammar.proofs.act_of.Goals as goal

pub overflow_add-first : goal.overflow_add-first
overflow_add-first c = record { fits = omega (arith, first_low c.args.frame) }

pub returns-then-entry-class : goal.returns-then-entry-class
returns-then-entry-class c = taken c.args.frame c.args.class c.first_of-first.result c.entry_at-entry.result c.requires c.first_of-first.ensures c.entry_at-entry.ensures c.if-entry-class.true

pub returns-then-first-lt-REFUSING : goal.returns-then-first-lt-REFUSING
returns-then-first-lt-REFUSING c = left c.args.frame c.args.class c.first_of-first.result c.entry_at-entry.result c.requires c.first_of-first.ensures c.entry_at-entry.ensures c.if-entry-class.false c.if-first-lt-REFUSING.true

pub returns : goal.returns
returns c = refused c.args.frame c.args.class c.first_of-first.result c.entry_at-entry.result c.requires c.first_of-first.ensures c.entry_at-entry.ensures c.if-entry-class.false c.if-first-lt-REFUSING.false
