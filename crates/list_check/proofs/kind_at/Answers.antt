use native.Mathlib.Omega.{arith}
use mathlib.Core.Path.{sym, ◌∙◌}
use mathlib.Core.Bool.{true, false}
use lib.ListN.{take}
use Rattle.paper.specs.Names.{names_in}
use Rattle.names_kinds.specs.Kinds.{kind_class, kind_word}
use Rattle.list_check.proofs.Walking.{kind_none, kind_known}
use Rattle.list_check.proofs.kind_at.Goals as goal

pub returns-then-own-eq0 : goal.returns-then-own-eq0
returns-then-own-eq0 c = kind_none (names_in (take c.args.size c.args.names.now)) c.args.number c.class_at-own.ensures c.if-own-eq0.true

pub overflow_add-result : goal.overflow_add-result
overflow_add-result c = record { fits = omega (arith, c.class_at-own.ensures) }

pub returns-then-is_statement_word : goal.returns-then-is_statement_word
returns-then-is_statement_word c = omega (arith, c.class_at-own.ensures, kind_class (names_in (take c.args.size c.args.names.now)) c.args.number (kind_known (names_in (take c.args.size c.args.names.now)) c.args.number c.class_at-own.ensures c.if-own-eq0.false), kind_word (names_in (take c.args.size c.args.names.now)) c.args.number (kind_known (names_in (take c.args.size c.args.names.now)) c.args.number c.class_at-own.ensures c.if-own-eq0.false) true (sym c.is_statement_word.ensures ∙ c.if-is_statement_word.true))

pub returns-else-is_statement_word : goal.returns-else-is_statement_word
returns-else-is_statement_word c = omega (arith, c.class_at-own.ensures, kind_class (names_in (take c.args.size c.args.names.now)) c.args.number (kind_known (names_in (take c.args.size c.args.names.now)) c.args.number c.class_at-own.ensures c.if-own-eq0.false), kind_word (names_in (take c.args.size c.args.names.now)) c.args.number (kind_known (names_in (take c.args.size c.args.names.now)) c.args.number c.class_at-own.ensures c.if-own-eq0.false) false (sym c.is_statement_word.ensures ∙ c.if-is_statement_word.false))
