use Rattle.std.proofs.Common.{eqb-true}
use mathlib.Core.Logic.{inl, inr}
use Rattle.grammar.proofs.Common.{a_line_end, a_number, a_variable, a_close, a_comma}
use Rattle.grammar.proofs.is_last.Goals as goal

pub returns-in-2 : goal.returns-in-2
returns-in-2 c = λ e. rw (c.in-2.is, eqb-true c.args.class 0 e) a_line_end

pub returns-in-3 : goal.returns-in-3
returns-in-3 c = λ e. elim c.in-3.is [ inl h ↦ rw (c.in-5.is, h) a_number | inr h ↦ rw (c.in-5.is, h) a_variable ]

pub returns-in-9 : goal.returns-in-9
returns-in-9 c = λ e. rw (c.in-9.is, eqb-true c.args.class 12 e) a_close

pub returns-in-34 : goal.returns-in-34
returns-in-34 c = λ e. rw (c.in-34.is, eqb-true c.args.class 13 e) a_comma
