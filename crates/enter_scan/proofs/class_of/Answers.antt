use mathlib.Core.Path.{sym, ap, ◌∙◌}
use Rattle.enter_scan.specs.Kinds.{class_of}
use Rattle.enter_scan.specs.declared.Kind.{Kind}
use Rattle.enter_scan.proofs.class_of.Goals as goal

pub returns-in-Numeric : goal.returns-in-Numeric
unfolding class_of
returns-in-Numeric c = c.by_position.ensures ∙ sym (ap (λ (k : Kind). class_of k c.args.first) c.in-Numeric.is)

pub returns-in-Text : goal.returns-in-Text
unfolding class_of
returns-in-Text c = c.by_position-in-Text.ensures ∙ sym (ap (λ (k : Kind). class_of k c.args.first) c.in-Text.is)

pub returns-in-Array : goal.returns-in-Array
unfolding class_of
returns-in-Array c = c.by_position-in-Array.ensures ∙ sym (ap (λ (k : Kind). class_of k c.args.first) c.in-Array.is)

pub returns-in-Number : goal.returns-in-Number
unfolding class_of
returns-in-Number c = sym (ap (λ (k : Kind). class_of k c.args.first) c.in-Number.is)

pub returns-in-Quoted : goal.returns-in-Quoted
unfolding class_of
returns-in-Quoted c = sym (ap (λ (k : Kind). class_of k c.args.first) c.in-Quoted.is)

pub returns-in-Operator : goal.returns-in-Operator
unfolding class_of
returns-in-Operator c = c.operator_class.ensures ∙ sym (ap (λ (k : Kind). class_of k c.args.first) c.in-Operator.is)

pub returns-in-Function : goal.returns-in-Function
unfolding class_of
returns-in-Function c = c.operator_class-in-Function.ensures ∙ sym (ap (λ (k : Kind). class_of k c.args.first) c.in-Function.is)

pub returns-in-Statement : goal.returns-in-Statement
unfolding class_of
returns-in-Statement c = c.statement_class.ensures ∙ sym (ap (λ (k : Kind). class_of k c.args.first) c.in-Statement.is)

pub returns-in-End : goal.returns-in-End
unfolding class_of
returns-in-End c = sym (ap (λ (k : Kind). class_of k c.args.first) c.in-End.is)

pub returns-in-Bad : goal.returns-in-Bad
unfolding class_of
returns-in-Bad c = sym (ap (λ (k : Kind). class_of k c.args.first) c.in-Bad.is)
