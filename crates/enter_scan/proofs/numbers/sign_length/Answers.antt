use Rattle.std.proofs.Common.{sym, ap, ne_eqb}
use mathlib.Core.Logic.{inl, inr}
use Rattle.paper.specs.Items.{sign_size}
use Rattle.enter_scan.proofs.numbers.sign_length.Goals as goal

pub returns-in-43 : goal.returns-in-43
unfolding sign_size
returns-in-43 c = elim c.in-43.is [ inl h ↦ sym (ap sign_size h) | inr h ↦ sym (ap sign_size h) ]

pub returns-in_default : goal.returns-in_default
unfolding sign_size
returns-in_default c = let other = c.in_default.in_default-own.rest.1 in rw (ne_eqb c.args.b 43 (λ e. other (inl e)), ne_eqb c.args.b 45 (λ e. other (inr e)))
