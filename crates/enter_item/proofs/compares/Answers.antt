use Rattle.std.specs.Prelude.{ℕ, zero, suc, ◌+◌, ◌-◌, ◌<◌, ◌≤◌, ◌≡◌, refl, true}
use Rattle.std.proofs.Common.{arith, ap, ◌∙◌, ne_eqb}
use Rattle.paper.specs.Classes.{equals, comparison}
use Rattle.enter_item.specs.Tests.{compares?}
use Rattle.enter_item.proofs.compares.Goals as goal

-- the classes of the two stand side by side
two : (k : ℕ) → k < 2 → true ≡ compares? (equals + k)
unfolding compares?
two zero h = refl
two (suc zero) h = refl
two (suc (suc k)) h = absurd (omega arith)

between : (c : ℕ) → equals ≤ c → c ≤ comparison → true ≡ compares? c
between c l h = let e : equals + (c - equals) ≡ c = omega arith in two (c - equals) (omega arith) ∙ ap compares? e

pub returns-in-17 : goal.returns-in-17
returns-in-17 c = between _ (omega arith) (omega arith)

pub returns-in_default : goal.returns-in_default
unfolding compares?
returns-in_default c = rw (ne_eqb c.args.class comparison (λ e. omega arith), ne_eqb c.args.class equals (λ e. omega arith))

pub returns-in_default-2 : goal.returns-in_default-2
unfolding compares?
returns-in_default-2 c = rw (ne_eqb c.args.class comparison (λ e. omega arith), ne_eqb c.args.class equals (λ e. omega arith))
