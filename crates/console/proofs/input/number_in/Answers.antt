-- `number_in` meets its contract: there is a digit, and no other byte.
use Rattle.std.proofs.Common.{rules, arith, sym, ap, ◌∙◌, ltb, ℕ}
use Rattle.std.specs.Bool.{then_some}
use Rattle.console.specs.Numbers.{none_of, another, all_digits, uncapped}
use Rattle.console.proofs.input.number_in.Goals as goal

pub returns-then-is_empty : goal.returns-then-is_empty
returns-then-is_empty c = sym (none_of _ (search rules))

pub returns-then-run_end-digits : goal.returns-then-run_end-digits
returns-then-run_end-digits c = sym (another _ (omega arith))

pub returns : goal.returns
returns c = c.then_some.ensures ∙ ap (λ (n : ℕ). then_some (ltb n 9223372036854775808) n) c.decimal-number.ensures ∙ uncapped _ ∙ sym (all_digits _ (search rules) (omega arith))
