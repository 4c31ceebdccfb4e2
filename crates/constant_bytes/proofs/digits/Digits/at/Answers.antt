-- The digit before the point, after it, or past the last.
use mathlib.Core.Path.{◌≡◌}
use Prim.Native.Nat.{ℕ, ◌≤◌}
use native.Mathlib.Omega.{arith}
use Rattle.constant_bytes.specs.Numerals.{digits_in, digit_at}
use Rattle.constant_bytes.specs.declared.digits.Digits.{Digits}
use Rattle.constant_bytes.proofs.Places.{all_digits, whole_low, fraction_low, whole_digit, fraction_digit, past_digit}
use Rattle.constant_bytes.proofs.TenDigits.{digit_at_most}
use Rattle.constant_bytes.proofs.digits.Digits.at.Goals as goal

-- what is a digit is at most 9
small : (d : Digits) (i r : ℕ) → r ≡ digit_at (digits_in d.text.now d.numeral) i → (r ≡ digit_at (digits_in d.text.now d.numeral) i) × (r ≤ 9)
small d i r e = (e, omega (arith, e, digit_at_most (digits_in d.text.now d.numeral) i (all_digits d.text.now d.numeral d.written)))

pub overflow_sub-result : goal.overflow_sub-result
overflow_sub-result c = let d = c.args.self in whole_low d.text.now d.numeral d.written c.args.i c.if-i-self.true

pub returns-then-i-self : goal.returns-then-i-self
returns-then-i-self c = let d = c.args.self in small d c.args.i _ (whole_digit d.text.now d.numeral d.written c.args.i c.if-i-self.true)

pub overflow_sub-result-then-i-self-2 : goal.overflow_sub-result-then-i-self-2
overflow_sub-result-then-i-self-2 c = let d = c.args.self in fraction_low d.text.now d.numeral d.written c.args.i c.if-i-self.false c.if-i-self-2.true

pub returns-then-i-self-2 : goal.returns-then-i-self-2
returns-then-i-self-2 c = let d = c.args.self in small d c.args.i _ (fraction_digit d.text.now d.numeral d.written c.args.i c.if-i-self.false c.if-i-self-2.true)

pub returns-else-i-self-2 : goal.returns-else-i-self-2
returns-else-i-self-2 c = let d = c.args.self in small d c.args.i _ (past_digit d.text.now d.numeral d.written c.args.i c.if-i-self.false c.if-i-self-2.false)
