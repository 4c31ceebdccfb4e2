-- Without useless zeros, the digits up to `end` are all.
use Prim.Native.Nat.{ℕ, ◌+◌, ◌-◌}
use native.Mathlib.Omega.{arith}
use mathlib.Core.Path.{◌≡◌, subst}
use Rattle.constant_text.specs.Texts.{digits_here, Trims}
use Rattle.constant_text.proofs.TextDigits.{ten_here, trim_all, trim_one, trim_stop, trim_none}
use Rattle.constant_text.proofs.texts.last.Goals as goal

pub loop-end-init : goal.loop-end-init
loop-end-init c = (omega arith, trim_all (digits_here c.args.six.now 0) c.args.point (ten_here c.args.six.now 0))

pub returns-then-digit-ne48 : goal.returns-then-digit-ne48
returns-then-digit-ne48 c =
    let a = c.args in
    let l = c.loop-end in
    let e : l.end ≡ l.end - 1 + 1 = omega arith in
    subst (λ (k : ℕ). Trims (digits_here a.six.now 0) a.point k) e (trim_stop (digits_here a.six.now 0) a.point l.end c.digit.result (ten_here a.six.now 0) c.loop-end-test.true l.auto.end c.digit.ensures c.if-digit-ne48.true l.invariant.1)

pub loop-end-preserved : goal.loop-end-preserved
loop-end-preserved c = let a = c.args in let l = c.loop-end in (omega arith, trim_one (digits_here a.six.now 0) a.point l.end c.digit.result (ten_here a.six.now 0) c.loop-end-test.true l.auto.end c.digit.ensures c.if-digit-ne48.false l.invariant.1)

pub returns : goal.returns
returns c =
    let a = c.args in
    let l = c.loop-end in
    let e : l.end ≡ a.point = omega arith in
    subst (λ (k : ℕ). Trims (digits_here a.six.now 0) a.point k) e (trim_none (digits_here a.six.now 0) a.point l.end (omega arith) (omega arith) l.auto.end l.invariant.1)
