-- Past the end nothing is written; else the parts, one after the other.
use Prim.Native.Nat.{ℕ, ◌-◌}
use native.Mathlib.Omega.{arith}
use mathlib.Core.Path.{◌≡◌, subst}
use mathlib.Core.List.{List}
use lib.ListN.{length}
use Rattle.std.proofs.lemmas.List.Edits.{sets}
use Rattle.constant_text.specs.Texts.{digits_here}
use Rattle.constant_text.proofs.TextDigits.{ten_here}
use Rattle.constant_text.proofs.TextWrites.{text_out, text_in, whole_next, fraction_next}
use Rattle.constant_text.proofs.Sixes.{same_text}
use Rattle.constant_text.proofs.write_text.Goals as goal

pub returns-then-out-n : goal.returns-then-out-n
returns-then-out-n c =
    let a = c.args in
    subst (λ (t : List ℕ). (c.size.result ≡ length t) × (a.out.now ≡ sets a.out.now a.n t)) (same_text a.s.now a.at c.six_at-six.ensures)
    (text_out a.out.now c.laid_out-layout.ensures (ten_here c.six_at-six.result 0) c.size.ensures c.if-out-n.true)

pub write_fraction-power-requires : goal.write_fraction-power-requires
write_fraction-power-requires c = omega (arith, whole_next (digits_here c.six_at-six.result 0) c.laid_out-layout.result (ten_here c.six_at-six.result 0) c.write_whole-point.ensures, c.write_whole-point.auto.out)

pub write_power-end-requires : goal.write_power-end-requires
write_power-end-requires c = omega (arith, whole_next (digits_here c.six_at-six.result 0) c.laid_out-layout.result (ten_here c.six_at-six.result 0) c.write_whole-point.ensures, fraction_next (digits_here c.six_at-six.result 0) c.laid_out-layout.result (ten_here c.six_at-six.result 0) c.write_fraction-power.ensures, c.write_whole-point.auto.out, c.write_fraction-power.auto.out)

pub returns : goal.returns
returns c =
    let a = c.args in
    subst (λ (t : List ℕ). (c.write_power-end.result - a.n ≡ length t) × (c.write_power-end.new.out ≡ sets a.out.now a.n t)) (same_text a.s.now a.at c.six_at-six.ensures)
    (text_in c.laid_out-layout.ensures c.write_whole-point.ensures c.write_fraction-power.ensures c.write_power-end.ensures)
