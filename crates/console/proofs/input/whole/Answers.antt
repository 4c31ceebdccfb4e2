-- `whole` is all bytes of a line or none.
use Rattle.std.proofs.Common.{ℕ, ◌-◌, ◌≡◌, take, arith, sym, ap, ◌∙◌}
use Rattle.console.specs.Fields.{kept_all, kept_none}
use Rattle.console.proofs.input.whole.Goals as goal

pub returns-in-Some : goal.returns-in-Some
returns-in-Some c =
    let h = c.in-Some.ensures.lookup.0 in
    let all : c.args.size - 0 ≡ c.args.size = omega arith in
    h.2 ∙ ap (λ (n : ℕ). take n c.args.line.now) all ∙ sym (kept_all c.args.size c.args.line.now h.1)

pub returns-in-None : goal.returns-in-None
returns-in-None c = let h = c.in-None.ensures.lookup.0 in sym (kept_none c.args.size c.args.line.now (omega (arith, h)))
