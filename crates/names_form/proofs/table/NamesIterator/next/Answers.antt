use Rattle.std.proofs.Common.{length, take, arith, rules, ap, ◌∙◌, sym}
use Rattle.names_form.proofs.Walking.{no_bytes, name_first}
use Rattle.names_form.proofs.table.NamesIterator.next.Goals as goal

pub returns-in_err-last-clause-steps : goal.returns-in_err-last-clause-steps
returns-in_err-last-clause-steps c =
    let bs = c.args.self.now.rest.now in
    let none = no_bytes bs (ap (λ k. length (take k bs)) (sym c.first_size.ensures.0) ∙ sym (ap length c.split_at.ensures.front) ∙ c.in_err-last.ensures.cases) in
    rw c.from_residual.ensures (none, none)

pub returns-clause-steps : goal.returns-clause-steps
returns-clause-steps c =
    rw c.clear.ensures (name_first c.args.self.now.rest.now c.in_ok-last.front.now c.in_ok-last.last.now c.first_size.ensures.0 (sym c.split_at.ensures.front ∙ c.in_ok-last.ensures.cases.0) c.split_at.ensures.back)

pub returns-clause-goes : goal.returns-clause-goes
returns-clause-goes c =
    let e = name_first c.args.self.now.rest.now c.in_ok-last.front.now c.in_ok-last.last.now c.first_size.ensures.0 (sym c.split_at.ensures.front ∙ c.in_ok-last.ensures.cases.0) c.split_at.ensures.back in
    record { on = λ f. (search rules, search rules, omega (arith, ap length e)); keeps = search rules; rests = search rules }
