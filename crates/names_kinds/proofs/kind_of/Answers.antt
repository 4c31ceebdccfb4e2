use Rattle.std.proofs.Common.{◌≡◌, ◌+◌, ◌∙◌, arith, true, false}
use Rattle.names_kinds.specs.Kinds.{class_bounds}
use Rattle.names_kinds.proofs.Listing.{class_made, kind_made}
use Rattle.names_form.specs.Names.{spelling}
use Rattle.names_kinds.proofs.kind_of.Goals as goal

pub overflow_add-result : goal.overflow_add-result
overflow_add-result c = record { fits = omega (arith, class_made (spelling c.args.name) c.by_kind-kind.ensures, class_bounds (spelling c.args.name)) }

pub returns-then-is_statement : goal.returns-then-is_statement
returns-then-is_statement c = kind_made _ true c.by_kind-kind.ensures c.is_statement.ensures c.if-is_statement.true

pub returns-else-is_statement : goal.returns-else-is_statement
returns-else-is_statement c = (let z : c.by_kind-kind.result ≡ c.by_kind-kind.result + 0 = omega arith in z) ∙ kind_made _ false c.by_kind-kind.ensures c.is_statement.ensures c.if-is_statement.false
