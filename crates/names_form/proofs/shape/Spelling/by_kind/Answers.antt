use Rattle.names_form.proofs.Shapes.{kind_string, kind_array, kind_number}
use Rattle.names_form.proofs.shape.Spelling.by_kind.Goals as goal

pub returns-in-36 : goal.returns-in-36
returns-in-36 c = kind_string c.args.self.front.now _ _ _ _ c.in-36.is

pub returns-in-40 : goal.returns-in-40
returns-in-40 c = kind_array c.args.self.front.now _ _ _ _ c.in-40.is

pub returns-in_default : goal.returns-in_default
returns-in_default c = kind_number c.args.self.front.now _ _ _ _ c.in_default.in_default-own.rest.0.1 c.in_default.in_default-own.rest.1
