use Rattle.std.proofs.Common.{◌∙◌, length}
use Rattle.role_box.proofs.Answering.{simple_from_test}
use Rattle.role_box.proofs.role_box.RoleBox.simple.Goals as goal

pub returns : goal.returns
returns c =
    rw (← c.self.view_is)
    (simple_from_test c.self.inside.axioms.items (length c.self.inside.rows.items) c.args.role c.has_number.result
    c.self.invariant.listed
    (c.has_number.ensures ∙ c.self.invariant.complex_are c.args.role))
