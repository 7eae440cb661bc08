use Rattle.std.proofs.Common.{◌≡◌, ◌++◌, drop}
use Rattle.finite_model.specs.Written.{role_lines}
use Rattle.finite_model.proofs.interp.Interp.push_roles.Given as goal

abbrev pub invariant-loop-role : goal.invariant-loop-role
invariant-loop-role l =
    l.text.items ++ role_lines l.role (drop l.role l.ontology.roles) l.self.links
    ≡ l.fn.text.items ++ role_lines 0 l.ontology.roles l.self.links
