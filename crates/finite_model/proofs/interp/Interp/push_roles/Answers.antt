use Rattle.std.proofs.Common.{◌≡◌, ◌∙◌, ◌++◌, ap}
use Rattle.finite_model.specs.Written.{pairs_of, role_line, role_lines}
use Rattle.finite_model.proofs.Texts.{role_lines_more}
use Rattle.finite_model.proofs.interp.Interp.push_roles.Goals as goal

pub loop-role-preserved : goal.loop-role-preserved
loop-role-preserved c =
    let pairs : c.deref.result.now ≡ pairs_of c.loop-role.role c.args.self.now.links =
    c.deref.ensures.value ∙ c.in_ok-pairs.ensures in
    role_lines_more c.args.ontology.now.roles c.loop-role.role c.role_name.result.now c.args.self.now.links
    c.push_role.new.text.items c.loop-role.text.items c.args.text.now.items
    (role_lines 0 c.args.ontology.now.roles c.args.self.now.links) c.role_name.ensures
    (c.in_ok-push_role.ensures ∙ ap (λ xs. c.loop-role.text.items ++ role_line c.role_name.result.now xs) pairs)
    c.loop-role.invariant
