use Rattle.std.proofs.Common.{◌≡◌}
use Rattle.shq_terms.specs.declared.axioms.Axiom.TheVariants.{SubRole}
use Rattle.ofn_writer.proofs.axioms.put_axiom.Goals as goal

pub returns-in-SubRole : goal.returns-in-SubRole
returns-in-SubRole c =
    let is : c.args.axiom.now ≡ SubRole c.in-SubRole.role c.in-SubRole.other = cc in
    rw is c.put_role_pair.ensures
