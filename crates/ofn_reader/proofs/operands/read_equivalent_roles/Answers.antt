use Rattle.ofn_reader.proofs.Meanings.{equivalent_roles_mean}
use Rattle.ofn_reader.proofs.operands.read_equivalent_roles.Goals as goal

pub returns-clause-value : goal.returns-clause-value
returns-clause-value c =
    equivalent_roles_mean c.args.prefixes.now c.read_roles.new.state.counts c.args.items.now c.in_ok-roles.roles
    c.in_ok-roles.ensures.value
