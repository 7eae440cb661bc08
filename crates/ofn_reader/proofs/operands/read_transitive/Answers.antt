use Rattle.ofn_reader.proofs.Meanings.{transitive_means}
use Rattle.ofn_reader.proofs.operands.read_transitive.Goals as goal

pub returns-clause-value : goal.returns-clause-value
returns-clause-value c =
    transitive_means c.args.prefixes.now c.read_role.new.state.counts c.args.role.now c.in_ok-role.role
    c.in_ok-role.ensures.value
