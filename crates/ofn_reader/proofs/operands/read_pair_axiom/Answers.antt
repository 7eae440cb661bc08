use Rattle.ofn_reader.proofs.Meanings.{pair_axiom_means}
use Rattle.ofn_reader.proofs.operands.read_pair_axiom.Goals as goal

pub returns-clause-value : goal.returns-clause-value
returns-clause-value c =
    pair_axiom_means c.args.prefixes.now c.read_role.new.state.counts c.read_individual.new.state.counts
    c.read_individual-2.new.state.counts c.args.role.now c.args.from.now c.args.to.now c.in_ok-role.role
    c.in_ok-from.from c.in_ok-to.to c.in_ok-role.ensures.value c.in_ok-from.ensures.tests c.in_ok-from.ensures.value
    c.in_ok-to.ensures.tests c.in_ok-to.ensures.value
