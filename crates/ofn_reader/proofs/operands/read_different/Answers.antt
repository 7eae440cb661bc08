use Rattle.ofn_reader.proofs.Meanings.{different_mean}
use Rattle.ofn_reader.proofs.operands.read_different.Goals as goal

pub returns-clause-value : goal.returns-clause-value
returns-clause-value c =
    different_mean c.args.prefixes.now c.read_individuals.new.state.counts c.args.items.now
    c.in_ok-individuals.individuals c.in_ok-individuals.ensures.value
