use Rattle.ofn_reader.proofs.Meanings.{same_mean}
use Rattle.ofn_reader.proofs.operands.read_same.Goals as goal

pub returns-clause-value : goal.returns-clause-value
returns-clause-value c =
    same_mean c.args.prefixes.now c.read_individuals.new.state.counts c.args.items.now c.in_ok-individuals.individuals
    c.in_ok-individuals.ensures.value
