use Rattle.ofn_reader.proofs.Meanings.{equivalent_classes_mean}
use Rattle.ofn_reader.proofs.operands.read_equivalent_classes.Goals as goal

pub returns-clause-value : goal.returns-clause-value
returns-clause-value c =
    equivalent_classes_mean c.args.prefixes.now c.read_classes.new.state.counts c.args.items.now c.in_ok-classes.classes
    c.in_ok-classes.ensures.value
