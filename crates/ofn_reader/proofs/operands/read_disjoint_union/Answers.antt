use Rattle.ofn_reader.proofs.Meanings.{union_means}
use Rattle.ofn_reader.proofs.operands.read_disjoint_union.Goals as goal

pub returns-clause-value : goal.returns-clause-value
returns-clause-value c =
    union_means c.args.prefixes.now c.read_class_name.new.state.counts c.read_classes.new.state.counts c.args.name.now
    c.args.classes.now c.in_ok-name.name c.in_ok-classes.classes c.in_ok-name.ensures.value
    c.in_ok-classes.ensures.tests c.in_ok-classes.ensures.value
