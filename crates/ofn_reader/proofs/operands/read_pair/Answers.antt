use Rattle.ofn_reader.proofs.Meanings.{pair_value}
use Rattle.ofn_reader.proofs.operands.read_pair.Goals as goal

pub returns-clause-value : goal.returns-clause-value
returns-clause-value c =
    pair_value c.args.prefixes.now c.read_class.new.state.counts c.read_class-sup.new.state.counts c.args.sub.now
    c.args.sup.now c.in_ok-sub.sub c.read_class-sup.result c.pair_of.result c.pair_of.ensures c.in_ok-sub.ensures.value
    c.read_class-sup.ensures.tests c.read_class-sup.ensures.value
