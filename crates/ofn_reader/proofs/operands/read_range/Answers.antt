use Rattle.ofn_reader.proofs.Meanings.{range_means}
use Rattle.ofn_reader.proofs.operands.read_range.Goals as goal

pub returns-clause-value : goal.returns-clause-value
returns-clause-value c =
    range_means c.args.prefixes.now c.read_role.new.state.counts c.read_class.new.state.counts c.args.role.now
    c.args.class.now c.in_ok-role.role c.in_ok-class.class c.in_ok-role.ensures.value c.in_ok-class.ensures.tests
    c.in_ok-class.ensures.value
