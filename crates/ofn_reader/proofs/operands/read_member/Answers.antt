use Rattle.ofn_reader.proofs.Meanings.{member_value}
use Rattle.ofn_reader.proofs.operands.read_member.Goals as goal

pub returns-clause-value : goal.returns-clause-value
returns-clause-value c =
    member_value c.args.prefixes.now c.read_class.new.state.counts c.read_individual-individual.new.state.counts
    c.args.class.now c.args.individual.now c.in_ok-class.class c.read_individual-individual.result c.member_of.result
    c.member_of.ensures c.in_ok-class.ensures.value c.read_individual-individual.ensures.tests
    c.read_individual-individual.ensures.value
