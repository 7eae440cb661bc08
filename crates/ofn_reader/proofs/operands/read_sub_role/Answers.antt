use Rattle.ofn_reader.proofs.Meanings.{sub_role_means}
use Rattle.ofn_reader.proofs.operands.read_sub_role.Goals as goal

pub returns-clause-value : goal.returns-clause-value
returns-clause-value c =
    sub_role_means c.args.prefixes.now c.read_role.new.state.counts c.read_role-2.new.state.counts c.args.sub.now
    c.args.sup.now c.in_ok-sub.sub c.in_ok-sup.sup c.in_ok-sub.ensures.value c.in_ok-sup.ensures.tests
    c.in_ok-sup.ensures.value
