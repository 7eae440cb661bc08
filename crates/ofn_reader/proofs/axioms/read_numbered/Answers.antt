use Rattle.ofn_tree.specs.Items.{items_of}
use Rattle.ofn_reader.specs.Axioms.{numbered_tests}
use Rattle.ofn_reader.proofs.Heads.{judged_done}
use Rattle.ofn_reader.proofs.axioms.read_numbered.Goals as goal

pub returns-clause-tests : goal.returns-clause-tests
returns-clause-tests c =
    judged_done c.add_axiom.result c.args.state.now.counts c.read_operands_of.new.state c.add_axiom.new.self _
    (numbered_tests c.args.prefixes.now c.args.kind c.args.line (items_of c.args.items.now)) c.in_ok-axiom.ensures.tests
    c.add_axiom.ensures.added c.add_axiom.ensures.memory
