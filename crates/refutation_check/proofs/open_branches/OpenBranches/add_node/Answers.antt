use Rattle.std.proofs.Common.{reverse}
use Rattle.refutation_check.proofs.Within.{nodes_within, node_known}
use Rattle.refutation_check.proofs.open_branches.OpenBranches.add_node.Goals as goal

pub invariant_of-self-2 : goal.invariant_of-self-2
invariant_of-self-2 c =
    nodes_within (reverse c.self.inside.pending.items) c.self.inside.branch c.add_node.new.self c.args.node
    c.in_ok-add_node.ensures.added c.self.invariant

pub returns : goal.returns
returns c =
    node_known c.self.inside.pending.items c.self.inside.closed c.self.inside.branch c.add_node.new.self c.args.node
    c.args.self.now
    c.in_ok-add_node.ensures.added c.self.invariant c.self.view_is
