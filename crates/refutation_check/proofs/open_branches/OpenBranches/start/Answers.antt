use Rattle.refutation_check.proofs.Ranges.{none_known}
use Rattle.refutation_check.proofs.open_branches.OpenBranches.start.Goals as goal

pub know_all-requires-clause-new : goal.know_all-requires-clause-new
know_all-requires-clause-new c = none_known c.args.self.now.branch.nodes c.requires.nodes 0 c.args.nodes.now.count
