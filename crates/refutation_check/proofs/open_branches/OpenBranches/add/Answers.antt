use Rattle.std.proofs.Common.{reverse}
use Rattle.refutation_check.proofs.Within.{facts_within, facts_known}
use Rattle.refutation_check.proofs.open_branches.OpenBranches.add.Goals as goal

pub invariant_of-self-2 : goal.invariant_of-self-2
invariant_of-self-2 c =
    facts_within (reverse c.self.inside.pending.items) c.self.inside.branch c.add.new.self c.args.fact
    c.in_ok-add.ensures.added c.self.invariant

pub returns : goal.returns
returns c =
    facts_known c.self.inside.pending.items c.self.inside.closed c.self.inside.branch c.add.new.self c.args.fact
    c.args.self.now
    c.in_ok-add.ensures.added c.self.invariant c.self.view_is
