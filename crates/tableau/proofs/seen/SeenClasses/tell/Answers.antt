use Rattle.std.proofs.Common.{arith}
use Rattle.search_state.specs.Trail.{facts_in}
use Rattle.tableau.proofs.Telling.{told_other}
use Rattle.tableau.proofs.seen.SeenClasses.tell.Goals as goal

pub returns-then-node-first-clause-told : goal.returns-then-node-first-clause-told
returns-then-node-first-clause-told g c =
    told_other c.args.tree.now.first c.args.at (g.R.Rules.context c.args.rules.now).table
    (facts_in c.args.tree.now.entries) c.args.node c.args.concept c.args.self.now c.tell_other.new.self
    c.if-is_asked.false (omega (arith, c.if-node-first.true, c.first.ensures.first)) c.tell_other.ensures.told
