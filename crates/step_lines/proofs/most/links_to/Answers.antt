use Rattle.std.proofs.Common.{arith, get_or}
use Rattle.step_lines.proofs.Many.{link_of, link_more}
use Rattle.step_lines.proofs.most.links_to.Goals as goal

pub loop-end-preserved : goal.loop-end-preserved
loop-end-preserved g c =
    let w = g.R.Rules.context c.args.search.now.rules.now in
    let fs = g.S.State.facts c.args.search.now.state.now in
    let i = c.loop-end.end-index in
    link_more w fs c.args.node c.args.role c.args.filler c.args.ends.now i c.role_of.result c.loop-end.links.items
    c.push.new.self.items c.loop-end.invariant (omega (arith, c.loop-end-test.true))
    (link_of w fs c.args.node c.args.role c.args.filler (get_or c.args.ends.now i 0) c.role_of.result
    (c.requires i 0 (omega (arith, c.loop-end-test.true))) c.role_of.ensures)
    c.in_ok-push.ensures.items
