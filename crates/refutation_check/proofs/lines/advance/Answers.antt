use Rattle.refutation_rules.specs.RuleLine.{line_of}
use Rattle.refutation_check.proofs.Steps.{move, ready, left_if}
use Rattle.refutation_check.proofs.lines.advance.Goals as goal

pub put-requires-clause-ready : goal.put-requires-clause-ready
put-requires-clause-ready c =
    let f = c.args.rules.now in
    let g = c.outcome.new.self in
    let o = c.args.stack.now in
    let line = line_of c.args.line.now in
    let out = c.in_ok-outcome.outcome in
    let left = c.in_ok-outcome.ensures in
    ready f g o line out
    (move f g o line out c.branch-stack.result.now c.is_closed.result c.is_closed.ensures c.if-is_closed.false
    c.branch-stack.ensures c.requires left.same left.kept left.outcome.children left.outcome.fit)

pub returns-clause-left : goal.returns-clause-left
returns-clause-left c =
    let f = c.args.rules.now in
    let g = c.outcome.new.self in
    let o = c.args.stack.now in
    let line = line_of c.args.line.now in
    let out = c.in_ok-outcome.outcome in
    let left = c.in_ok-outcome.ensures in
    let moved =
    move f g o line out c.branch-stack.result.now c.is_closed.result c.is_closed.ensures c.if-is_closed.false
    c.branch-stack.ensures c.requires left.same left.kept left.outcome.children left.outcome.fit in
    left_if f g o line out c.put.new.stack moved c.in_ok-put.ensures
