use Rattle.refutation_check.proofs.Reading.{read_on, broken}
use Rattle.refutation_check.proofs.lines.read_on.Goals as goal

pub returns-then-not-branch : goal.returns-then-not-branch
returns-then-not-branch c =
    broken c.args.rules.now c.loop-place.rules c.loop-place.stack c.args.lines.now c.loop-place.place
    c.index-lines-place.result c.step.new.rules c.step.new.stack c.in_ok-step.field-0
    c.index-lines-place.is c.loop-place-test.true c.loop-place.invariant c.if-not-branch.true c.in_ok-step.ensures.left

pub loop-place-preserved : goal.loop-place-preserved
loop-place-preserved c =
    read_on c.args.rules.now c.loop-place.rules c.loop-place.stack c.args.lines.now c.loop-place.place
    c.index-lines-place.result c.step.new.rules c.step.new.stack c.in_ok-step.field-0
    c.index-lines-place.is c.loop-place-test.true c.loop-place.invariant c.if-not-branch.false c.in_ok-step.ensures.left
    c.in_ok-step.ensures.same
