use Rattle.std.proofs.Common.{◌+◌, arith}
use Rattle.subsumption.proofs.Begun.{first_is_open, begins_all, begun_all, alike_then}
use Rattle.subsumption.proofs.progress.Progress.settle_all.Goals as goal

pub ask-requires-clause-open : goal.ask-requires-clause-open
ask-requires-clause-open c =
    first_is_open c.args.oracle.now c.args.self.now c.requires.going c.requires.unlogged c.class_count-count.result
    (c.class_count-count.result + 1) c.class_count-count.ensures.count
    (omega (arith, c.class_count-count.ensures.count))

pub returns-in_err-ask-clause-first : goal.returns-in_err-ask-clause-first
returns-in_err-ask-clause-first c =
    begins_all c.args.self.now.known.count c.class_count-count.result (c.class_count-count.result + 1) c.args.oracle.now
    c.ask.new.oracle c.class_count-count.ensures.count (omega (arith, c.class_count-count.ensures.count))
    c.requires.unlogged
    c.in_err-ask.ensures.begins

pub returns-in_err-settle_told-clause-first : goal.returns-in_err-settle_told-clause-first
returns-in_err-settle_told-clause-first c =
    begun_all c.args.self.now.known.count c.class_count-count.result (c.class_count-count.result + 1) c.args.oracle.now
    c.ask.new.oracle c.settle_told.new.oracle c.class_count-count.ensures.count
    (omega (arith, c.class_count-count.ensures.count))
    c.requires.unlogged c.in_ok-ask.ensures.begun c.in_err-settle_told.ensures.alike

pub returns-in_err-settle_lowest-clause-first : goal.returns-in_err-settle_lowest-clause-first
returns-in_err-settle_lowest-clause-first c =
    begun_all c.args.self.now.known.count c.class_count-count.result (c.class_count-count.result + 1) c.args.oracle.now
    c.ask.new.oracle c.settle_lowest.new.oracle c.class_count-count.ensures.count
    (omega (arith, c.class_count-count.ensures.count))
    c.requires.unlogged c.in_ok-ask.ensures.begun
    (alike_then c.ask.new.oracle c.settle_told.new.oracle c.settle_lowest.new.oracle c.in_ok-settle_told.ensures.alike
    c.in_err-settle_lowest.ensures.alike)

pub returns-clause-first : goal.returns-clause-first
returns-clause-first c =
    let later =
    alike_then c.settle_told.new.oracle c.settle_lowest.new.oracle c.settle_classes.new.oracle
    c.in_ok-settle_lowest.ensures.alike c.settle_classes.ensures.alike in
    begun_all c.args.self.now.known.count c.class_count-count.result (c.class_count-count.result + 1) c.args.oracle.now
    c.ask.new.oracle c.settle_classes.new.oracle c.class_count-count.ensures.count
    (omega (arith, c.class_count-count.ensures.count))
    c.requires.unlogged c.in_ok-ask.ensures.begun
    (alike_then c.ask.new.oracle c.settle_told.new.oracle c.settle_classes.new.oracle c.in_ok-settle_told.ensures.alike
    later)
