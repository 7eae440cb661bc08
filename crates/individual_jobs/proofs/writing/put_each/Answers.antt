use Rattle.individual_jobs.proofs.Written.{lines_more}
use Rattle.individual_jobs.proofs.writing.put_each.Goals as goal

pub loop-one-preserved : goal.loop-one-preserved
loop-one-preserved c =
    lines_more c.args.ontology.now c.args.reasons.now c.loop-one.one-index c.one-item.result c.loop-one.text.items
    c.put_reasons.new.text.items _ c.loop-one-test.true c.one-item.is c.in_ok-put_reasons.ensures c.loop-one.invariant
