use Rattle.individual_jobs.proofs.Asked.{queries_more}
use Rattle.individual_jobs.proofs.queries.instance_queries.Goals as goal

pub loop-individual-preserved : goal.loop-individual-preserved
loop-individual-preserved c =
    queries_more c.args.class.now c.loop-individual.individual c.loop-individual.queries.items c.push.new.self.items
    c.in_ok-query_on.field-0 c.in_ok-push.ensures.items c.loop-individual.invariant c.in_ok-query_on.ensures
