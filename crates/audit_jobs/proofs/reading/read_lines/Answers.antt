use Rattle.audit_jobs.proofs.Reasons.{line_said}
use Rattle.audit_jobs.proofs.reading.read_lines.Goals as goal

pub returns-in-Err-clause-unread : goal.returns-in-Err-clause-unread
returns-in-Err-clause-unread c =
    line_said c.args.ontology.now c.args.lines.now c.in-Err.fault c.from.result c.from.ensures c.requires
    c.in-Err.ensures.first
