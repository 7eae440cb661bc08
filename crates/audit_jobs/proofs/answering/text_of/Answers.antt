use Rattle.std.proofs.Common.{}
use Rattle.job_inputs.specs.Answer.{text_bytes}
use Rattle.audit_jobs.proofs.Sound.{can_be_listed, names_listed}
use Rattle.audit_jobs.proofs.Answered.{text_by}
use Rattle.audit_jobs.proofs.answering.text_of.Goals as goal

pub audit_of-requires : goal.audit_of-requires
audit_of-requires c =
    can_be_listed c.args.ontology.now c.args.query.now c.args.searched.now.found c.args.searched.now.evidence
    c.requires.witnessed c.requires.finished

pub written-text-requires : goal.written-text-requires
written-text-requires c =
    names_listed c.args.ontology.now c.args.query.now c.args.searched.now.found c.args.searched.now.evidence
    c.requires.witnessed c.requires.finished c.in_ok-audit.audit c.in_ok-audit.ensures

pub returns : goal.returns
returns c =
    text_by c.args.ontology.now c.args.query.now c.args.searched.now.found c.args.searched.now.evidence
    c.requires.witnessed c.requires.finished c.in_ok-audit.audit c.in_ok-audit.ensures c.written-text.result text_bytes
    c.written-text.ensures.text c.written-text.ensures.kept
