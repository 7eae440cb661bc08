use Rattle.audit_check.proofs.Complete.{lists_all}
use Rattle.audit_check.proofs.laws.sound_audits_list_all.Goals as goal

pub returns : goal.returns
returns c = lists_all
