use Rattle.std.proofs.Common.{◌∙◌}
use Rattle.individual_jobs.proofs.Written.{none_listed}
use Rattle.individual_jobs.proofs.writing.listed_axioms.Goals as goal

pub loop-one-init : goal.loop-one-init
loop-one-init c = record {
  limit = c.in_ok-listed.ensures.limit ∙ c.axiom_count.ensures.count;
  members = none_listed c.in_ok-listed.listed.members c.in_ok-listed.ensures.members;
}
