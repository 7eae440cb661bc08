use Rattle.std.proofs.Common.{}
use Rattle.pinpointing_jobs.proofs.Unique.{unique}
use Rattle.pinpointing_jobs.proofs.laws.lists_are_unique.Goals as goal

pub returns : goal.returns
returns c = unique
