use Rattle.std.proofs.Common.{}
use Rattle.pinpointing_jobs.proofs.Asked.{all_want}
use Rattle.pinpointing_jobs.proofs.workloads.MeasureJob.read.Goals as goal

pub returns-clause-unread : goal.returns-clause-unread
returns-clause-unread c = all_want c.args.self.now.number c.args.bytes.now c.read_input.result c.read_input.ensures.unread
