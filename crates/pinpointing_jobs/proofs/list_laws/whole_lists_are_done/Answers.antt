use Rattle.std.proofs.Common.{}
use Rattle.pinpointing_jobs.proofs.Whole.{lists_done, counts_done}
use Rattle.pinpointing_jobs.proofs.list_laws.whole_lists_are_done.Goals as goal

pub returns-clause-lists : goal.returns-clause-lists
returns-clause-lists c = lists_done

pub returns-clause-counts : goal.returns-clause-counts
returns-clause-counts c = counts_done
