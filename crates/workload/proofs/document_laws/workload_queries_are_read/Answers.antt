use Rattle.workload.proofs.Asked.{queries_are_read}
use Rattle.workload.proofs.document_laws.workload_queries_are_read.Goals as goal

pub returns : goal.returns
returns c = queries_are_read
