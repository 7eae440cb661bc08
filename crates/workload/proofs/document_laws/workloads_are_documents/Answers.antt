use Rattle.workload.proofs.Whole as whole
use Rattle.workload.proofs.document_laws.workloads_are_documents.Goals as goal

pub returns : goal.returns
returns c = whole.workloads_are_documents
