use Rattle.search_trace.proofs.Plain.{refutes}
use Rattle.search_trace.proofs.closing_laws.closed_traces_refute.Goals as goal

pub returns : goal.returns
returns c = refutes
