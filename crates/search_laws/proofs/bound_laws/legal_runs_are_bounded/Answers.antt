use Rattle.search_laws.proofs.Bounds.{legal_runs_are_bounded}
use Rattle.search_laws.proofs.bound_laws.legal_runs_are_bounded.Goals as goal

pub returns : goal.returns
returns c = legal_runs_are_bounded
