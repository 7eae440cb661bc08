use Rattle.absorption.proofs.Lacking.{lack_nothing}
use Rattle.absorption.proofs.closure_laws.closed_tables_lack_nothing.Goals as goal

pub returns : goal.returns
returns c = lack_nothing
