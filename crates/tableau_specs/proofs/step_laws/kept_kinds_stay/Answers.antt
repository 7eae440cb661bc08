use Rattle.tableau_specs.proofs.KeptKinds.{kept_kinds_stay}
use Rattle.tableau_specs.proofs.step_laws.kept_kinds_stay.Goals as goal

pub returns : goal.returns
returns c = kept_kinds_stay
