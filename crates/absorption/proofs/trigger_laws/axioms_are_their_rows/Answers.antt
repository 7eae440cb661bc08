use Rattle.absorption.proofs.Meets.{axiom_is_rows}
use Rattle.absorption.proofs.trigger_laws.axioms_are_their_rows.Goals as goal

pub returns : goal.returns
returns c = axiom_is_rows
