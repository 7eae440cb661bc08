use Rattle.tableau_specs.proofs.ClashLines.{line_clashes}
use Rattle.tableau_specs.proofs.line_laws.childless_lines_are_clashes.Goals as goal

pub returns : goal.returns
returns c = line_clashes
