use Rattle.tableau_specs.proofs.ClashLines.{clash_is_line}
use Rattle.tableau_specs.proofs.line_laws.clashes_are_lines.Goals as goal

pub returns : goal.returns
returns c = clash_is_line
