use Rattle.tableau_specs.proofs.AddLines.{add_is_line}
use Rattle.tableau_specs.proofs.line_laws.adds_are_lines.Goals as goal

pub returns : goal.returns
returns c = add_is_line
