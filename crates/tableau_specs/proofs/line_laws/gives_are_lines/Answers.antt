use Rattle.tableau_specs.proofs.AddLines.{give_is_line}
use Rattle.tableau_specs.proofs.line_laws.gives_are_lines.Goals as goal

pub returns : goal.returns
returns c = give_is_line
