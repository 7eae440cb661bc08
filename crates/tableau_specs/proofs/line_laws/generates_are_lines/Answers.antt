use Rattle.tableau_specs.proofs.GenerateLines.{generate_is_line}
use Rattle.tableau_specs.proofs.line_laws.generates_are_lines.Goals as goal

pub returns : goal.returns
returns c = λ w q fs new over generates room. generate_is_line w q fs over new generates room
