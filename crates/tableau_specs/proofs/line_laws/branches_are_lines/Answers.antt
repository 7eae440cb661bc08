use Rattle.tableau_specs.proofs.BranchLines.{branch_is_line}
use Rattle.tableau_specs.proofs.line_laws.branches_are_lines.Goals as goal

pub returns : goal.returns
returns c = branch_is_line
