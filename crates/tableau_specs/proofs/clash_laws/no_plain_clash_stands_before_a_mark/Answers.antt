use Rattle.tableau_specs.proofs.Marks.{reached_before}
use Rattle.tableau_specs.proofs.clash_laws.no_plain_clash_stands_before_a_mark.Goals as goal

pub returns : goal.returns
returns c = reached_before
