use Rattle.tableau_specs.proofs.Marks.{reached_speak}
use Rattle.tableau_specs.proofs.clash_laws.reached_facts_speak_of_nodes.Goals as goal

pub returns : goal.returns
returns c = reached_speak
