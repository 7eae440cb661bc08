use Rattle.query_asker.proofs.Local.{all_keep}
use Rattle.query_asker.proofs.asker.Asker.new.Goals as goal

pub made-requires-clause-keeps : goal.made-requires-clause-keeps
made-requires-clause-keeps c = all_keep c.args.oracle.ontology.axioms c.args.query.now
