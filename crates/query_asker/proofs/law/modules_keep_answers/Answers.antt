use Rattle.query_asker.proofs.Local.{modules_do}
use Rattle.query_asker.proofs.law.modules_keep_answers.Goals as goal

pub returns : goal.returns
returns c = modules_do
