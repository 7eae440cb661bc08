use Rattle.query_asker.proofs.Holding.{holders_do}
use Rattle.query_asker.proofs.law.holders_keep_answers.Goals as goal

pub returns : goal.returns
returns c = holders_do
