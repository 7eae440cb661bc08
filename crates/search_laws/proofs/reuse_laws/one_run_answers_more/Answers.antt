use Rattle.search_laws.proofs.Answering.{one_run_answers_more}
use Rattle.search_laws.proofs.reuse_laws.one_run_answers_more.Goals as goal

pub returns : goal.returns
returns c = one_run_answers_more
