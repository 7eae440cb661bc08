use Rattle.std.proofs.Common.{}
use Rattle.ontology_jobs.proofs.BadWords.{ask_for_nothing}
use Rattle.ontology_jobs.proofs.laws.bad_words_ask_for_nothing.Goals as goal

pub returns : goal.returns
returns c = ask_for_nothing
