use Rattle.std.proofs.Common.{}
use Rattle.search_starts.proofs.Everywhere.{is_decided}
use Rattle.search_starts.proofs.laws.each_question_is_decided.Goals as goal

pub returns : goal.returns
returns c = is_decided
