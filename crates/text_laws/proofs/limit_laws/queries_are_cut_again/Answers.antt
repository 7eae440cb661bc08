use Rattle.text_laws.proofs.Additions.{queries_cut_again}
use Rattle.text_laws.proofs.limit_laws.queries_are_cut_again.Goals as goal

pub returns : goal.returns
returns c = queries_cut_again
