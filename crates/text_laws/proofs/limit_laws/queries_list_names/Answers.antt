use Rattle.text_laws.proofs.InLimit.{queries_list_names}
use Rattle.text_laws.proofs.limit_laws.queries_list_names.Goals as goal

pub returns : goal.returns
returns c = queries_list_names
