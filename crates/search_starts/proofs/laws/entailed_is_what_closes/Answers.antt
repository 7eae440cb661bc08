use Rattle.std.proofs.Common.{}
use Rattle.search_starts.proofs.Everywhere.{is_what_closes}
use Rattle.search_starts.proofs.laws.entailed_is_what_closes.Goals as goal

pub returns : goal.returns
returns c = is_what_closes
