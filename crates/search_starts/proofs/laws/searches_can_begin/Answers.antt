use Rattle.std.proofs.Common.{}
use Rattle.search_starts.proofs.Everywhere.{can_begin}
use Rattle.search_starts.proofs.laws.searches_can_begin.Goals as goal

pub returns : goal.returns
returns c = can_begin
