use Rattle.search_laws.proofs.TrailLaws.{the_start_stays}
use Rattle.search_laws.proofs.trail_laws.the_start_stays.Goals as goal

pub returns : goal.returns
returns c = the_start_stays
