use Rattle.search_trace.proofs.Among.{premise_stays}
use Rattle.search_trace.proofs.closing_laws.premises_stay.Goals as goal

pub returns : goal.returns
returns c = premise_stays
